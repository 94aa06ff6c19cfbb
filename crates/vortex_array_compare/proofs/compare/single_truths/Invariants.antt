use Rattle.std.proofs.Common.{◌≡◌, ◌≤◌, ◌<◌, ◌+◌, IsTrue, take}
use Rattle.std.specs.List.{list_any}
use Rattle.vortex_value_rows.specs.RowOf.{row_under}
use Rattle.vortex_array_compare.specs.inner.ComparedRows.{row_truths}
use Rattle.vortex_array_compare.proofs.compare.single_truths.Given as goal

abbrev pub invariant-loop-i : goal.invariant-loop-i
invariant-loop-i g l = record {
  truths : l.truths ≡ row_truths l.operator (row_under l.array.dtype l.value) (take l.i l.array.rows);
  rise : l.fn.steps ≤ l.steps;
  most : l.steps ≤ l.fn.steps + l.i;
  least : IsTrue (list_any (λ b. b) l.truths) → l.fn.steps < l.steps;
}
