use Rattle.std.proofs.Common.{◌≡◌, ◌≤◌, ◌<◌, ◌+◌, IsTrue, take}
use Rattle.std.specs.List.{list_any}
use Rattle.vortex_terms.specs.FromColumns.{masked}
use Rattle.vortex_terms.specs.Row.{whole_row}
use Rattle.vortex_leaves.specs.Numbers.{number_rows}
use Rattle.vortex_array_compare.specs.inner.ComparedRows.{row_truths}
use Rattle.vortex_array_compare.proofs.compare_numbers.number_truths.Given as goal

abbrev pub invariant-loop-i : goal.invariant-loop-i
invariant-loop-i g l = record {
  truths : l.truths ≡ row_truths l.operator (whole_row l.value) (take l.i (masked l.validity (number_rows l.numbers)));
  rise : l.fn.steps ≤ l.steps;
  most : l.steps ≤ l.fn.steps + l.i;
  least : IsTrue (list_any (λ b. b) l.truths) → l.fn.steps < l.steps;
}
