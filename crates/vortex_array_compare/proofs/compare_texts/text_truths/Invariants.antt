use Rattle.std.proofs.Common.{◌≡◌, ◌≤◌, ◌<◌, ◌+◌, IsTrue, map, take}
use Rattle.std.specs.List.{list_any}
use Rattle.vortex_terms.specs.FromColumns.{masked}
use Rattle.vortex_terms.specs.Row.{bytes_row}
use Rattle.vortex_leaves.specs.Texts.{text_pieces}
use Rattle.vortex_array_compare.specs.inner.ComparedRows.{row_truths}
use Rattle.vortex_array_compare.proofs.compare_texts.text_truths.Given as goal

abbrev pub invariant-loop-i : goal.invariant-loop-i
invariant-loop-i g l = record {
  truths : l.truths ≡ row_truths l.operator (bytes_row l.value) (take l.i (masked l.validity (map bytes_row (text_pieces l.texts))));
  rise : l.fn.steps ≤ l.steps;
  most : l.steps ≤ l.fn.steps + l.i;
  least : IsTrue (list_any (λ b. b) l.truths) → l.fn.steps < l.steps;
}
