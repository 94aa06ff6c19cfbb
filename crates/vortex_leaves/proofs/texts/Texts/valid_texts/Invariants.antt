use Rattle.std.proofs.Common.{◌≡◌, take}
use Rattle.std.specs.List.{list_all}
use Rattle.vortex_leaves.specs.Texts.{text_pieces}
use Rattle.vortex_leaves.proofs.TextTests.{passed}
use Rattle.vortex_leaves.proofs.texts.Texts.valid_texts.Given as goal

abbrev pub invariant-loop-i : goal.invariant-loop-i
invariant-loop-i l = l.ok ≡ list_all (λ b. b) (take l.i (passed l.valid (text_pieces l.self)))
