use Rattle.std.proofs.Common.{◌≡◌, take}
use Rattle.std.specs.List.{list_all}
use Rattle.std.specs.Str.{is_utf8}
use Rattle.vortex_leaves.specs.Texts.{text_pieces}
use Rattle.vortex_leaves.proofs.texts.Texts.all_texts.Given as goal

abbrev pub invariant-loop-i : goal.invariant-loop-i
invariant-loop-i l = l.ok ≡ list_all is_utf8 (take l.i (text_pieces l.self))
