use Rattle.std.proofs.Common.{◌≡◌, take}
use Rattle.std.specs.List.{flat_map}
use Rattle.std.specs.Option.{option_map}
use Rattle.vortex_leaves.specs.Selected.{shown_piece}
use Rattle.vortex_leaves.specs.Texts.{text_pieces}
use Rattle.vortex_leaves.proofs.texts.Texts.taken_bytes.Given as goal

abbrev pub invariant-loop-place : goal.invariant-loop-place
invariant-loop-place l =
    l.bytes.items
    ≡ flat_map (shown_piece (option_map (λ m. m.now) l.valid) (text_pieces l.self)) (take l.place-index l.places)
