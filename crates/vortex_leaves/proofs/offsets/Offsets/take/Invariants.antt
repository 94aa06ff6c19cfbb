use Rattle.std.proofs.Common.{take}
use Rattle.std.specs.Option.{option_map}
use Rattle.vortex_leaves.specs.Selected.{shown_size}
use Rattle.vortex_leaves.proofs.Joined.{AreJoinedAt}
use Rattle.vortex_leaves.proofs.offsets.Offsets.take.Given as goal

abbrev pub invariant-loop-place : goal.invariant-loop-place
invariant-loop-place l =
    AreJoinedAt (shown_size (option_map (λ m. m.now) l.valid) l.self) (take l.place-index l.places) l.offsets l.end
