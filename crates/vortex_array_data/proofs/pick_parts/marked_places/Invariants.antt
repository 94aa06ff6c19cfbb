use Rattle.std.proofs.Common.{◌≡◌, Some, take}
use Rattle.vortex_array_data.specs.inner.Picked.{shown_places}
use Rattle.vortex_array_data.proofs.pick_parts.marked_places.Given as goal

abbrev pub invariant-loop-place : goal.invariant-loop-place
invariant-loop-place l = l.out.items ≡ shown_places (Some l.mask) (take l.place-index l.places)
