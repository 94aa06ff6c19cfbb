use Rattle.std.proofs.Common.{◌≡◌, take}
use Rattle.vortex_array_data.specs.inner.PickedPlaces.{start_in}
use Rattle.vortex_array_data.specs.inner.Spans.{spans}
use Rattle.vortex_array_data.proofs.pick_parts.spread_places.Given as goal

abbrev pub invariant-loop-place : goal.invariant-loop-place
invariant-loop-place l = l.out.items ≡ spans (start_in l.parts) (take l.place-index l.places)
