use Rattle.vortex_array_data.specs.inner.PickedPlaces.{start_in}
use Rattle.vortex_array_data.proofs.PickedRows.{spread_step}
use Rattle.vortex_array_data.proofs.pick_parts.spread_places.Goals as goal

pub loop-place-preserved : goal.loop-place-preserved
loop-place-preserved c =
    spread_step (start_in c.args.parts.now) c.args.places.now c.loop-place.place-index c.start-from.result c.start.result
    c.loop-place.out.items c.in_ok-out.out.items c.loop-place-test.true c.start-from.ensures c.start.ensures
    c.loop-place.invariant c.in_ok-out.ensures
