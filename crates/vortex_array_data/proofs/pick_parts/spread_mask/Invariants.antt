use Rattle.std.proofs.Common.{◌≡◌}
use Rattle.vortex_array_data.specs.inner.PickedPlaces.{start_in}
use Rattle.vortex_array_data.proofs.PickPlaces.{AreSpread}
use Rattle.vortex_array_data.proofs.pick_parts.spread_mask.Given as goal

abbrev pub invariant-loop-i : goal.invariant-loop-i
invariant-loop-i l = record {
  spread : AreSpread (start_in l.parts) l.mask l.i l.out;
  from : l.from ≡ start_in l.parts l.i;
}
