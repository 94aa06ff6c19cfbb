use Rattle.vortex_flat.specs.inner.Shape.{shape_of}
use Rattle.vortex_flat.proofs.TableLemmas.{at_own_place}
use Rattle.vortex_flat.proofs.table.Table.at.Goals as goal

pub invariant_of-result : goal.invariant_of-result
invariant_of-result c = at_own_place c.args.bytes.now c.args.place (shape_of c.in_ok-shape.shape) c.in_ok-shape.ensures
