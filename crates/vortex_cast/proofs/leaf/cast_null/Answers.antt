use Rattle.vortex_types.specs.TypeRefs.{ref_term}
use Rattle.vortex_cast.proofs.Leaves.{null_is_cast, nullable_is}
use Rattle.vortex_cast.proofs.leaf.cast_null.Goals as goal

pub returns-then-from : goal.returns-then-from
returns-then-from c = null_is_cast (ref_term c.args.to) c.null.result c.null.ensures (nullable_is (ref_term c.args.to) c.nullability.result c.if-from.ensures c.nullability.ensures)
