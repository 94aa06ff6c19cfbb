use Rattle.vortex_types.specs.DTypes.{term_of}
use Rattle.vortex_array_canonical.proofs.CanonicalRows.{leaf_kept, range_only}
use Rattle.vortex_array_canonical.proofs.canonical_parts.same_leaf.Goals as goal

pub returns-in-Ok : goal.returns-in-Ok
returns-in-Ok c = leaf_kept (term_of c.args.dtype.now) c.args.n c.args.content.now c.in-Ok.content c.requires c.in-Ok.ensures

pub returns-in-Err : goal.returns-in-Err
returns-in-Err c = range_only c.in-Err.e c.in-Err.ensures
