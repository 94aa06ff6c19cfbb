use Rattle.vortex_types.specs.DTypes.{term_of}
use Rattle.vortex_scalar.proofs.Rows.{row_is}
use Rattle.vortex_scalar.proofs.scalar.Scalar.into_parts.Goals as goal

pub returns-clause-value : goal.returns-clause-value
returns-clause-value c = row_is (term_of c.self.inside.dtype) c.self.inside.value c.args.self c.self.invariant c.self.view_is
