use Rattle.std.proofs.Common.{ap, ◌∙◌}
use Rattle.vortex_terms.specs.Types.{nullable}
use Rattle.vortex_terms.specs.NullabilityLaws.{nullable-with}
use Rattle.vortex_types.specs.DTypes.{term_of}
use Rattle.vortex_scalar.proofs.scalar.Scalar.null_typed.Goals as goal

pub null-requires : goal.null-requires
null-requires g c = ap nullable c.in-Ok.ensures.term ∙ nullable-with (term_of c.in_ok-dtype.dtype)
