use Rattle.vortex_scalar.proofs.Casting.{cast_fits}
use Rattle.vortex_scalar.proofs.worked.casts_of_scalars_fit.Goals as goal

pub returns : goal.returns
returns c s r u fits found = cast_fits s r u fits found
