use Rattle.vortex_scalar_value.proofs.Standing.{one_value}
use Rattle.vortex_scalar_value.proofs.laws.one_value_stands.Goals as goal

pub returns : goal.returns
returns c = one_value
