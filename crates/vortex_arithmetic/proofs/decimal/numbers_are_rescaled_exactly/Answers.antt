use Rattle.vortex_arithmetic.proofs.Exact.{exact}
use Rattle.vortex_arithmetic.proofs.decimal.numbers_are_rescaled_exactly.Goals as goal

pub returns : goal.returns
returns c = exact
