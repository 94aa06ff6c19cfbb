use Rattle.std.proofs.Common.{arith}
use Rattle.vortex_arithmetic.proofs.Powers.{power_fits}
use Rattle.vortex_arithmetic.proofs.decimal.power_of_ten.Goals as goal

pub pow-requires : goal.pow-requires
pow-requires c = power_fits c.args.exponent (omega arith)
