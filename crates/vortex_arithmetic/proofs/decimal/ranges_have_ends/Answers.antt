use Rattle.vortex_arithmetic.proofs.Ends.{ends}
use Rattle.vortex_arithmetic.proofs.decimal.ranges_have_ends.Goals as goal

pub returns : goal.returns
returns c = ends
