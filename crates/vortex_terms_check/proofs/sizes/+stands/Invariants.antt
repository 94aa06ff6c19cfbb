use Rattle.std.proofs.Common.{length}
use Rattle.vortex_terms_check.proofs.sizes.+stands.Given as goal

abbrev pub decreases-stands : goal.decreases-stands
decreases-stands l = length l.rows.now
