use Rattle.std.proofs.Common.{length}
use Rattle.vortex_terms_check.proofs.sizes.+inner_onto.Given as goal

abbrev pub decreases-inner_onto : goal.decreases-inner_onto
decreases-inner_onto l = length l.rows.now
