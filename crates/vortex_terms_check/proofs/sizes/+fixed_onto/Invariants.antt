use Rattle.std.proofs.Common.{length}
use Rattle.vortex_terms_check.proofs.sizes.+fixed_onto.Given as goal

abbrev pub decreases-fixed_onto : goal.decreases-fixed_onto
decreases-fixed_onto l = length l.rows.now
