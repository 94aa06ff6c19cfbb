use Rattle.std.proofs.Common.{length}
use Rattle.vortex_terms_check.proofs.sizes.+column_onto.Given as goal

abbrev pub decreases-column_onto : goal.decreases-column_onto
decreases-column_onto l = length l.rows.now
