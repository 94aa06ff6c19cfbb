use Rattle.std.proofs.Common.{length}
use Rattle.vortex_terms_check.proofs.selection.+kept_onto.Given as goal

abbrev pub decreases-kept_onto : goal.decreases-kept_onto
decreases-kept_onto l = length l.rows.now
