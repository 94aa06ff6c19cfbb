use Rattle.std.proofs.Common.{length}
use Rattle.vortex_terms_check.proofs.selection.+target.Given as goal

abbrev pub decreases-target : goal.decreases-target
decreases-target l = length l.path.now
