use Rattle.std.proofs.Common.{length}
use Rattle.vortex_terms_check.proofs.selection.+rows_in.Given as goal

abbrev pub decreases-rows_in : goal.decreases-rows_in
decreases-rows_in l = length l.arrays.now
