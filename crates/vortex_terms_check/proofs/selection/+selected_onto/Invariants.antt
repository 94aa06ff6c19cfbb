use Rattle.std.proofs.Common.{length}
use Rattle.vortex_terms_check.proofs.selection.+selected_onto.Given as goal

abbrev pub decreases-selected_onto : goal.decreases-selected_onto
decreases-selected_onto l = length l.arrays.now
