use Rattle.std.proofs.Common.{length}
use Rattle.vortex_terms_check.proofs.dictionary.+codes_onto.Given as goal

abbrev pub decreases-codes_onto : goal.decreases-codes_onto
decreases-codes_onto l = length l.rows.now
