use Rattle.std.proofs.Common.{length}
use Rattle.vortex_terms_check.proofs.dictionary.+distinct.Given as goal

abbrev pub decreases-distinct : goal.decreases-distinct
decreases-distinct l = length l.rows.now
