use Rattle.std.proofs.Common.{length}
use Rattle.vortex_terms_check.proofs.sizes.+distinct_bytes.Given as goal

abbrev pub decreases-distinct_bytes : goal.decreases-distinct_bytes
decreases-distinct_bytes l = length l.rows.now
