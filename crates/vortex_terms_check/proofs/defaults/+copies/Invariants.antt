use Rattle.vortex_terms_check.proofs.defaults.+copies.Given as goal

abbrev pub decreases-copies : goal.decreases-copies
decreases-copies l = l.count
