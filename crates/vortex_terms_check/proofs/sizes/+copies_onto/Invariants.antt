use Rattle.vortex_terms_check.proofs.sizes.+copies_onto.Given as goal

abbrev pub decreases-copies_onto : goal.decreases-copies_onto
decreases-copies_onto l = l.k
