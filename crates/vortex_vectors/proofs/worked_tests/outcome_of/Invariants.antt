use Rattle.vortex_vectors.proofs.worked_tests.outcome_of.Given as goal

-- the blank's own ledger
abbrev pub ghosts-ran : goal.ghosts-ran
ghosts-ran a = record { name = a.blank.name; parts = a.blank.parts }
