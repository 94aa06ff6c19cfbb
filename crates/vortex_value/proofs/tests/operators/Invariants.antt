use Rattle.vortex_value.proofs.tests.operators.Given as goal

-- the blank's own ledger
abbrev pub ghosts-relations : goal.ghosts-relations
ghosts-relations g a = record { name = a.blank.name; parts = a.blank.parts }
