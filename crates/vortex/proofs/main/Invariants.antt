use Rattle.vortex.proofs.main.Given as goal

-- the blank's own ledger
abbrev pub ghosts-run_on_standard_streams : goal.ghosts-run_on_standard_streams
ghosts-run_on_standard_streams a = record { name = a.blank.name; parts = a.blank.parts }
