use Rattle.vortex_steps.proofs.tests.ticks_at_a_ledger_of_its_own.Given as goal

-- the blank's own ledger
abbrev pub ghosts-tick_twice : goal.ghosts-tick_twice
ghosts-tick_twice g a = record { name = a.blank.name; parts = a.blank.parts }
