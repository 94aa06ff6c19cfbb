use Rattle.vortex_terms.specs.PathRowLaws.{target-field, value_at-field, value_at-missing, target-first, value_at-first}
use Rattle.vortex_terms.proofs.paths.names_find_the_first_field.Goals as goal

pub returns-clause-target : goal.returns-clause-target
returns-clause-target c = target-field

pub returns-clause-row : goal.returns-clause-row
returns-clause-row c = value_at-field

pub returns-clause-missing : goal.returns-clause-missing
returns-clause-missing c = value_at-missing

pub returns-clause-first_target : goal.returns-clause-first_target
returns-clause-first_target c = target-first

pub returns-clause-first_row : goal.returns-clause-first_row
returns-clause-first_row c = value_at-first
