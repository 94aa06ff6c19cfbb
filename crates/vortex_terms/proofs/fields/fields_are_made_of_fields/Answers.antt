use Rattle.std.proofs.Common.{ap, not}
use Rattle.vortex_terms.specs.StructFieldLaws.{projected-names, projected-none, without_field-some, without_field-none, name_repeats-Decides, not_true}
use Rattle.vortex_terms.specs.StructFields.{name_repeats}
use Rattle.vortex_terms.proofs.fields.fields_are_made_of_fields.Goals as goal

pub returns-clause-projected : goal.returns-clause-projected
returns-clause-projected c = projected-names

pub returns-clause-missing : goal.returns-clause-missing
returns-clause-missing c = projected-none

pub returns-clause-without : goal.returns-clause-without
returns-clause-without c = without_field-some

pub returns-clause-past : goal.returns-clause-past
returns-clause-past c = without_field-none

pub returns-clause-repeats : goal.returns-clause-repeats
returns-clause-repeats c = λ xs. let d = name_repeats-Decides xs in (λ e. d.0 (ap not e), λ h. not_true (name_repeats xs) (d.1 h))
