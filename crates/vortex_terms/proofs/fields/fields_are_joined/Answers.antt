use Rattle.vortex_terms.specs.FieldLaws.{names_of-append, types_of-append}
use Rattle.vortex_terms.proofs.fields.fields_are_joined.Goals as goal

pub returns-clause-names : goal.returns-clause-names
returns-clause-names c = names_of-append

pub returns-clause-types : goal.returns-clause-types
returns-clause-types c = types_of-append
