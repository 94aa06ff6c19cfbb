use Rattle.vortex_terms.specs.FieldLaws.{field_at-get, place_of-position}
use Rattle.vortex_terms.proofs.fields.fields_are_found.Goals as goal

pub returns-clause-types : goal.returns-clause-types
returns-clause-types c = field_at-get

pub returns-clause-names : goal.returns-clause-names
returns-clause-names c = place_of-position
