use Rattle.vortex_terms.specs.FieldLaws.{fields_from-parts, names_of-from, types_of-from, length-names_of, LegalFields-All}
use Rattle.vortex_terms.proofs.fields.fields_are_names_and_types.Goals as goal

pub returns-clause-together : goal.returns-clause-together
returns-clause-together c = fields_from-parts

pub returns-clause-names : goal.returns-clause-names
returns-clause-names c = names_of-from

pub returns-clause-types : goal.returns-clause-types
returns-clause-types c = types_of-from

pub returns-clause-count : goal.returns-clause-count
returns-clause-count c = length-names_of

pub returns-clause-legal : goal.returns-clause-legal
returns-clause-legal c = LegalFields-All
