use Rattle.vortex_terms.specs.FieldLaws.{fields_levels-most, fields_nodes-sum, fields_text_length-sum}
use Rattle.vortex_terms.specs.Weight.{fields_weight-sum}
use Rattle.vortex_terms.proofs.fields.measures_are_those_of_fields.Goals as goal

pub returns-clause-levels : goal.returns-clause-levels
returns-clause-levels c = fields_levels-most

pub returns-clause-nodes : goal.returns-clause-nodes
returns-clause-nodes c = fields_nodes-sum

pub returns-clause-text : goal.returns-clause-text
returns-clause-text c = fields_text_length-sum

pub returns-clause-weight : goal.returns-clause-weight
returns-clause-weight c = fields_weight-sum
