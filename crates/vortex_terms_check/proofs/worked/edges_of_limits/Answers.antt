use Rattle.vortex_terms_check.proofs.Edges.{name_bounded, fields_bounded}
use Rattle.vortex_terms_check.proofs.worked.edges_of_limits.Goals as goal

pub returns-clause-text : goal.returns-clause-text
returns-clause-text c = name_bounded

pub returns-clause-nodes : goal.returns-clause-nodes
returns-clause-nodes c = fields_bounded
