use Rattle.vortex_body.proofs.Bodies.{one_body}
use Rattle.vortex_body.proofs.Standing.{one_node_stands}
use Rattle.vortex_body.proofs.laws.one_node_stands.Goals as goal

pub returns-clause-place : goal.returns-clause-place
returns-clause-place c = one_node_stands

pub returns-clause-body : goal.returns-clause-body
returns-clause-body c = one_body
