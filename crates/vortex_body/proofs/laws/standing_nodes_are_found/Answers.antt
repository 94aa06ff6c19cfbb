use Rattle.vortex_body.proofs.Standing.{node_stands}
use Rattle.vortex_body.proofs.laws.standing_nodes_are_found.Goals as goal

pub returns : goal.returns
returns c = node_stands
