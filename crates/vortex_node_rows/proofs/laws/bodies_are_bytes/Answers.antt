use Rattle.vortex_node_rows.proofs.Bodies.{body_bytes}
use Rattle.vortex_node_rows.proofs.laws.bodies_are_bytes.Goals as goal

pub returns : goal.returns
returns c = body_bytes
