use Rattle.vortex_body.specs.inner.Walked.{found_pair}
use Rattle.vortex_body.proofs.Making.{whole_made}
use Rattle.vortex_body.proofs.body.tree_of.Goals as goal

pub returns : goal.returns
returns c =
    whole_made c.args.flat.now c.args.buffers.items c.args.node.now.place c.in_ok-body.body (found_pair (c.in_ok-node.node, c.in_ok-node.field-0-1)) c.in_ok-body.ensures c.in_ok-node.ensures
