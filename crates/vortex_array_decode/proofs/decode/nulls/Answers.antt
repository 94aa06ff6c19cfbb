use Rattle.std.proofs.Common.{rules, ◌≤◌, length}
use Rattle.vortex_body.specs.Node.{node_buffers, node_children}
use Rattle.vortex_array_decode.proofs.Childless.{nulls_refused}
use Rattle.vortex_array_decode.proofs.decode.nulls.Goals as goal

pub returns-then-not-is_empty-clause-rows : goal.returns-then-not-is_empty-clause-rows
returns-then-not-is_empty-clause-rows c =
    let some : 1 ≤ length c.children.result.now = search rules in
    nulls_refused c.args.n (node_buffers c.args.parts.now) c.children.result.now
    (node_children c.args.parts.now) c.children.ensures some
