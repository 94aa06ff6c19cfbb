use Rattle.std.proofs.Common.{ap, ◌∙◌, ◌+◌, ◌-◌, arith, rules}
use Rattle.vortex_body.specs.Reading.{children_at, node_at}
use Rattle.vortex_body.specs.inner.Walked.{children_pair}
use Rattle.vortex_body.proofs.Making.{behind, child_made, child_refused, children_made, own_moved, passes_on}
use Rattle.vortex_body.proofs.tree.+tree.Goals as goal

pub make_children-returns-in_err-child : goal.make_children-returns-in_err-child
make_children-returns-in_err-child t c =
    let b = c.args.body.now.flat in
    let v = c.args.targets.now.shape in
    passes_on children_pair c.from_residual-in_err-child.result c.in_err-child.field-0.0 _ c.from_residual-in_err-child.ensures.1
    (child_refused b (node_at b c.args.body.now.buffers c.args.levels) v v.count c.loop-i.i c.loop-i.left c.loop-i.children.items c.in_err-child.field-0.0 _ (omega arith) c.in_err-child.ensures c.loop-i.invariant)

pub make_children-loop-i-preserved : goal.make_children-loop-i-preserved
make_children-loop-i-preserved t c =
    let b = c.args.body.now.flat in
    let v = c.args.targets.now.shape in
    let read = node_at b c.args.body.now.buffers c.args.levels in
    ap (λ ms. behind ms (children_at b read v (v.count - (c.loop-i.i + 1)) (c.loop-i.i + 1) c.in_ok-child.rest)) c.in_ok-push.ensures.items
    ∙ child_made b read v v.count c.loop-i.i c.loop-i.left c.loop-i.children.items c.in_ok-child.child c.in_ok-child.rest _ (omega arith) c.in_ok-child.ensures c.loop-i.invariant

pub make_children-returns : goal.make_children-returns
make_children-returns t c =
    let b = c.args.body.now.flat in
    let v = c.args.targets.now.shape in
    children_made b (node_at b c.args.body.now.buffers c.args.levels) v v.count c.loop-i.i c.loop-i.left c.loop-i.children.items _ (omega arith) c.loop-i.invariant

pub make_node-invariant_of-parts : goal.make_node-invariant_of-parts
make_node-invariant_of-parts t c =
    own_moved _ _ _ _ _ _ c.in-Ok-targets.targets c.in-Ok-targets.ensures.found (search rules) (search rules) (search rules)
