use Rattle.std.proofs.Common.{sym, ◌∙◌, arith}
use Rattle.vortex_flat.proofs.NumbersLemmas.{passes_on}
use Rattle.vortex_body.specs.Reading.{node_at}
use Rattle.vortex_body.proofs.Walking.{no_child, one_child, no_more}
use Rattle.vortex_body.proofs.walk.+walk.Goals as goal

pub walk_children-returns-in_err-left : goal.walk_children-returns-in_err-left
walk_children-returns-in_err-left t c =
    let b = c.args.targets.now.buffer in
    passes_on (λ x. x) c.from_residual.result c.in_err-left.field-0.0 _ c.from_residual.ensures.1 c.in_err-left.ensures.0
    (sym c.loop-i.invariant ∙ no_child b (node_at b c.args.body.now.buffers c.args.levels) c.args.targets.now.shape c.args.targets.now.shape.count c.loop-i.i c.loop-i.left (omega arith) c.in_err-left.ensures.1)

pub walk_children-loop-i-preserved : goal.walk_children-loop-i-preserved
walk_children-loop-i-preserved t c =
    let b = c.args.targets.now.buffer in
    sym (one_child b (node_at b c.args.body.now.buffers c.args.levels) c.args.targets.now.shape c.args.targets.now.shape.count c.loop-i.i c.loop-i.left c.in_ok-left.left (omega arith) c.in_ok-left.ensures) ∙ c.loop-i.invariant

pub walk_children-returns : goal.walk_children-returns
walk_children-returns t c =
    let b = c.args.targets.now.buffer in
    sym c.loop-i.invariant ∙ no_more b (node_at b c.args.body.now.buffers c.args.levels) c.args.targets.now.shape c.args.targets.now.shape.count c.loop-i.i c.loop-i.left (omega arith)
