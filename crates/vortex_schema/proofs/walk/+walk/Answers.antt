use Rattle.std.proofs.Common.{sym, ◌∙◌, arith}
use Rattle.vortex_flat.proofs.NumbersLemmas.{passes_on}
use Rattle.vortex_schema.specs.Reading.{type_at}
use Rattle.vortex_schema.proofs.Walking.{no_field, one_field, no_more_fields}
use Rattle.vortex_schema.proofs.walk.+walk.Goals as goal

pub walk_fields-returns-in_err-left : goal.walk_fields-returns-in_err-left
walk_fields-returns-in_err-left t c =
    let b = c.args.names.now.buffer in
    passes_on (λ x. x) c.from_residual.result c.in_err-left.field-0.0 _ c.from_residual.ensures.1 c.in_err-left.ensures.0
    (sym c.loop-i.invariant ∙ no_field b (type_at b c.args.levels) c.args.names.now.shape c.args.dtypes.now.shape c.args.names.now.shape.count c.loop-i.i c.loop-i.left (omega arith) c.in_err-left.ensures.1)

pub walk_fields-loop-i-preserved : goal.walk_fields-loop-i-preserved
walk_fields-loop-i-preserved t c =
    let b = c.args.names.now.buffer in
    sym (one_field b (type_at b c.args.levels) c.args.names.now.shape c.args.dtypes.now.shape c.args.names.now.shape.count c.loop-i.i c.loop-i.left c.in_ok-left.left (omega arith) c.in_ok-left.ensures) ∙ c.loop-i.invariant

pub walk_fields-returns : goal.walk_fields-returns
walk_fields-returns t c =
    let b = c.args.names.now.buffer in
    sym c.loop-i.invariant ∙ no_more_fields b (type_at b c.args.levels) c.args.names.now.shape c.args.dtypes.now.shape c.args.names.now.shape.count c.loop-i.i c.loop-i.left (omega arith)
