use Rattle.std.specs.Prelude.{IfOk}
use Rattle.std.proofs.Common.{◌≡◌, ◌∙◌, List, Bool, true, false, length, sym, ap, subst, arith}
use Rattle.vortex_terms.specs.Row.{Row, is_null}
use Rattle.vortex_array_data.specs.Column.{Column}
use Rattle.vortex_array_compare.specs.inner.ComparedRows.{row_in, row_truth, row_truths}
use Rattle.vortex_array_compare.proofs.ComparedTruths.{null_truths, never_true, value_there, value_under, alike_truths}
use Rattle.vortex_array_compare.proofs.compare.truths.Goals as goal

pub returns-then-is_null-clause-truths : goal.returns-then-is_null-clause-truths
returns-then-is_null-clause-truths g c =
    c.new_false.ensures
    ∙ null_truths c.args.operator c.args.scalar.now.row c.args.array.now.rows c.array.inside.len (sym c.if-is_null.ensures)
    (c.array.invariant.count ∙ ap (λ (x : Column). length x.rows) c.array.view_is)

pub returns-then-is_null-clause-least : goal.returns-then-is_null-clause-least
returns-then-is_null-clause-least g c =
    λ h. never_true c.array.inside.len c.new_false.result c.new_false.ensures h

pub row_truth-requires-clause-row : goal.row_truth-requires-clause-row
row_truth-requires-clause-row g c =
    value_there c.args.array.now.dtype c.args.scalar.now.dtype c.value-value.result.now c.args.scalar.now.row c.requires c.value-value.ensures

pub row_truth-requires-clause-known : goal.row_truth-requires-clause-known
row_truth-requires-clause-known g c =
    ap is_null (value_under c.args.array.now.dtype c.args.scalar.now.dtype c.value-value.result.now c.args.scalar.now.row c.requires c.value-value.ensures) ∙ sym c.if-is_null.ensures

pub returns-then-row_truth-clause-truths : goal.returns-then-row_truth-clause-truths
returns-then-row_truth-clause-truths g c =
    c.new_true.ensures
    ∙ alike_truths c.args.operator c.args.scalar.now.row c.args.array.now.rows c.array.inside.len true (c.is_uniform.ensures c.if-is_uniform.true)
    (c.array.invariant.count ∙ ap (λ (x : Column). length x.rows) c.array.view_is)
    (omega (arith, c.if-array-gt0.true))
    (c.if-row_truth.ensures.truth
    ∙ ap (λ (s : Row). row_truth c.args.operator s (row_in c.args.array.now.rows 0)) (value_under c.args.array.now.dtype c.args.scalar.now.dtype c.value-value.result.now c.args.scalar.now.row c.requires c.value-value.ensures))

pub returns-then-is_uniform-clause-truths : goal.returns-then-is_uniform-clause-truths
returns-then-is_uniform-clause-truths g c =
    c.new_false-then-is_uniform.ensures
    ∙ alike_truths c.args.operator c.args.scalar.now.row c.args.array.now.rows c.array.inside.len false (c.is_uniform.ensures c.if-is_uniform.true)
    (c.array.invariant.count ∙ ap (λ (x : Column). length x.rows) c.array.view_is)
    (omega (arith, c.if-array-gt0.true))
    (c.if-row_truth.ensures.truth
    ∙ ap (λ (s : Row). row_truth c.args.operator s (row_in c.args.array.now.rows 0)) (value_under c.args.array.now.dtype c.args.scalar.now.dtype c.value-value.result.now c.args.scalar.now.row c.requires c.value-value.ensures))

pub returns-then-is_uniform-clause-least : goal.returns-then-is_uniform-clause-least
returns-then-is_uniform-clause-least g c =
    λ h. never_true c.array.inside.len c.new_false-then-is_uniform.result c.new_false-then-is_uniform.ensures h

pub row_truths-requires-clause-row : goal.row_truths-requires-clause-row
row_truths-requires-clause-row g c =
    value_there c.args.array.now.dtype c.args.scalar.now.dtype c.value-value.result.now c.args.scalar.now.row c.requires c.value-value.ensures

pub row_truths-requires-clause-known : goal.row_truths-requires-clause-known
row_truths-requires-clause-known g c =
    ap is_null (value_under c.args.array.now.dtype c.args.scalar.now.dtype c.value-value.result.now c.args.scalar.now.row c.requires c.value-value.ensures) ∙ sym c.if-is_null.ensures

pub returns-clause-truths : goal.returns-clause-truths
returns-clause-truths g c =
    subst (λ (s : Row). IfOk c.row_truths.result (λ (m : List Bool). m ≡ row_truths c.args.operator s c.args.array.now.rows))
    (value_under c.args.array.now.dtype c.args.scalar.now.dtype c.value-value.result.now c.args.scalar.now.row c.requires c.value-value.ensures)
    c.row_truths.ensures.truths
