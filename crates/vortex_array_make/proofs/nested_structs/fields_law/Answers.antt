use Rattle.std.proofs.Common.{◌∙◌, arith}
use Rattle.std.proofs.lemmas.List.{get_or_default}
use Rattle.std.proofs.lemmas.List.Elements.{AllWithin-more, recursion_from_All}
use Rattle.vortex_array_data.specs.Column.{Holds}
use Rattle.vortex_array_make.proofs.nested_structs.fields_law.Goals as goal

pub loop-field-preserved : goal.loop-field-preserved
loop-field-preserved c =
    let fs = c.args.fields.now in
    let i = c.loop-field.field-index in
    AllWithin-more Holds fs 0 i c.loop-field.invariant (λ d.
    rw (c.field-item.is ∙ get_or_default fs i c.field-item.result d c.loop-field-test.true)
    at c.law.ensures)

pub returns : goal.returns
returns c =
    recursion_from_All Holds c.args.fields.now
    (λ k d within. c.loop-field.invariant k d (omega arith) (omega (arith, within, c.loop-field-test.false)))
