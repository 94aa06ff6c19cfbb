use Rattle.std.proofs.Common.{◌∙◌, arith}
use Rattle.std.proofs.lemmas.List.{get_or_default}
use Rattle.std.proofs.lemmas.List.Elements.{AllWithin-more}
use Rattle.vortex_terms.specs.Types.{Legal}
use Rattle.vortex_types.proofs.field_dtype.fields_law.Goals as goal

pub loop-field-preserved : goal.loop-field-preserved
loop-field-preserved c =
    let ts = c.args.types.now in
    let i = c.loop-field.field-index in
    AllWithin-more Legal ts 0 i c.loop-field.invariant (λ d.
    rw (c.field-item.is ∙ get_or_default ts i c.field-item.result d c.loop-field-test.true)
    at c.law.ensures)

pub returns : goal.returns
returns c = λ k d within. c.loop-field.invariant k d (omega arith) (omega (arith, within, c.loop-field-test.false))
