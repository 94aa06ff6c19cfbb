use Rattle.std.proofs.Common.{◌∙◌, IsUtf8, arith}
use Rattle.std.specs.List.{All}
use Rattle.std.proofs.lemmas.List.{get_or_default}
use Rattle.std.proofs.lemmas.List.Elements.{AllWithin-more}
use Rattle.vortex_names.proofs.field_names.FieldNames.law.Goals as goal

pub loop-name-preserved : goal.loop-name-preserved
loop-name-preserved c =
    let names = c.as_slice-names.result.now in
    let i = c.loop-name.name-index in
    AllWithin-more IsUtf8 names 0 i c.loop-name.invariant (λ d.
    rw (c.name-item.is ∙ get_or_default names i c.name-item.result d c.loop-name-test.true)
    at c.law.ensures)

pub returns : goal.returns
returns c =
    let all : All IsUtf8 c.as_slice-names.result.now = λ k d within.
    c.loop-name.invariant k d (omega arith) (omega (arith, within, c.loop-name-test.false)) in
    rw c.as_slice-names.ensures at all
