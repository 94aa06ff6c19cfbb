use Rattle.std.proofs.Common.{◌∙◌, sym, arith}
use Rattle.vortex_names.proofs.Lists.{texts_from, differ_at, agree_at}
use Rattle.vortex_names.proofs.field_names.FieldNames.eq_texts.Goals as goal

pub returns-then-not-eq_str : goal.returns-then-not-eq_str
returns-then-not-eq_str c =
    let here = texts_from c.as_slice-names.result.now c.args.texts.now c.loop-i.i c.index-names-i.result _ c.loop-i-test.true (omega arith) c.index-names-i.is in
    rw (← c.as_slice-names.ensures) (differ_at _ _ _ _ (sym c.eq_str.ensures ∙ c.if-not-eq_str.true) here c.loop-i.invariant)

pub loop-i-preserved : goal.loop-i-preserved
loop-i-preserved c =
    let here = texts_from c.as_slice-names.result.now c.args.texts.now c.loop-i.i c.index-names-i.result _ c.loop-i-test.true (omega arith) c.index-names-i.is in
    agree_at _ _ _ _ (sym c.eq_str.ensures ∙ c.if-not-eq_str.false) here c.loop-i.invariant
