use Rattle.std.proofs.Common.{◌≡◌, ◌≤◌, ◌<◌, true, false, refl, ◌∙◌, arith, rules}
use Rattle.vortex_flat.specs.Targets.{text_element}
use Rattle.vortex_select.specs.inner.Decoding.{is_primitive}
use Rattle.vortex_select.proofs.PrimitiveLoops.{names_more, names_other, few}
use Rattle.vortex_select.proofs.primitive.primitive_names.Goals as goal

pub returns-then-ne : goal.returns-then-ne
returns-then-ne c =
    let names = c.args.names.now in
    let le : names.shape.count ≤ 65536 = omega arith in
    let lt : c.loop-i.i < names.shape.count = omega arith in
    let other : is_primitive c.in_ok-str.field-0.now ≡ false = search rules in
    (refl, few names.shape.count _ le ∙ names_other (text_element names.buffer names.shape) c.loop-i.i names.shape.count c.in_ok-str.field-0.now _ lt c.in_ok-str.ensures other c.loop-i.invariant)

pub loop-i-preserved : goal.loop-i-preserved
loop-i-preserved c =
    let names = c.args.names.now in
    let lt : c.loop-i.i < names.shape.count = omega arith in
    let primitive : is_primitive c.in_ok-str.field-0.now ≡ true = search rules in
    names_more (text_element names.buffer names.shape) c.loop-i.i names.shape.count c.in_ok-str.field-0.now _ lt c.in_ok-str.ensures primitive c.loop-i.invariant
