use Rattle.std.proofs.Common.{◌≡◌, None, ◌<◌, map, arith, rules}
use Rattle.vortex_flat.specs.Targets.{text_element}
use Rattle.vortex_prelude.specs.Elements.{elements}
use Rattle.vortex_ipc.proofs.HeadLemmas.{texts_fail, texts_more}
use Rattle.vortex_ipc.proofs.header.texts.Goals as goal

pub unreachable-requires : goal.unreachable-requires
unreachable-requires c =
    let names = c.args.names.now in
    let lt : c.loop-i.i < names.shape.count = omega arith in
    let none : text_element names.buffer names.shape c.loop-i.i ≡ None = search rules in
    texts_fail (text_element names.buffer names.shape) c.loop-i.i names.shape.count (map (λ t. t.now) c.loop-i.texts.items) (elements (text_element names.buffer names.shape) 0 names.shape.count) lt none c.loop-i.invariant c.requires.there

pub loop-i-preserved : goal.loop-i-preserved
loop-i-preserved c =
    let names = c.args.names.now in
    let lt : c.loop-i.i < names.shape.count = omega arith in
    texts_more (λ t. t.now) (text_element names.buffer names.shape) c.loop-i.i names.shape.count c.loop-i.texts.items _ c.in-Ok.text _ lt c.in-Ok.ensures c.in_ok-push.ensures.items c.loop-i.invariant
