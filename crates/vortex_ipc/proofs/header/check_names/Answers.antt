use Rattle.std.proofs.Common.{◌≡◌, ◌<◌, ◌≤◌, None, arith, refl, rules}
use Rattle.vortex_flat.specs.Targets.{text_element}
use Rattle.vortex_encodings.specs.Encodings.{names_of}
use Rattle.vortex_ipc.proofs.HeadLemmas.{names_more, names_refused}
use Rattle.vortex_ipc.proofs.header.check_names.Goals as goal

pub loop-i-preserved : goal.loop-i-preserved
loop-i-preserved c =
    let names = c.args.names.now in
    let lt : c.loop-i.i < names.shape.count = omega arith in
    names_more (names_of c.args.registry) (text_element names.buffer names.shape) c.loop-i.i names.shape.count c.in-Ok.name.now c.loop-i.held _ _ lt c.in-Ok.ensures (search rules) c.loop-i.invariant

pub returns-in-Err : goal.returns-in-Err
returns-in-Err c =
    let names = c.args.names.now in
    let lt : c.loop-i.i < names.shape.count = omega arith in
    let le : names.shape.count ≤ 65536 = omega arith in
    let none : text_element names.buffer names.shape c.loop-i.i ≡ None = search rules in
    (refl, names_refused (names_of c.args.registry) names.buffer names.shape c.loop-i.i c.loop-i.held lt le none c.loop-i.invariant)
