use Rattle.std.proofs.Common.{◌≡◌, ◌∙◌, ◌+◌, [], drop, ap, sym, arith, inr}
use Rattle.std.proofs.lemmas.List.{drop_all}
use Rattle.vortex_wire.specs.Finds.{all_bytes_of}
use Rattle.vortex_wire.proofs.BytesFound.{after}
use Rattle.vortex_proto.specs.PathMessage.{names_in}
use Rattle.vortex_proto.proofs.Steps.{goes_on, refused, nothing_left}
use Rattle.vortex_proto.proofs.path.step_names.Goals as goal

pub loop-i-preserved : goal.loop-i-preserved
loop-i-preserved c =
    let steps = c.args.steps.now in
    ap (λ names. after names (names_in (all_bytes_of (drop (c.loop-i.i + 1) steps)))) c.in_ok-push-in-Ok.ensures.items
    ∙ goes_on c.loop-i.names.items c.in-Ok.name steps c.loop-i.i _ (names_in (all_bytes_of steps)) (omega (arith, c.loop-i-test.true)) c.in-Ok.ensures c.loop-i.invariant

pub returns-in-Err : goal.returns-in-Err
returns-in-Err c =
    let steps = c.args.steps.now in
    inr (c.in-Err.ensures.0, refused c.loop-i.names.items steps c.loop-i.i _ (names_in (all_bytes_of steps)) (omega (arith, c.loop-i-test.true)) c.in-Err.ensures.1 c.loop-i.invariant)

pub returns : goal.returns
returns c =
    let steps = c.args.steps.now in
    let none : drop c.loop-i.i steps ≡ [] = drop_all c.loop-i.i steps (omega (arith, c.loop-i-test.false)) in
    sym c.loop-i.invariant ∙ ap (λ xs. after c.loop-i.names.items (names_in (all_bytes_of xs))) none ∙ nothing_left c.loop-i.names.items
