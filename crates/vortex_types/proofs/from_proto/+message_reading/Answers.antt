use Rattle.std.proofs.Common.{◌≡◌, ◌∙◌, ◌+◌, [], drop, ap, sym, arith, Some}
use Rattle.std.proofs.lemmas.List.{drop_all}
use Rattle.vortex_wire.specs.Finds.{all_bytes_of}
use Rattle.vortex_proto.specs.Reading.{type_in, types_in}
use Rattle.vortex_terms.specs.Term.{Term}
use Rattle.vortex_types.proofs.ReadMessages.{after_types, goes_on, stops, nothing_left}
use Rattle.vortex_types.proofs.from_proto.+message_reading.Goals as goal

pub read_types-loop-i-preserved : goal.read_types-loop-i-preserved
read_types-loop-i-preserved t c =
    let parts = c.args.parts.now in
    let read = type_in c.args.levels in
    ap (λ ts. after_types ts (types_in read (all_bytes_of (drop (c.loop-i.i + 1) parts)))) c.in_ok-push-in-Ok.ensures.items
    ∙ goes_on read c.loop-i.dtypes.items c.from_dtype.result parts c.loop-i.i _ (types_in read (all_bytes_of parts)) (omega (arith, c.loop-i-test.true))
    (c.in-Ok.ensures ∙ ap (λ (u : Term). Some u) (sym c.from_dtype.ensures)) c.loop-i.invariant

pub read_types-returns-in-Err : goal.read_types-returns-in-Err
read_types-returns-in-Err t c =
    let parts = c.args.parts.now in
    let read = type_in c.args.levels in
    stops read c.loop-i.dtypes.items parts c.loop-i.i _ (types_in read (all_bytes_of parts)) c.in-Err.error (omega (arith, c.loop-i-test.true)) c.in-Err.ensures c.loop-i.invariant

pub read_types-returns : goal.read_types-returns
read_types-returns t c =
    let parts = c.args.parts.now in
    let read = type_in c.args.levels in
    let none : drop c.loop-i.i parts ≡ [] = drop_all c.loop-i.i parts (omega (arith, c.loop-i-test.false)) in
    sym c.loop-i.invariant ∙ ap (λ xs. after_types c.loop-i.dtypes.items (types_in read (all_bytes_of xs))) none ∙ nothing_left read c.loop-i.dtypes.items
