use Rattle.std.proofs.Common.{◌≡◌, ◌+◌, ◌-◌, ◌<◌, length, sym, ap, ◌∙◌, arith}
use Rattle.std.specs.Prelude.{is_some}
use Rattle.std.specs.List.{list_any}
use Rattle.std.specs.HashMap.{get_by}
use Rattle.std.specs.Str.{bytes_eq}
use Rattle.std.proofs.Common.{drop}
use Rattle.std.proofs.lemmas.Map.Text.{hash_map_updates_str}
use Rattle.vortex_types.proofs.Places.{among_step, repeat_here, repeat_whole, no_repeat_here}
use Rattle.vortex_types.proofs.name_index.repeats.Goals as goal

pub returns-then-is_some-clause-repeats : goal.returns-then-is_some-clause-repeats
returns-then-is_some-clause-repeats c =
    let names = c.args.names.now in
    let i = c.loop-i.i - 1 in
    let x = c.index-names-i.result in
    let within : i < length names = omega (arith, c.loop-i-test.true, c.loop-i.invariant.0) in
    let next : c.loop-i.i - 1 + 1 ≡ c.loop-i.i = omega (arith, c.loop-i-test.true) in
    let known : is_some c.in_ok-insert.field-0 ≡ list_any (bytes_eq x) (drop (c.loop-i.i - 1 + 1) names) =
    rw (next, ← c.as_str.ensures.text) (ap is_some c.in_ok-insert.ensures.old ∙ c.loop-i.invariant.1 c.as_str.result.now) in
    sym (repeat_whole names i (repeat_here names i x c.in_ok-insert.field-0 within c.index-names-i.is known (sym c.is_some.ensures ∙ c.if-is_some.true)))

pub loop-i-preserved : goal.loop-i-preserved
loop-i-preserved c =
    let names = c.args.names.now in
    let i = c.loop-i.i - 1 in
    let x = c.index-names-i.result in
    let within : i < length names = omega (arith, c.loop-i-test.true, c.loop-i.invariant.0) in
    let next : c.loop-i.i - 1 + 1 ≡ c.loop-i.i = omega (arith, c.loop-i-test.true) in
    let known : is_some c.in_ok-insert.field-0 ≡ list_any (bytes_eq x) (drop (c.loop-i.i - 1 + 1) names) =
    rw (next, ← c.as_str.ensures.text) (ap is_some c.in_ok-insert.ensures.old ∙ c.loop-i.invariant.1 c.as_str.result.now) in (
      omega (arith, within),
      λ q.
          let updated = hash_map_updates_str c.as_str.result.now c.loop-i.places c.insert.new.self _ c.in_ok-insert.ensures.updates q in
          among_step names i x q (get_by (λ k. bytes_eq q k.now) c.loop-i.places) _ within c.index-names-i.is
          (rw next (c.loop-i.invariant.1 q)) (rw (← c.as_str.ensures.text) updated),
      no_repeat_here names i x c.in_ok-insert.field-0 within c.index-names-i.is known (sym c.is_some.ensures ∙ c.if-is_some.false)
          (rw next c.loop-i.invariant.2),
    )
