use Rattle.std.proofs.Common.{◌≡◌, ◌+◌, ◌-◌, ◌<◌, length, sym, ◌∙◌, arith}
use Rattle.std.specs.HashMap.{get_by}
use Rattle.std.specs.Str.{bytes_eq}
use Rattle.std.proofs.lemmas.Map.Text.{hash_map_updates_str}
use Rattle.std.proofs.lemmas.Iterator.Adapters.{position_from-zero}
use Rattle.vortex_types.proofs.Places.{place_step}
use Rattle.vortex_types.proofs.name_index.first_places.Goals as goal

pub loop-i-preserved : goal.loop-i-preserved
loop-i-preserved c =
    let names = c.args.names.now in
    let i = c.loop-i.i - 1 in
    let within : i < length names = omega (arith, c.loop-i-test.true, c.loop-i.invariant.0) in
    let next : c.loop-i.i - 1 + 1 ≡ c.loop-i.i = omega (arith, c.loop-i-test.true) in (
      omega (arith, within),
      λ q.
          let updated = hash_map_updates_str c.as_str.result.now c.loop-i.places c.insert.new.self _ c.in_ok-insert.ensures.updates q in
          place_step names i c.index-names-i.result q (get_by (λ k. bytes_eq q k.now) c.loop-i.places) _ within c.index-names-i.is
          (rw next (c.loop-i.invariant.1 q)) (rw (← c.as_str.ensures.text) updated),
    )

pub returns-clause-places : goal.returns-clause-places
returns-clause-places c = λ q.
    let first : c.loop-i.i ≡ 0 = omega (arith, c.loop-i-test.false) in
    rw first at (c.loop-i.invariant.1 q) ∙ sym (position_from-zero (λ y. bytes_eq y q) c.args.names.now)
