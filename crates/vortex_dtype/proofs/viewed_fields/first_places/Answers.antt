use Rattle.std.proofs.Common.{◌≡◌, ◌+◌, ◌-◌, ◌<◌, ap, ◌∙◌, arith}
use Rattle.std.specs.Map.{lookup}
use Rattle.std.specs.HashMap.{get_by}
use Rattle.std.specs.Str.{bytes_eq}
use Rattle.std.proofs.lemmas.Map.Text.{hash_map_updates_str}
use Rattle.vortex_terms.specs.Types.{field_count}
use Rattle.vortex_schema.specs.Views.{fields_of}
use Rattle.vortex_dtype.proofs.Walked.{place_start, place_before, place_none}
use Rattle.vortex_dtype.proofs.viewed_fields.first_places.Goals as goal

pub loop-i-init : goal.loop-i-init
loop-i-init c =
    (omega (arith, c.len-i.ensures), λ q. ap (lookup (λ k. bytes_eq q k.now)) c.new-places.ensures.empty ∙ place_none (fields_of c.args.fields.now) q _ c.len-i.ensures)

pub loop-i-preserved : goal.loop-i-preserved
loop-i-preserved c =
    let fs = fields_of c.args.fields.now in
    let i = c.loop-i.i - 1 in
    let within : i < field_count fs = omega (arith, c.loop-i-test.true, c.loop-i.invariant.0) in
    let next : c.loop-i.i - 1 + 1 ≡ c.loop-i.i = omega (arith, c.loop-i-test.true) in (
      omega (arith, within),
      λ q.
          let updated = hash_map_updates_str c.name.result.now c.loop-i.places c.insert.new.self _ c.in_ok-insert.ensures.updates q in
          place_before fs i c.name.result.now q (get_by (λ k. bytes_eq q k.now) c.loop-i.places) _ c.name.ensures
          (rw next (c.loop-i.invariant.1 q)) updated,
    )

pub returns-clause-places : goal.returns-clause-places
returns-clause-places c = λ q.
    let first : c.loop-i.i ≡ 0 = omega (arith, c.loop-i-test.false) in
    rw first at (c.loop-i.invariant.1 q) ∙ place_start (fields_of c.args.fields.now) q
