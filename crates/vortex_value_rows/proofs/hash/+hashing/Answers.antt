use Rattle.std.proofs.Common.{◌∷◌, ap, sym, ◌∙◌, arith}
use Rattle.std.specs.Prelude.{fold}
use Rattle.std.specs.Hash as fed
use Rattle.vortex_types.specs.TypeRefs.{ref_term}
use Rattle.vortex_scalar_value.specs.Value.{values_from}
use Rattle.vortex_value_rows.specs.RowOf.{row_of}
use Rattle.vortex_value_rows.specs.HashInput.{rows_writes}
use Rattle.vortex_value_rows.specs.Inside.{inside_term}
use Rattle.vortex_value_rows.specs.HeldRow.{rows_under}
use Rattle.vortex_value_rows.proofs.Insides.{part_lighter}
use Rattle.vortex_value_rows.proofs.Walks.{step, has_part, parts_light, inside_some, count}
use Rattle.vortex_value_rows.proofs.Fed.{fed_step, rows_end}
use Rattle.vortex_value_rows.proofs.hash.+hashing.Goals as goal

pub hash_row-hash_inside-requires : goal.hash_row-hash_inside-requires
hash_row-hash_inside-requires g t c κs within =
    let u = ref_term c.args.of in
    let d = inside_term c.parts_of.result in (
      omega (arith, parts_light u d c.parts_of.ensures),
      (within, inside_some u d (values_from c.in-List.values.now) (row_of u c.args.value.now) c.in-List.ensures c.requires c.parts_of.ensures),
    )

pub hash_inside-part_at-requires : goal.hash_inside-part_at-requires
hash_inside-part_at-requires g t c =
    has_part (inside_term c.args.inside) c.args.values.now c.loop-i.i c.requires c.loop-i-test.true

pub hash_inside-hash_row-requires : goal.hash_inside-hash_row-requires
hash_inside-hash_row-requires g t c κs within =
    let d = inside_term c.args.inside in
    let u = ref_term c.part_at.result in
    let one = step d c.args.values.now c.loop-i.i u c.value_at.result.now c.part_at.ensures c.value_at.ensures c.loop-i.invariant.1 in
    (omega (arith, part_lighter d c.loop-i.i u c.part_at.ensures), (within, one.here))

pub hash_inside-loop-i-preserved : goal.hash_inside-loop-i-preserved
hash_inside-loop-i-preserved g t c =
    let d = inside_term c.args.inside in
    let u = ref_term c.part_at.result in
    let one = step d c.args.values.now c.loop-i.i u c.value_at.result.now c.part_at.ensures c.value_at.ensures c.loop-i.invariant.1 in (
      fed_step g.H.Hasher.write d c.args.values.now c.loop-i.i u c.value_at.result.now (fold g.H.Hasher.write c.hash.new.state (rows_writes (rows_under d (values_from c.args.values.now)))) c.loop-i.state c.hash_row.new.state one c.hash_row.ensures c.loop-i.invariant.0,
      one.rest,
    )

pub hash_inside-returns : goal.hash_inside-returns
hash_inside-returns g t c =
    let write = g.H.Hasher.write in
    let d = inside_term c.args.inside in
    let all = rows_writes (rows_under d (values_from c.args.values.now)) in
    sym (ap (λ rs. fold write c.loop-i.state (rows_writes rs)) (rows_end d c.args.values.now c.loop-i.i c.loop-i.invariant.1 (omega (arith, c.loop-i-test.false)))) ∙ c.loop-i.invariant.0
    ∙ ap (λ s. fold write s all) c.hash.ensures
    ∙ ap (λ n. fold write c.args.state.now (fed.le_bytes 8 n ∷ all)) (sym (count d c.args.values.now c.requires))
