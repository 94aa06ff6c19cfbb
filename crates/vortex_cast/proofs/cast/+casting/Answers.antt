use Rattle.std.proofs.Common.{◌≡◌, ◌+◌, sym, ap, subst, ◌∙◌, arith, Some, inr}
use Rattle.std.specs.Option.{IsSome}
use Rattle.vortex_terms.specs.Term.{structure}
use Rattle.vortex_terms.specs.Weight.{weight}
use Rattle.vortex_names.specs.Nullable.{is_nullable}
use Rattle.vortex_types.specs.TypeRefs.{ref_term, fields_term}
use Rattle.vortex_scalar_value.specs.Value.{values_from}
use Rattle.vortex_value_rows.specs.RowOf.{row_of}
use Rattle.vortex_value_rows.specs.Inside.{inside_term, every, each, in_of}
use Rattle.vortex_value_rows.proofs.Insides.{part_lighter}
use Rattle.vortex_value_rows.proofs.Walks.{parts_light, inside_some, inside_is, has_part, step}
use Rattle.vortex_cast.specs.inner.Steps.{stored_cast}
use Rattle.vortex_cast.proofs.Stored.{null_cast, other_cast, cast_same, list_shape}
use Rattle.vortex_cast.proofs.Inner.{Goes, start, other_part, refused_at, goes_on, ends, list_is_cast, as_sized, other_size}
use Rattle.vortex_cast.proofs.cast.+casting.Goals as goal

pub cast_value-cast_stored-requires : goal.cast_value-cast_stored-requires
cast_value-cast_stored-requires t c = (omega arith, c.requires)

pub cast_value-returns-then-is_null : goal.cast_value-returns-then-is_null
cast_value-returns-then-is_null t c = null_cast (ref_term c.args.from) (ref_term c.args.to) c.args.value.now c.cast_null.result (sym c.if-is_null.ensures) c.cast_null.ensures

pub cast_value-returns-else-is_null : goal.cast_value-returns-else-is_null
cast_value-returns-else-is_null t c =
    other_cast (ref_term c.args.from) (ref_term c.args.to) (ref_term c.storage.result) c.args.value.now c.cast_stored.result (sym c.if-is_null.ensures) c.requires c.storage.ensures c.cast_stored.ensures

pub cast_stored-cast_struct-requires : goal.cast_stored-cast_struct-requires
cast_stored-cast_struct-requires t c =
    let d = each (fields_term c.in-Struct.fields) in
    let is : in_of (ref_term c.args.from) ≡ Some d = ap in_of (sym c.in-Struct.ensures) in (
      omega (arith, parts_light (ref_term c.args.from) d is),
      inside_some (ref_term c.args.from) d (values_from c.in-List-row.values.now) (row_of (ref_term c.args.from) c.args.value.now) c.in-List-row.ensures c.requires is,
    )

pub cast_stored-cast_value-requires : goal.cast_stored-cast_value-requires
cast_stored-cast_value-requires t c =
    (omega (arith, ap weight c.in-Extension.ensures), subst (λ u. IsSome (row_of u c.args.value.now)) (sym c.in-Extension.ensures) c.requires)

pub cast_stored-cast_list-requires : goal.cast_stored-cast_list-requires
cast_stored-cast_list-requires t c =
    let d = every (ref_term c.in-List.element) in
    let is : in_of (ref_term c.args.from) ≡ Some d = sym (ap in_of c.shape.ensures) ∙ list_shape c.shape.result c.in-List.element c.in-List.is in (
      omega (arith, parts_light (ref_term c.args.from) d is),
      inside_some (ref_term c.args.from) d (values_from c.in-List-row-2.values.now) (row_of (ref_term c.args.from) c.args.value.now) c.in-List-row-2.ensures c.requires is,
    )

pub cast_stored-returns-in-List-row : goal.cast_stored-returns-in-List-row
cast_stored-returns-in-List-row t c =
    let s = ref_term c.args.from in
    let d = each (fields_term c.in-Struct.fields) in
    let same : structure (fields_term c.in-Struct.fields) (is_nullable c.in-Struct.field-1) ≡ s = c.in-Struct.ensures in
    let row = inside_is s d (values_from c.in-List-row.values.now) (row_of s c.args.value.now) c.in-List-row.ensures c.requires (ap in_of (sym same)) in
    cast_same (row_of (ref_term c.args.to)) c.cast_struct.result _ _ (λ i. stored_cast (same i) (sym row i) (ref_term c.args.to)) c.cast_struct.ensures

pub cast_struct-cast_inside-requires : goal.cast_struct-cast_inside-requires
cast_struct-cast_inside-requires t c = (omega arith, (c.requires, omega (arith, c.len.ensures, c.len-in-Struct.ensures, c.if-len.true)))

pub cast_list-cast_inside-requires : goal.cast_list-cast_inside-requires
cast_list-cast_inside-requires t c = (omega arith, (c.requires, tt))

pub cast_list-cast_inside-requires-then-values-size : goal.cast_list-cast_inside-requires-then-values-size
cast_list-cast_inside-requires-then-values-size t c = (omega arith, (c.requires, tt))

pub cast_list-returns-then-values-size : goal.cast_list-returns-then-values-size
cast_list-returns-then-values-size t c =
    as_sized (ref_term c.args.element) (ref_term c.in-FixedSizeList.other) c.in-FixedSizeList.size (is_nullable c.in-FixedSizeList.field-2) (ref_term c.args.to) c.args.values.now
    c.cast_inside-then-values-size.result c.in-FixedSizeList.ensures c.requires c.if-values-size.true c.cast_inside-then-values-size.ensures

pub cast_list-returns-else-values-size : goal.cast_list-returns-else-values-size
cast_list-returns-else-values-size t c =
    inr (other_size (ref_term c.args.element) (ref_term c.in-FixedSizeList.other) c.in-FixedSizeList.size (is_nullable c.in-FixedSizeList.field-2) (ref_term c.args.to) c.args.values.now
    c.in-FixedSizeList.ensures c.requires c.if-values-size.false)

pub cast_inside-loop-i-init : goal.cast_inside-loop-i-init
cast_inside-loop-i-init t c =
    subst (Goes (inside_term c.args.from) (inside_term c.args.to) c.args.values.now 0) (sym c.in_ok-cast.ensures.items)
    (start (inside_term c.args.from) (inside_term c.args.to) c.args.values.now c.requires.rows)

pub cast_inside-part_at-requires : goal.cast_inside-part_at-requires
cast_inside-part_at-requires t c = has_part (inside_term c.args.from) c.args.values.now c.loop-i.i c.requires.rows c.loop-i-test.true

pub cast_inside-part_at-requires-in-loop-i : goal.cast_inside-part_at-requires-in-loop-i
cast_inside-part_at-requires-in-loop-i t c =
    other_part (inside_term c.args.from) (inside_term c.args.to) c.loop-i.i (ref_term c.part_at.result) c.requires.pair c.part_at.ensures

pub cast_inside-cast_value-requires : goal.cast_inside-cast_value-requires
cast_inside-cast_value-requires t c =
    let d = inside_term c.args.from in
    let u = ref_term c.part_at.result in (
      omega (arith, part_lighter d c.loop-i.i u c.part_at.ensures),
      (step d c.args.values.now c.loop-i.i u c.value_at.result.now c.part_at.ensures c.value_at.ensures c.loop-i.invariant.has).here,
    )

pub cast_inside-returns-in-Err : goal.cast_inside-returns-in-Err
cast_inside-returns-in-Err t c =
    refused_at (inside_term c.args.from) (inside_term c.args.to) c.args.values.now c.loop-i.cast.items c.loop-i.i (ref_term c.part_at.result) (ref_term c.part_at-in-loop-i.result)
    c.value_at.result.now c.in-Err.e c.requires.pair c.part_at.ensures c.part_at-in-loop-i.ensures c.value_at.ensures c.in-Err.ensures c.loop-i.invariant

pub cast_inside-loop-i-preserved : goal.cast_inside-loop-i-preserved
cast_inside-loop-i-preserved t c =
    subst (Goes (inside_term c.args.from) (inside_term c.args.to) c.args.values.now (c.loop-i.i + 1)) (sym c.in_ok-push-in-Ok.ensures.items)
    (goes_on (inside_term c.args.from) (inside_term c.args.to) c.args.values.now c.loop-i.cast.items c.loop-i.i (ref_term c.part_at.result) (ref_term c.part_at-in-loop-i.result)
    c.value_at.result.now c.in-Ok.value c.requires.pair c.part_at.ensures c.part_at-in-loop-i.ensures c.value_at.ensures c.in-Ok.ensures c.loop-i.invariant)

pub cast_inside-returns : goal.cast_inside-returns
cast_inside-returns t c =
    list_is_cast (inside_term c.args.from) (inside_term c.args.to) c.args.values.now c.loop-i.cast.items c.from_list.result c.from_list.ensures.value c.from_list.ensures.memory
    (ends (inside_term c.args.from) (inside_term c.args.to) c.args.values.now c.loop-i.cast.items c.loop-i.i c.requires.pair c.requires.rows
    (omega (arith, c.loop-i-test.false, c.loop-i.auto.i-end)) c.loop-i.invariant)
