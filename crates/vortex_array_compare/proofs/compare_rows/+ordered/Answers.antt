use Rattle.std.proofs.Common.{rules, ◌+◌, ◌-◌, ◌*◌, ◌∙◌, ℤ, true, false, Some, sym, ap, subst, arith}
use Rattle.std.specs.Prelude.{slice_range}
use Rattle.std.proofs.lemmas.Int.{to_z-of_z}
use Rattle.std.specs.Int.{w128}
use Rattle.std.specs.Option.{IsSome}
use mir.Val.{SFits}
use Rattle.vortex_terms.specs.Row.{null_row, truth_row, whole_row, bytes_row, rows_from}
use Rattle.vortex_terms.specs.Order.{row_cmp}
use Rattle.vortex_terms.specs.Term.{Term}
use Rattle.vortex_types.specs.DTypes.{term_of}
use Rattle.vortex_types.specs.TypeRefs.{ref_term}
use Rattle.vortex_value_rows.specs.Inside.{every}
use Rattle.vortex_value_rows.specs.RowOf.{row_under}
use Rattle.vortex_array_data.specs.Column.{Column}
use Rattle.vortex_array_data.proofs.HeldParts.{fields_in, storage_in}
use Rattle.vortex_array_data.proofs.HeldValues.{lists_in, fixed_in, list_within, fixed_within, fields_above, place_below, list_lighter, fixed_list_lighter, struct_lighter}
use Rattle.vortex_array_compare.proofs.ComparedPlaces.{own_held, shown, storage_lighter, hidden_order, shown_leaf, shown_order, shown_lists, lists_greater, fixed_greater, structs_greater, shown_structs, storage_order, storage_below, storage_value, nulls_at, truths_at, numbers_at, decimals_at, texts_at, constant_at, lists_at, fixed_at, structs_at, lists_inside, fixed_inside, structs_inside}
use Rattle.vortex_array_compare.proofs.ComparedLists.{AreRows, front, first_row, rest_rows, goes_on, decides, fewer_rows, fewer_values}
use Rattle.vortex_array_compare.proofs.compare_rows.+ordered.Goals as goal

pub row_order-returns-then-not-is_unmasked : goal.row_order-returns-then-not-is_unmasked
row_order-returns-then-not-is_unmasked t c =
    hidden_order c.array.inside c.args.array.now c.args.i c.row_ref-other.result c.args.value.now c.null_order.result
    c.array.invariant c.array.view_is c.requires.place (sym c.if-not-is_unmasked.ensures)
    (own_held c.array.inside c.args.array.now (ref_term c.type_ref.result) c.row_ref-other.result c.args.value.now
    c.array.view_is c.type_ref.ensures c.row_ref-other.ensures c.requires.row) c.null_order.ensures

pub row_order-returns-in-Nulls : goal.row_order-returns-in-Nulls
row_order-returns-in-Nulls t c =
    shown_leaf c.array.inside c.args.array.now c.args.i null_row c.row_ref-other.result c.args.value.now c.null_order-in-Nulls.result
    (shown c.array.inside c.args.array.now c.args.i c.array.invariant c.array.view_is c.requires.place c.if-not-is_unmasked.ensures)
    (nulls_at c.array.inside c.args.array.now c.args.i (shown c.array.inside c.args.array.now c.args.i c.array.invariant c.array.view_is c.requires.place c.if-not-is_unmasked.ensures) c.in-Nulls.is)
    (own_held c.array.inside c.args.array.now (ref_term c.type_ref.result) c.row_ref-other.result c.args.value.now c.array.view_is c.type_ref.ensures
    c.row_ref-other.ensures c.requires.row)
    tt c.null_order-in-Nulls.ensures

pub row_order-returns-in-Truths : goal.row_order-returns-in-Truths
row_order-returns-in-Truths t c =
    shown_leaf c.array.inside c.args.array.now c.args.i (truth_row c.value.result) c.row_ref-other.result c.args.value.now c.truth_order.result
    (shown c.array.inside c.args.array.now c.args.i c.array.invariant c.array.view_is c.requires.place c.if-not-is_unmasked.ensures)
    (truths_at c.array.inside c.args.array.now c.args.i c.in-Truths.mask c.value.result (shown c.array.inside c.args.array.now c.args.i c.array.invariant c.array.view_is c.requires.place c.if-not-is_unmasked.ensures) c.in-Truths.is c.value.ensures)
    (own_held c.array.inside c.args.array.now (ref_term c.type_ref.result) c.row_ref-other.result c.args.value.now c.array.view_is c.type_ref.ensures
    c.row_ref-other.ensures c.requires.row)
    tt c.truth_order.ensures

pub row_order-returns-in-Numbers : goal.row_order-returns-in-Numbers
row_order-returns-in-Numbers t c =
    let x : SFits w128 c.number.result = search rules in
    let back = to_z-of_z w128 c.number.result x in
    shown_leaf c.array.inside c.args.array.now c.args.i (whole_row _) c.row_ref-other.result c.args.value.now c.whole_order.result
    (shown c.array.inside c.args.array.now c.args.i c.array.invariant c.array.view_is c.requires.place c.if-not-is_unmasked.ensures)
    (numbers_at c.array.inside c.args.i c.in-Numbers.numbers _ c.in-Numbers.is (c.number.ensures ∙ ap (λ (z : ℤ). Some (whole_row z)) (sym back)))
    (own_held c.array.inside c.args.array.now (ref_term c.type_ref.result) c.row_ref-other.result c.args.value.now c.array.view_is c.type_ref.ensures
    c.row_ref-other.ensures c.requires.row)
    tt c.whole_order.ensures

pub row_order-returns-in-Decimals : goal.row_order-returns-in-Decimals
row_order-returns-in-Decimals t c =
    let x : SFits w128 c.number-in-Decimals.result = search rules in
    let back = to_z-of_z w128 c.number-in-Decimals.result x in
    shown_leaf c.array.inside c.args.array.now c.args.i (whole_row _) c.row_ref-other.result c.args.value.now c.whole_order-in-Decimals.result
    (shown c.array.inside c.args.array.now c.args.i c.array.invariant c.array.view_is c.requires.place c.if-not-is_unmasked.ensures)
    (decimals_at c.array.inside c.args.i c.in-Decimals.decimals _ c.in-Decimals.is (c.number-in-Decimals.ensures ∙ ap (λ (z : ℤ). Some (whole_row z)) (sym back)))
    (own_held c.array.inside c.args.array.now (ref_term c.type_ref.result) c.row_ref-other.result c.args.value.now c.array.view_is c.type_ref.ensures
    c.row_ref-other.ensures c.requires.row)
    tt c.whole_order-in-Decimals.ensures

pub row_order-returns-in-Texts : goal.row_order-returns-in-Texts
row_order-returns-in-Texts t c =
    shown_leaf c.array.inside c.args.array.now c.args.i (bytes_row c.piece.result.now) c.row_ref-other.result c.args.value.now c.bytes_order.result
    (shown c.array.inside c.args.array.now c.args.i c.array.invariant c.array.view_is c.requires.place c.if-not-is_unmasked.ensures)
    (texts_at c.array.inside c.args.i c.in-Texts.texts c.piece.result.now c.in-Texts.is c.piece.ensures)
    (own_held c.array.inside c.args.array.now (ref_term c.type_ref.result) c.row_ref-other.result c.args.value.now c.array.view_is c.type_ref.ensures
    c.row_ref-other.ensures c.requires.row)
    tt c.bytes_order.ensures

pub row_order-rows_order-requires : goal.row_order-rows_order-requires
row_order-rows_order-requires t c =
    let is = (ap lists_in c.in-Lists.is ∙ ap (λ (e : Column). Some (c.in-Lists.offsets, e)) (sym c.deref.ensures)) in
    let within = list_within (term_of c.array.inside.dtype) c.array.inside.len c.args.i c.array.inside.held.content (c.in-Lists.offsets, c.deref.result.now) c.bounds-from.result.0 c.bounds-from.result.1 is c.array.invariant.shape
    c.bounds-from.ensures.from c.bounds-from.ensures.to in
    let inside = (lists_inside c.array.inside c.args.array.now (c.in-Lists.offsets, c.deref.result.now) c.row_ref-other.result c.in-List.values c.args.value.now c.array.invariant c.array.view_is (ap lists_in c.in-Lists.is ∙ ap (λ (e : Column). Some (c.in-Lists.offsets, e)) (sym c.deref.ensures))
    (own_held c.array.inside c.args.array.now (ref_term c.type_ref.result) c.row_ref-other.result c.args.value.now c.array.view_is c.type_ref.ensures
    c.row_ref-other.ensures c.requires.row) c.in-List.is) in
    (omega (arith, c.decreases, list_lighter c.array.inside c.args.array.now (c.in-Lists.offsets, c.deref.result.now) c.array.view_is is), (within.0, (within.1, inside.some)))

pub row_order-returns-in-List : goal.row_order-returns-in-List
row_order-returns-in-List t c =
    shown_lists c.array.inside c.args.array.now c.args.i (rows_from (slice_range c.deref.result.now.rows c.bounds-from.result.0 c.bounds-from.result.1)) (every c.deref.result.now.dtype) c.in-List.values.now c.args.value.now c.rows_order.result
    (shown c.array.inside c.args.array.now c.args.i c.array.invariant c.array.view_is c.requires.place c.if-not-is_unmasked.ensures)
    (lists_at c.array.inside c.args.i (c.in-Lists.offsets, c.deref.result.now) c.bounds-from.result.0 c.bounds-from.result.1 c.array.invariant (ap lists_in c.in-Lists.is ∙ ap (λ (e : Column). Some (c.in-Lists.offsets, e)) (sym c.deref.ensures)) c.bounds-from.ensures.from c.bounds-from.ensures.to)
    (lists_inside c.array.inside c.args.array.now (c.in-Lists.offsets, c.deref.result.now) c.row_ref-other.result c.in-List.values c.args.value.now c.array.invariant c.array.view_is (ap lists_in c.in-Lists.is ∙ ap (λ (e : Column). Some (c.in-Lists.offsets, e)) (sym c.deref.ensures))
    (own_held c.array.inside c.args.array.now (ref_term c.type_ref.result) c.row_ref-other.result c.args.value.now c.array.view_is c.type_ref.ensures
    c.row_ref-other.ensures c.requires.row) c.in-List.is)
    c.rows_order.ensures

pub row_order-returns-in_default : goal.row_order-returns-in_default
row_order-returns-in_default t c =
    lists_greater c.array.inside c.args.array.now c.args.i (c.in-Lists.offsets, c.in-Lists.elements.value) c.row_ref-other.result c.args.value.now
    (shown c.array.inside c.args.array.now c.args.i c.array.invariant c.array.view_is c.requires.place c.if-not-is_unmasked.ensures)
    (ap lists_in c.in-Lists.is)
    (own_held c.array.inside c.args.array.now (ref_term c.type_ref.result) c.row_ref-other.result c.args.value.now c.array.view_is c.type_ref.ensures
    c.row_ref-other.ensures c.requires.row)
    c.in_default.not-List

pub row_order-returns-in_default-other : goal.row_order-returns-in_default-other
row_order-returns-in_default-other t c =
    fixed_greater c.array.inside c.args.array.now c.args.i (c.in-FixedLists.size, c.in-FixedLists.elements.value) c.row_ref-other.result c.args.value.now
    (shown c.array.inside c.args.array.now c.args.i c.array.invariant c.array.view_is c.requires.place c.if-not-is_unmasked.ensures)
    (ap fixed_in c.in-FixedLists.is)
    (own_held c.array.inside c.args.array.now (ref_term c.type_ref.result) c.row_ref-other.result c.args.value.now c.array.view_is c.type_ref.ensures
    c.row_ref-other.ensures c.requires.row)
    c.in_default-other.not-List

pub row_order-returns-in_default-other-2 : goal.row_order-returns-in_default-other-2
row_order-returns-in_default-other-2 t c =
    structs_greater c.array.inside c.args.array.now c.args.i c.in-Structs.fields.items c.row_ref-other.result c.args.value.now
    (shown c.array.inside c.args.array.now c.args.i c.array.invariant c.array.view_is c.requires.place c.if-not-is_unmasked.ensures)
    (ap fields_in c.in-Structs.is) (fields_above (term_of c.array.inside.dtype) c.array.inside.len c.args.i c.array.inside.held.content c.in-Structs.fields.items (ap fields_in c.in-Structs.is) c.array.invariant.shape
    (place_below c.array.inside c.args.array.now c.args.i c.array.invariant c.array.view_is c.requires.place))
    (own_held c.array.inside c.args.array.now (ref_term c.type_ref.result) c.row_ref-other.result c.args.value.now c.array.view_is c.type_ref.ensures
    c.row_ref-other.ensures c.requires.row)
    c.in_default-other-2.not-List

pub row_order-rows_order-requires-in-List-other : goal.row_order-rows_order-requires-in-List-other
row_order-rows_order-requires-in-List-other t c =
    let is = (ap fixed_in c.in-FixedLists.is ∙ ap (λ (e : Column). Some (c.in-FixedLists.size, e)) (sym c.deref-in-List-other.ensures)) in
    let within = fixed_within (term_of c.array.inside.dtype) c.array.inside.len c.args.i c.array.inside.held.content (c.in-FixedLists.size, c.deref-in-List-other.result.now) is c.array.invariant.shape (place_below c.array.inside c.args.array.now c.args.i c.array.invariant c.array.view_is c.requires.place) in
    let inside = (fixed_inside c.array.inside c.args.array.now (c.in-FixedLists.size, c.deref-in-List-other.result.now) c.row_ref-other.result c.in-List-other.values c.args.value.now c.array.invariant c.array.view_is (ap fixed_in c.in-FixedLists.is ∙ ap (λ (e : Column). Some (c.in-FixedLists.size, e)) (sym c.deref-in-List-other.ensures))
    (own_held c.array.inside c.args.array.now (ref_term c.type_ref.result) c.row_ref-other.result c.args.value.now c.array.view_is c.type_ref.ensures
    c.row_ref-other.ensures c.requires.row) c.in-List-other.is) in
    (omega (arith, c.decreases, fixed_list_lighter c.array.inside c.args.array.now (c.in-FixedLists.size, c.deref-in-List-other.result.now) c.array.view_is is), (omega arith, (within, inside.some)))

pub row_order-returns-in-List-other : goal.row_order-returns-in-List-other
row_order-returns-in-List-other t c =
    shown_lists c.array.inside c.args.array.now c.args.i (rows_from (slice_range c.deref-in-List-other.result.now.rows (c.args.i * c.in-FixedLists.size) (c.args.i * c.in-FixedLists.size + c.in-FixedLists.size))) (every c.deref-in-List-other.result.now.dtype) c.in-List-other.values.now c.args.value.now c.rows_order-in-List-other.result
    (shown c.array.inside c.args.array.now c.args.i c.array.invariant c.array.view_is c.requires.place c.if-not-is_unmasked.ensures)
    (fixed_at c.array.inside c.args.array.now c.args.i (c.in-FixedLists.size, c.deref-in-List-other.result.now) (shown c.array.inside c.args.array.now c.args.i c.array.invariant c.array.view_is c.requires.place c.if-not-is_unmasked.ensures) (ap fixed_in c.in-FixedLists.is ∙ ap (λ (e : Column). Some (c.in-FixedLists.size, e)) (sym c.deref-in-List-other.ensures)))
    (fixed_inside c.array.inside c.args.array.now (c.in-FixedLists.size, c.deref-in-List-other.result.now) c.row_ref-other.result c.in-List-other.values c.args.value.now c.array.invariant c.array.view_is (ap fixed_in c.in-FixedLists.is ∙ ap (λ (e : Column). Some (c.in-FixedLists.size, e)) (sym c.deref-in-List-other.ensures))
    (own_held c.array.inside c.args.array.now (ref_term c.type_ref.result) c.row_ref-other.result c.args.value.now c.array.view_is c.type_ref.ensures
    c.row_ref-other.ensures c.requires.row) c.in-List-other.is)
    c.rows_order-in-List-other.ensures

pub row_order-fields_order-requires : goal.row_order-fields_order-requires
row_order-fields_order-requires t c =
    let inside = (structs_inside c.array.inside c.args.array.now c.deref-in-List-other-2.result.now c.row_ref-other.result c.in-List-other-2.values c.args.value.now c.array.invariant c.array.view_is (ap fields_in c.in-Structs.is ∙ ap Some (sym c.deref-in-List-other-2.ensures.value))
    (own_held c.array.inside c.args.array.now (ref_term c.type_ref.result) c.row_ref-other.result c.args.value.now c.array.view_is c.type_ref.ensures
    c.row_ref-other.ensures c.requires.row) c.in-List-other-2.is) in (
      omega (arith, c.decreases, struct_lighter c.array.inside c.args.array.now c.deref-in-List-other-2.result.now c.array.view_is (ap fields_in c.in-Structs.is ∙ ap Some (sym c.deref-in-List-other-2.ensures.value))),
      (
        (fields_above (term_of c.array.inside.dtype) c.array.inside.len c.args.i c.array.inside.held.content c.deref-in-List-other-2.result.now (ap fields_in c.in-Structs.is ∙ ap Some (sym c.deref-in-List-other-2.ensures.value)) c.array.invariant.shape
            (place_below c.array.inside c.args.array.now c.args.i c.array.invariant c.array.view_is c.requires.place)),
        inside.rows,
      ),
    )

pub row_order-returns-in-List-other-2 : goal.row_order-returns-in-List-other-2
row_order-returns-in-List-other-2 t c =
    shown_structs c.array.inside c.args.array.now c.args.i c.deref-in-List-other-2.result.now c.in-List-other-2.values.now c.args.value.now c.fields_order.result
    (shown c.array.inside c.args.array.now c.args.i c.array.invariant c.array.view_is c.requires.place c.if-not-is_unmasked.ensures)
    (structs_at c.array.inside c.args.array.now c.args.i c.deref-in-List-other-2.result.now (shown c.array.inside c.args.array.now c.args.i c.array.invariant c.array.view_is c.requires.place c.if-not-is_unmasked.ensures) (ap fields_in c.in-Structs.is ∙ ap Some (sym c.deref-in-List-other-2.ensures.value)) (fields_above (term_of c.array.inside.dtype) c.array.inside.len c.args.i c.array.inside.held.content c.deref-in-List-other-2.result.now (ap fields_in c.in-Structs.is ∙ ap Some (sym c.deref-in-List-other-2.ensures.value)) c.array.invariant.shape
    (place_below c.array.inside c.args.array.now c.args.i c.array.invariant c.array.view_is c.requires.place)))
    (structs_inside c.array.inside c.args.array.now c.deref-in-List-other-2.result.now c.row_ref-other.result c.in-List-other-2.values c.args.value.now c.array.invariant c.array.view_is (ap fields_in c.in-Structs.is ∙ ap Some (sym c.deref-in-List-other-2.ensures.value))
    (own_held c.array.inside c.args.array.now (ref_term c.type_ref.result) c.row_ref-other.result c.args.value.now c.array.view_is c.type_ref.ensures
    c.row_ref-other.ensures c.requires.row) c.in-List-other-2.is)
    c.fields_order.ensures

pub row_order-row_order-requires : goal.row_order-row_order-requires
row_order-row_order-requires t c =
    let is = (ap storage_in c.in-Storage.is ∙ ap Some (sym c.deref-in-Storage.ensures)) in (
      omega (arith, c.decreases, storage_lighter c.array.inside c.args.array.now c.deref-in-Storage.result.now c.array.view_is is),
      (
        storage_below c.array.inside c.args.array.now c.deref-in-Storage.result.now c.args.i c.array.view_is is c.requires.place,
        subst IsSome (storage_value c.array.inside c.args.array.now c.deref-in-Storage.result.now c.args.value.now c.array.invariant c.array.view_is is) c.requires.row,
      ),
    )

pub row_order-returns-in-Storage : goal.row_order-returns-in-Storage
row_order-returns-in-Storage t c =
    storage_order c.array.inside c.args.array.now c.deref-in-Storage.result.now c.args.i c.args.value.now c.row_order.result (shown c.array.inside c.args.array.now c.args.i c.array.invariant c.array.view_is c.requires.place c.if-not-is_unmasked.ensures) (ap storage_in c.in-Storage.is ∙ ap Some (sym c.deref-in-Storage.ensures)) c.row_order.ensures

pub row_order-returns-in-Constant : goal.row_order-returns-in-Constant
row_order-returns-in-Constant t c =
    shown_order c.array.inside c.args.array.now c.args.i (row_under (term_of c.array.inside.dtype) c.in-Constant.mine) (row_under c.args.array.now.dtype c.args.value.now) c.compare.result
    (shown c.array.inside c.args.array.now c.args.i c.array.invariant c.array.view_is c.requires.place c.if-not-is_unmasked.ensures)
    (constant_at c.array.inside c.args.array.now c.args.i c.in-Constant.mine (shown c.array.inside c.args.array.now c.args.i c.array.invariant c.array.view_is c.requires.place c.if-not-is_unmasked.ensures) c.in-Constant.is)
    (c.compare.ensures
    ∙ ap (λ (u : Term). row_cmp (row_under u c.in-Constant.mine) (row_under u c.args.value.now)) c.type_ref-in-Constant.ensures
    ∙ ap (λ (x : Column). row_cmp (row_under (term_of c.array.inside.dtype) c.in-Constant.mine) (row_under x.dtype c.args.value.now)) c.array.view_is)

pub rows_order-returns-then-i-to : goal.rows_order-returns-then-i-to
rows_order-returns-then-i-to t c =
    fewer_rows c.args.array.now.dtype c.args.array.now.rows c.loop-rest.i c.args.to c.loop-rest.rest.now _ c.value-item.result _
    (front c.loop-rest.rest.now c.value-item.result c.in-len1-up.len_at_least c.value-item.is)
    (omega (arith, c.if-i-to.true)) c.loop-rest.invariant.rows c.loop-rest.invariant.same

pub rows_order-row_order-requires : goal.rows_order-row_order-requires
rows_order-row_order-requires t c = (
  omega (arith, c.decreases),
  (
    omega (arith, c.if-i-to.false, c.requires.within),
    first_row c.args.array.now.dtype c.value-item.result _ (subst (AreRows c.args.array.now.dtype)
        (front c.loop-rest.rest.now c.value-item.result c.in-len1-up.len_at_least c.value-item.is) c.loop-rest.invariant.rows),
  ),
)

pub rows_order-returns-in_default-row_order : goal.rows_order-returns-in_default-row_order
rows_order-returns-in_default-row_order t c =
    decides c.args.array.now.dtype c.args.array.now.rows c.loop-rest.i c.args.to c.loop-rest.rest.now _ c.value-item.result c.row_order.result _
    (front c.loop-rest.rest.now c.value-item.result c.in-len1-up.len_at_least c.value-item.is)
    (omega (arith, c.if-i-to.false)) c.requires.within c.loop-rest.invariant.rows c.row_order.ensures
    c.in_default-row_order.not-Equal c.loop-rest.invariant.same

pub rows_order-loop-rest-preserved : goal.rows_order-loop-rest-preserved
rows_order-loop-rest-preserved t c = record {
  rise = omega (arith, c.if-i-to.false);
  rows = rest_rows c.args.array.now.dtype c.value-item.result _ (subst (AreRows c.args.array.now.dtype)
      (front c.loop-rest.rest.now c.value-item.result c.in-len1-up.len_at_least c.value-item.is) c.loop-rest.invariant.rows);
  same = goes_on c.args.array.now.dtype c.args.array.now.rows c.loop-rest.i c.args.to c.loop-rest.rest.now _ c.value-item.result _
      (front c.loop-rest.rest.now c.value-item.result c.in-len1-up.len_at_least c.value-item.is)
      (omega (arith, c.if-i-to.false)) c.requires.within c.loop-rest.invariant.rows c.in-Equal.ensures
      c.loop-rest.invariant.same;
}

pub rows_order-returns-then-i-to-2 : goal.rows_order-returns-then-i-to-2
rows_order-returns-then-i-to-2 t c =
    fewer_values c.args.array.now.dtype c.args.array.now.rows c.loop-rest.i c.args.to c.loop-rest.rest.now _ c.in_default.len_below
    (omega (arith, c.if-i-to-2.true)) c.requires.within c.loop-rest.invariant.same
