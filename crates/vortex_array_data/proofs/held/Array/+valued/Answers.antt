use Rattle.std.proofs.Common.{rules, ◌≡◌, ◌<◌, ◌+◌, ◌-◌, ◌*◌, ◌∙◌, ℤ, List, [], ◌∷◌, true, false, Some, take, inl, inr, length, refl, sym, ap, subst, arith}
use Rattle.std.specs.Prelude.{slice_get, slice_range}
use Rattle.std.proofs.lemmas.Option.{slice_get_read}
use Rattle.std.proofs.lemmas.List.{take_all}
use Rattle.std.proofs.lemmas.Int.{to_z-of_z}
use Rattle.std.specs.Int.{w128}
use mir.Val.{SFits}
use Rattle.vortex_names.specs.Nullable.{is_nullable}
use Rattle.vortex_number.specs.WholeKind.{whole_kind}
use Rattle.vortex_value.specs.PValue.{kind_of, number_of}
use Rattle.vortex_terms.specs.Row.{whole_row}
use Rattle.vortex_types.specs.DTypes.{term_of}
use Rattle.vortex_scalar_value.specs.Value.{ValueTerm, bytes_value, text_value, list_value, values_from}
use Rattle.vortex_value_rows.specs.RowOf.{row_of}
use Rattle.vortex_array_data.specs.Column.{Column}
use Rattle.vortex_array_data.specs.ValuesAt.{AreValuesOf, AreValuesAt}
use Rattle.vortex_array_data.proofs.HeldParts.{fields_in}
use Rattle.vortex_array_data.proofs.ValueRows.{values_more, range_none, range_step, fits_at}
use Rattle.vortex_array_data.proofs.HeldValues.{shown_value, hidden_value, nulls_value, truths_value, numbers_value, decimals_value, texts_value, lists_in, fixed_in, list_within, lists_value, fixed_within, fixed_value, fields_above, structs_value, constant_value, place_below, content_below, number_fits, text_fits, ok_then, list_lighter, fixed_list_lighter, struct_lighter, field_lighter}
use Rattle.vortex_array_data.proofs.held.Array.+valued.Goals as goal

pub field_values-loop-field-init : goal.field_values-loop-field-init
field_values-loop-field-init t c =
    subst (AreValuesAt c.args.i []) (sym c.in_ok-values.ensures.items) tt

pub field_values-loop-field-preserved : goal.field_values-loop-field-preserved
field_values-loop-field-preserved t c =
    subst (AreValuesAt c.args.i (take (c.loop-field.field-index + 1) c.args.fields.now)) (sym c.in_ok-push.ensures.items)
    (values_more c.args.i c.loop-field.field-index c.args.fields.now c.loop-field.values.items c.field-item.result
    c.in_ok-row_value.field-0 c.loop-field.invariant
    (slice_get_read c.args.fields.now (length c.args.fields.now) c.loop-field.field-index c.field-item.result refl
    c.loop-field-test.true c.field-item.is) c.in_ok-row_value.ensures.value)

pub field_values-row_value-requires : goal.field_values-row_value-requires
field_values-row_value-requires t c =
    let here = slice_get_read c.args.fields.now (length c.args.fields.now) c.loop-field.field-index c.field-item.result
    refl c.loop-field-test.true c.field-item.is in (
      omega (arith, c.decreases, field_lighter c.args.fields.now c.loop-field.field-index c.field-item.result here),
      fits_at (λ (f : Column). c.args.i < length f.rows) c.args.fields.now c.loop-field.field-index c.field-item.result
          c.requires here,
    )

pub field_values-returns-clause-values : goal.field_values-returns-clause-values
field_values-returns-clause-values t c =
    subst (λ (l : List Column). AreValuesAt c.args.i l c.loop-field.values.items)
    (take_all c.loop-field.field-index c.args.fields.now c.loop-field-test.false) c.loop-field.invariant

pub values_between-loop-i-init : goal.values_between-loop-i-init
values_between-loop-i-init t c =
    subst (λ (vs : List ValueTerm). AreValuesOf c.args.self.now.dtype vs
    (slice_range c.args.self.now.rows c.args.from c.args.from)) (sym c.in_ok-values.ensures.items)
    (subst (AreValuesOf c.args.self.now.dtype []) (sym (range_none c.args.self.now.rows c.args.from)) tt)

pub values_between-loop-i-preserved : goal.values_between-loop-i-preserved
values_between-loop-i-preserved t c =
    let some : c.loop-i.i < length c.args.self.now.rows = omega (arith, c.loop-i-test.true, c.requires.within) in
    subst (λ (vs : List ValueTerm). AreValuesOf c.args.self.now.dtype vs
    (slice_range c.args.self.now.rows c.args.from (c.loop-i.i + 1))) (sym c.in_ok-push.ensures.items)
    (range_step c.args.self.now.dtype c.args.self.now.rows c.args.from c.loop-i.i c.loop-i.values.items
    c.in_ok-row_value.field-0 (omega (arith, c.loop-i.auto.i)) some c.loop-i.invariant c.in_ok-row_value.ensures.value)

pub values_between-row_value-requires : goal.values_between-row_value-requires
values_between-row_value-requires t c =
    (omega (arith, c.decreases), omega (arith, c.loop-i-test.true, c.requires.within))

pub values_between-returns-clause-values : goal.values_between-returns-clause-values
values_between-returns-clause-values t c =
    let end : c.loop-i.i ≡ c.args.to = omega (arith, c.loop-i-test.false, c.loop-i.auto.i-end, c.requires.rise) in
    subst (λ k. AreValuesOf c.args.self.now.dtype c.loop-i.values.items (slice_range c.args.self.now.rows c.args.from k))
    end c.loop-i.invariant

pub row_value-returns-then-not-is_unmasked-clause-value : goal.row_value-returns-then-not-is_unmasked-clause-value
row_value-returns-then-not-is_unmasked-clause-value t c =
    hidden_value c.self.inside c.args.self.now c.args.i c.null.result c.self.invariant c.self.view_is c.requires
    (sym c.if-not-is_unmasked.ensures) c.null.ensures

pub row_value-number_value-number-requires : goal.row_value-number_value-number-requires
row_value-number_value-number-requires t c =
    let x : SFits w128 c.number.result = search rules in
    let back = to_z-of_z w128 c.number.result x in
    number_fits c.self.inside c.args.self.now c.args.i c.in-Numbers.numbers _ (whole_kind c.in-Primitive.ptype) (is_nullable c.in-Primitive.field-1)
    c.self.invariant c.self.view_is c.requires (sym c.if-not-is_unmasked.ensures) c.in-Numbers.is
    (c.number.ensures ∙ ap (λ (z : ℤ). Some (whole_row z)) (sym back)) (ap term_of c.in-Primitive.is)

pub row_value-text_value-requires : goal.row_value-text_value-requires
row_value-text_value-requires t c =
    text_fits c.self.inside c.args.self.now c.args.i c.in-Texts.texts c.piece.result.now (is_nullable c.in-Utf8.field-0)
    c.self.invariant c.self.view_is c.requires (sym c.if-not-is_unmasked.ensures) c.in-Texts.is c.piece.ensures
    (ap term_of c.in-Utf8.is)

pub row_value-values_between-requires : goal.row_value-values_between-requires
row_value-values_between-requires t c =
    let is = (ap lists_in c.in-Lists.is ∙ ap (λ (e : Column). Some (c.in-Lists.offsets, e)) (sym c.deref.ensures)) in
    let within = list_within (term_of c.self.inside.dtype) c.self.inside.len c.args.i c.self.inside.held.content (c.in-Lists.offsets, c.deref.result.now) c.bounds-from.result.0 c.bounds-from.result.1 is c.self.invariant.shape
    c.bounds-from.ensures.from c.bounds-from.ensures.to in
    (omega (arith, c.decreases, list_lighter c.self.inside c.args.self.now (c.in-Lists.offsets, c.deref.result.now) c.self.view_is is), (within.0, within.1))

pub row_value-values_between-requires-in-FixedLists : goal.row_value-values_between-requires-in-FixedLists
row_value-values_between-requires-in-FixedLists t c =
    let is = (ap fixed_in c.in-FixedLists.is ∙ ap (λ (e : Column). Some (c.in-FixedLists.size, e)) (sym c.deref-in-FixedLists.ensures)) in
    let within = fixed_within (term_of c.self.inside.dtype) c.self.inside.len c.args.i c.self.inside.held.content (c.in-FixedLists.size, c.deref-in-FixedLists.result.now) is c.self.invariant.shape (place_below c.self.inside c.args.self.now c.args.i c.self.invariant c.self.view_is c.requires) in (
      omega (arith, c.decreases, fixed_list_lighter c.self.inside c.args.self.now (c.in-FixedLists.size, c.deref-in-FixedLists.result.now) c.self.view_is is),
      (omega arith, within),
    )

pub row_value-field_values-requires : goal.row_value-field_values-requires
row_value-field_values-requires t c =
    let is = (ap fields_in c.in-Structs.is ∙ ap Some (sym c.deref-in-Structs.ensures.value)) in (
      omega (arith, c.decreases, struct_lighter c.self.inside c.args.self.now c.deref-in-Structs.result.now c.self.view_is is),
      fields_above (term_of c.self.inside.dtype) c.self.inside.len c.args.i c.self.inside.held.content c.deref-in-Structs.result.now is c.self.invariant.shape
          (place_below c.self.inside c.args.self.now c.args.i c.self.invariant c.self.view_is c.requires),
    )

pub row_value-returns-in-Nulls-clause-value : goal.row_value-returns-in-Nulls-clause-value
row_value-returns-in-Nulls-clause-value t c =
    shown_value c.self.inside c.args.self.now c.args.i c.null-in-Nulls.result c.self.invariant c.self.view_is c.requires
    (sym c.if-not-is_unmasked.ensures) (nulls_value (term_of c.self.inside.dtype) c.self.inside.len c.args.i c.null-in-Nulls.result c.self.inside.held.content c.in-Nulls.is
    (place_below c.self.inside c.args.self.now c.args.i c.self.invariant c.self.view_is c.requires) c.null-in-Nulls.ensures)

pub row_value-returns-in-Truths-clause-value : goal.row_value-returns-in-Truths-clause-value
row_value-returns-in-Truths-clause-value t c =
    shown_value c.self.inside c.args.self.now c.args.i c.from_bool.result c.self.invariant c.self.view_is c.requires
    (sym c.if-not-is_unmasked.ensures) (truths_value (term_of c.self.inside.dtype) c.self.inside.len c.args.i c.self.inside.held.content c.in-Truths.mask c.value.result c.from_bool.result c.in-Truths.is c.self.invariant.shape
    (place_below c.self.inside c.args.self.now c.args.i c.self.invariant c.self.view_is c.requires) c.value.ensures c.from_bool.ensures)

pub row_value-returns-in-Primitive-clause-value : goal.row_value-returns-in-Primitive-clause-value
row_value-returns-in-Primitive-clause-value t c =
    let x : SFits w128 c.number.result = search rules in
    let back = to_z-of_z w128 c.number.result x in
    shown_value c.self.inside c.args.self.now c.args.i c.from_pvalue.result c.self.invariant c.self.view_is c.requires
    (sym c.if-not-is_unmasked.ensures) (numbers_value (term_of c.self.inside.dtype) c.self.inside.len c.args.i c.self.inside.held.content c.in-Numbers.numbers (whole_kind (kind_of c.number_value-number.result))
    (number_of c.number_value-number.result) c.from_pvalue.result c.in-Numbers.is c.self.invariant.shape
    (c.number.ensures ∙ ap (λ (z : ℤ). Some (whole_row z)) (sym back ∙ sym c.number_value-number.ensures))
    c.from_pvalue.ensures)

pub row_value-returns-in-Decimals-clause-value : goal.row_value-returns-in-Decimals-clause-value
row_value-returns-in-Decimals-clause-value t c =
    let x : SFits w128 c.number-in-Decimals.result = search rules in
    let back = to_z-of_z w128 c.number-in-Decimals.result x in
    shown_value c.self.inside c.args.self.now c.args.i c.from_decimal.result c.self.invariant c.self.view_is c.requires
    (sym c.if-not-is_unmasked.ensures) (decimals_value (term_of c.self.inside.dtype) c.self.inside.len c.args.i c.self.inside.held.content c.in-Decimals.decimals _ _ c.from_decimal.result c.in-Decimals.is c.self.invariant.shape
    (c.number-in-Decimals.ensures ∙ ap (λ (z : ℤ). Some (whole_row z)) (sym back)) c.from_decimal.ensures)

pub row_value-returns-in-Utf8-clause-value : goal.row_value-returns-in-Utf8-clause-value
row_value-returns-in-Utf8-clause-value t c =
    ok_then c.text_value.result (λ (v : ValueTerm). v ≡ text_value c.piece.result.now) (λ (v : ValueTerm). row_of c.args.self.now.dtype v ≡ slice_get c.args.self.now.rows c.args.i)
    c.text_value.ensures.value (λ (v : ValueTerm) e.
    shown_value c.self.inside c.args.self.now c.args.i v c.self.invariant c.self.view_is c.requires
    (sym c.if-not-is_unmasked.ensures) (texts_value (term_of c.self.inside.dtype) c.self.inside.len c.args.i c.self.inside.held.content c.in-Texts.texts c.piece.result.now v c.in-Texts.is c.self.invariant.shape
    c.piece.ensures (inr e)))

pub row_value-returns-in_default-dtype : goal.row_value-returns-in_default-dtype
row_value-returns-in_default-dtype t c =
    record {
      value =
          ok_then c.bytes_value.result (λ (v : ValueTerm). v ≡ bytes_value c.piece-in_default-dtype.result.now) (λ (v : ValueTerm). row_of c.args.self.now.dtype v ≡ slice_get c.args.self.now.rows c.args.i)
          c.bytes_value.ensures.value (λ (v : ValueTerm) e.
          shown_value c.self.inside c.args.self.now c.args.i v c.self.invariant c.self.view_is c.requires
          (sym c.if-not-is_unmasked.ensures) (texts_value (term_of c.self.inside.dtype) c.self.inside.len c.args.i c.self.inside.held.content c.in-Texts.texts c.piece-in_default-dtype.result.now v c.in-Texts.is c.self.invariant.shape
          c.piece-in_default-dtype.ensures (inl e)));
      memory = c.bytes_value.ensures.memory;
    }

pub row_value-returns-in_ok-values-in-Lists-clause-value : goal.row_value-returns-in_ok-values-in-Lists-clause-value
row_value-returns-in_ok-values-in-Lists-clause-value t c =
    ok_then c.listed.result (λ (v : ValueTerm). v ≡ list_value (values_from c.in_ok-values-in-Lists.values.items)) (λ (v : ValueTerm). row_of c.args.self.now.dtype v ≡ slice_get c.args.self.now.rows c.args.i)
    c.listed.ensures.value (λ (v : ValueTerm) e.
    shown_value c.self.inside c.args.self.now c.args.i v c.self.invariant c.self.view_is c.requires
    (sym c.if-not-is_unmasked.ensures) (lists_value (term_of c.self.inside.dtype) c.self.inside.len c.args.i c.self.inside.held.content (c.in-Lists.offsets, c.deref.result.now) c.bounds-from.result.0 c.bounds-from.result.1
    c.in_ok-values-in-Lists.values.items v (ap lists_in c.in-Lists.is ∙ ap (λ (e : Column). Some (c.in-Lists.offsets, e)) (sym c.deref.ensures)) c.self.invariant.shape c.bounds-from.ensures.from c.bounds-from.ensures.to
    c.in_ok-values-in-Lists.ensures.values e))

pub row_value-returns-in_ok-values-in-FixedLists-clause-value : goal.row_value-returns-in_ok-values-in-FixedLists-clause-value
row_value-returns-in_ok-values-in-FixedLists-clause-value t c =
    ok_then c.listed-in-FixedLists.result (λ (v : ValueTerm). v ≡ list_value (values_from c.in_ok-values-in-FixedLists.values.items)) (λ (v : ValueTerm). row_of c.args.self.now.dtype v ≡ slice_get c.args.self.now.rows c.args.i)
    c.listed-in-FixedLists.ensures.value (λ (v : ValueTerm) e.
    shown_value c.self.inside c.args.self.now c.args.i v c.self.invariant c.self.view_is c.requires
    (sym c.if-not-is_unmasked.ensures) (fixed_value (term_of c.self.inside.dtype) c.self.inside.len c.args.i c.self.inside.held.content (c.in-FixedLists.size, c.deref-in-FixedLists.result.now)
    c.in_ok-values-in-FixedLists.values.items v (ap fixed_in c.in-FixedLists.is ∙ ap (λ (e : Column). Some (c.in-FixedLists.size, e)) (sym c.deref-in-FixedLists.ensures)) c.self.invariant.shape (place_below c.self.inside c.args.self.now c.args.i c.self.invariant c.self.view_is c.requires)
    c.in_ok-values-in-FixedLists.ensures.values e))

pub row_value-returns-in_ok-values-in-Structs-clause-value : goal.row_value-returns-in_ok-values-in-Structs-clause-value
row_value-returns-in_ok-values-in-Structs-clause-value t c =
    ok_then c.listed-in-Structs.result (λ (v : ValueTerm). v ≡ list_value (values_from c.in_ok-values-in-Structs.values.items)) (λ (v : ValueTerm). row_of c.args.self.now.dtype v ≡ slice_get c.args.self.now.rows c.args.i)
    c.listed-in-Structs.ensures.value (λ (v : ValueTerm) e.
    shown_value c.self.inside c.args.self.now c.args.i v c.self.invariant c.self.view_is c.requires
    (sym c.if-not-is_unmasked.ensures) (structs_value (term_of c.self.inside.dtype) c.self.inside.len c.args.i c.self.inside.held.content c.deref-in-Structs.result.now
    c.in_ok-values-in-Structs.values.items v (ap fields_in c.in-Structs.is ∙ ap Some (sym c.deref-in-Structs.ensures.value)) c.self.invariant.shape
    (content_below c.self.inside c.args.self.now c.args.i c.self.view_is c.requires)
    c.in_ok-values-in-Structs.ensures.values e))

pub row_value-returns-in-Constant-clause-value : goal.row_value-returns-in-Constant-clause-value
row_value-returns-in-Constant-clause-value t c =
    ok_then c.same_value.result (λ (v : ValueTerm). v ≡ c.in-Constant.value) (λ (v : ValueTerm). row_of c.args.self.now.dtype v ≡ slice_get c.args.self.now.rows c.args.i)
    c.same_value.ensures.value (λ (v : ValueTerm) e.
    shown_value c.self.inside c.args.self.now c.args.i v c.self.invariant c.self.view_is c.requires
    (sym c.if-not-is_unmasked.ensures) (constant_value (term_of c.self.inside.dtype) c.self.inside.len c.args.i c.self.inside.held.content c.in-Constant.value v c.in-Constant.is c.self.invariant.shape
    (place_below c.self.inside c.args.self.now c.args.i c.self.invariant c.self.view_is c.requires) e))
