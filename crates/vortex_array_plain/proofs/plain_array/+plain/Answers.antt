use Rattle.std.proofs.Common.{rules, inr, refl, ◌≡◌, ◌∙◌, ◌*◌, true, false, List, length, map, sym, ap, subst, arith}
use Rattle.std.specs.List.{AllByRecursion, flat_map}
use Rattle.std.proofs.lemmas.List.{length-map}
use Rattle.vortex_terms.specs.Term.{Term}
use Rattle.vortex_terms.specs.Nullability.{with_nullability}
use Rattle.vortex_terms.specs.Weight.{weight, field-lighter}
use Rattle.vortex_names.specs.Nullable.{is_nullable}
use Rattle.vortex_types.specs.DTypes.{term_of}
use Rattle.vortex_types.specs.ExtTerm.{ExtTerm}
use Rattle.vortex_scalar_value.specs.Value.{ValueTerm}
use Rattle.vortex_array_plain.specs.PlainValues.{filled, part_in, takes_mask, values_in, AllFit, FitsValue, IsPlain, RefusesPlain}
use Rattle.vortex_array_data.proofs.PickedRows.{err_is}
use Rattle.vortex_array_plain.proofs.PlainContents.{nulls_content, truths_content, numbers_content, decimals_content, texts_content, bytes_content}
use Rattle.vortex_array_plain.proofs.PlainHeld.{bare_weight, held_by, plain_held_is, plain_made}
use Rattle.vortex_array_plain.proofs.ValueFits.{all_filled, bare_mask}
use Rattle.vortex_array_plain.proofs.ValueLists.{all_inside_fit, columns_all, columns_more, columns_none, fixed_content, fixed_lists_fit, lists_content, lists_fit, parts_fit, structs_content}
use Rattle.vortex_array_plain.proofs.ValueRefusals.{bytes_refused, default_fits, field_refused, fixed_long, fixed_refused, held_refused, inside_many, lists_refused, sizes_refused, structs_refused, texts_refused}
use Rattle.vortex_array_plain.proofs.plain_array.+plain.Goals as goal

pub plain-made-requires-clause-fit : goal.plain-made-requires-clause-fit
plain-made-requires-clause-fit t c =
    (plain_held_is (term_of c.args.dtype.now) (term_of c.in_ok-own.own) c.args.values.now c.in_ok-held.held c.in_ok-own.ensures
    c.requires.fit c.in_ok-held.ensures).fit

pub plain-returns : goal.plain-returns
plain-returns t c =
    plain_made (term_of c.args.dtype.now) (term_of c.in_ok-own.own) c.args.values.now c.in_ok-held.held c.made.result
    c.in_ok-own.ensures c.in_ok-held.ensures c.made.ensures.dtype c.made.ensures.rows c.made.ensures.node

pub plain_content-plain_lists-requires : goal.plain_content-plain_lists-requires
plain_content-plain_lists-requires t c = (
  omega (arith, rw c.in-List.is at c.decreases, ap weight c.as_dtype.ensures),
  subst (λ (u : Term). AllByRecursion (λ v. AllFit u (values_in v)) c.args.values.now) (sym c.as_dtype.ensures)
      (lists_fit c.in-List.element (is_nullable c.in-List.field-1) c.args.values.now (rw c.in-List.is at c.requires.bare)
      (rw c.in-List.is at c.requires.fit)),
)

pub plain_content-plain_fixed-requires : goal.plain_content-plain_fixed-requires
plain_content-plain_fixed-requires t c = (
  omega (arith, rw c.in-FixedSizeList.is at c.decreases, ap weight c.as_dtype-in-FixedSizeList.ensures),
  (
    subst (λ (u : Term). AllByRecursion (λ v. AllFit u (values_in v)) c.args.values.now) (sym c.as_dtype-in-FixedSizeList.ensures)
        (fixed_lists_fit c.in-FixedSizeList.element c.in-FixedSizeList.size (is_nullable c.in-FixedSizeList.field-2) c.args.values.now
        (rw c.in-FixedSizeList.is at c.requires.bare) (rw c.in-FixedSizeList.is at c.requires.fit)),
    fixed_long c.in-FixedSizeList.element c.in-FixedSizeList.size c.args.values.now (is_nullable c.in-FixedSizeList.field-2)
        (rw c.in-FixedSizeList.is at c.requires.bare) (rw c.in-FixedSizeList.is at c.requires.fit),
  ),
)

pub plain_content-returns-in-Null : goal.plain_content-returns-in-Null
plain_content-returns-in-Null t c = rw c.in-Null.is (nulls_content c.args.values.now)

pub plain_content-returns-in_ok-truth_values-in-Bool : goal.plain_content-returns-in_ok-truth_values-in-Bool
plain_content-returns-in_ok-truth_values-in-Bool t c =
    rw c.in-Bool.is (truths_content c.args.values.now c.in_ok-truth_values-in-Bool.field-0 (is_nullable c.in-Bool.field-0)
    (rw c.in-Bool.is at c.requires.bare) (rw c.in-Bool.is at c.requires.fit) c.in_ok-truth_values-in-Bool.ensures)

pub plain_content-returns-in_ok-numbers-in-Primitive : goal.plain_content-returns-in_ok-numbers-in-Primitive
plain_content-returns-in_ok-numbers-in-Primitive t c =
    rw c.in-Primitive.is (numbers_content c.in-Primitive.ptype c.args.values.now c.in_ok-numbers-in-Primitive.numbers
    (is_nullable c.in-Primitive.field-1) (rw c.in-Primitive.is at c.requires.bare) (rw c.in-Primitive.is at c.requires.fit)
    c.in_ok-numbers-in-Primitive.ensures)

pub plain_content-returns-in_ok-decimal_values-in-Decimal : goal.plain_content-returns-in_ok-decimal_values-in-Decimal
plain_content-returns-in_ok-decimal_values-in-Decimal t c =
    rw c.in-Decimal.is (decimals_content c.in-Decimal.field-0.precision c.in-Decimal.field-0.scale c.args.values.now
    c.in_ok-decimal_values-in-Decimal.field-0 (is_nullable c.in-Decimal.field-1) (rw c.in-Decimal.is at c.requires.bare)
    (rw c.in-Decimal.is at c.requires.fit) c.in_ok-decimal_values-in-Decimal.ensures)

pub plain_content-returns-in_ok-text_values-in-Utf8 : goal.plain_content-returns-in_ok-text_values-in-Utf8
plain_content-returns-in_ok-text_values-in-Utf8 t c =
    rw c.in-Utf8.is (texts_content c.args.values.now c.in_ok-text_values-in-Utf8.field-0 (is_nullable c.in-Utf8.field-0)
    (rw c.in-Utf8.is at c.requires.bare) (rw c.in-Utf8.is at c.requires.fit) c.in_ok-text_values-in-Utf8.ensures)

pub plain_content-returns-in_ok-text_values-in-Binary : goal.plain_content-returns-in_ok-text_values-in-Binary
plain_content-returns-in_ok-text_values-in-Binary t c =
    rw c.in-Binary.is (bytes_content c.args.values.now c.in_ok-text_values-in-Binary.field-0 (is_nullable c.in-Binary.field-0)
    (rw c.in-Binary.is at c.requires.bare) (rw c.in-Binary.is at c.requires.fit) c.in_ok-text_values-in-Binary.ensures)

pub plain_content-returns-in_ok-fields-in-Struct : goal.plain_content-returns-in_ok-fields-in-Struct
plain_content-returns-in_ok-fields-in-Struct t c =
    rw c.in-Struct.is (structs_content c.in-Struct.fields c.args.values.now c.in_ok-fields-in-Struct.fields
    (is_nullable c.in-Struct.field-1) (rw c.in-Struct.is at c.requires.bare) (rw c.in-Struct.is at c.requires.fit)
    c.in_ok-fields-in-Struct.ensures)

pub plain_content-returns-in_ok-new-in-List : goal.plain_content-returns-in_ok-new-in-List
plain_content-returns-in_ok-new-in-List t c =
    let elements : IsPlain c.in-List.element (flat_map values_in c.args.values.now) c.in_ok-new-in-List.field-0.value =
    subst (λ (u : Term). IsPlain u (flat_map values_in c.args.values.now) c.in_ok-new-in-List.field-0.value) c.as_dtype.ensures
    (search rules) in
    rw c.in-List.is (lists_content c.in-List.element c.args.values.now c.in_ok-offsets-in-List.offsets c.in_ok-new-in-List.field-0
    (is_nullable c.in-List.field-1) (rw c.in-List.is at c.requires.bare) (rw c.in-List.is at c.requires.fit)
    c.in_ok-offsets-in-List.ensures.0 elements)

pub plain_content-returns-in_ok-new-in-FixedSizeList : goal.plain_content-returns-in_ok-new-in-FixedSizeList
plain_content-returns-in_ok-new-in-FixedSizeList t c =
    let elements : IsPlain c.in-FixedSizeList.element (flat_map values_in c.args.values.now) c.in_ok-new-in-FixedSizeList.field-0.value =
    subst (λ (u : Term). IsPlain u (flat_map values_in c.args.values.now) c.in_ok-new-in-FixedSizeList.field-0.value)
    c.as_dtype-in-FixedSizeList.ensures (search rules) in
    rw c.in-FixedSizeList.is (fixed_content c.in-FixedSizeList.element c.in-FixedSizeList.size c.args.values.now
    c.in_ok-new-in-FixedSizeList.field-0 (is_nullable c.in-FixedSizeList.field-2) (rw c.in-FixedSizeList.is at c.requires.bare)
    (rw c.in-FixedSizeList.is at c.requires.fit) elements)

pub plain_fields-loop-i-init : goal.plain_fields-loop-i-init
plain_fields-loop-i-init t c =
    columns_none c.args.fields.now (map values_in c.args.values.now) c.in_ok-columns.columns.items c.in_ok-columns.ensures.items

pub plain_fields-loop-i-preserved : goal.plain_fields-loop-i-preserved
plain_fields-loop-i-preserved t c =
    let one : IsPlain (term_of c.in_ok-dtype.dtype) (map (part_in c.loop-i.i) c.args.values.now) c.in_ok-plain.field-0 = search rules in
    columns_more c.args.fields.now c.args.values.now c.loop-i.i (term_of c.in_ok-dtype.dtype) c.loop-i.columns.items c.push.new.self.items
    c.in_ok-plain.field-0 c.loop-i.invariant c.in_ok-dtype.ensures one c.in_ok-push.ensures.items

pub plain_fields-returns : goal.plain_fields-returns
plain_fields-returns t c =
    columns_all c.args.fields.now (map values_in c.args.values.now) c.loop-i.i c.loop-i.columns.items c.loop-i.invariant (search rules)

pub plain_fixed-plain-requires : goal.plain_fixed-plain-requires
plain_fixed-plain-requires t c = (
  omega (arith, c.decreases),
  (
    subst (AllFit (term_of c.args.element.now)) (sym (c.deref.ensures.value ∙ c.in_ok-inside.ensures))
        (all_inside_fit (term_of c.args.element.now) c.args.values.now c.requires.fit),
    omega (arith, c.if-len-gt-MOST_ROWS.false, ap (λ (l : List ValueTerm). length l) c.deref.ensures.value),
  ),
)

pub plain_lists-plain-requires : goal.plain_lists-plain-requires
plain_lists-plain-requires t c = (
  omega (arith, c.decreases),
  (
    subst (AllFit (term_of c.args.element.now)) (sym (c.deref.ensures.value ∙ c.in_ok-inside.ensures))
        (all_inside_fit (term_of c.args.element.now) c.args.values.now c.requires),
    omega (arith, c.if-len-gt-MOST_ROWS.false, ap (λ (l : List ValueTerm). length l) c.deref.ensures.value),
  ),
)

pub plain_content-plain-requires : goal.plain_content-plain-requires
plain_content-plain-requires t c = (
  omega (arith, rw c.in-Extension.is at c.decreases, ap weight c.storage_dtype.ensures, ap (λ (e : ExtTerm). weight e.storage) c.deref.ensures),
  (
    subst (λ (u : Term). AllFit u c.args.values.now) (sym (c.storage_dtype.ensures ∙ ap (λ (e : ExtTerm). e.storage) c.deref.ensures))
        (rw c.in-Extension.is at c.requires.fit),
    c.requires.few,
  ),
)

pub plain_held-plain_content-requires-2 : goal.plain_held-plain_content-requires-2
plain_held-plain_content-requires-2 t c =
    let s = term_of c.args.dtype.now in
    let takes : takes_mask s ≡ true = search rules in
    let same : c.deref.result.now ≡ map (filled c.in_ok-other.other) c.args.values.now = c.deref.ensures.value ∙ c.in_ok-filled.ensures in (
      omega (arith, c.decreases, ap weight c.in_ok-bare.ensures, bare_weight s takes),
      (
        subst (λ (u : Term). AllFit u c.deref.result.now) (sym c.in_ok-bare.ensures)
            (subst (AllFit (with_nullability s false)) (sym same)
            (all_filled s c.in_ok-other.other c.args.values.now takes c.requires.fit
            (λ n. subst (λ (u : Term). FitsValue u c.in_ok-other.other) c.in_ok-bare.ensures
            (default_fits (term_of c.in_ok-bare.bare) c.in_ok-other.other (c.in_ok-other.ensures n))))),
        (
          ap takes_mask c.in_ok-bare.ensures ∙ bare_mask s takes,
          omega (arith, ap (λ (l : List ValueTerm). length l) same, length-map c.args.values.now (filled c.in_ok-other.other), c.requires.few),
        ),
      ),
    )

pub plain_held-returns : goal.plain_held-returns
plain_held-returns t c =
    let s = term_of c.args.dtype.now in
    let takes : takes_mask s ≡ true = search rules in
    held_by s (term_of c.in_ok-bare.bare) c.in_ok-other.other c.args.values.now c.deref.result.now c.in_ok-valid_values.field-0
    c.in_ok-content-2.content takes c.in_ok-bare.ensures (c.deref.ensures.value ∙ c.in_ok-filled.ensures)
    c.in_ok-valid_values.ensures c.in_ok-content-2.ensures

pub plain_fields-plain-requires : goal.plain_fields-plain-requires
plain_fields-plain-requires t c =
    let same : c.deref.result.now ≡ map (part_in c.loop-i.i) c.args.values.now = c.deref.ensures.value ∙ c.in_ok-inside.ensures in (
      omega (arith, c.decreases, field-lighter c.args.fields.now c.loop-i.i (term_of c.in_ok-dtype.dtype) (sym c.in_ok-dtype.ensures)),
      (
        subst (AllFit (term_of c.in_ok-dtype.dtype)) (sym same)
            (parts_fit c.args.fields.now c.loop-i.i (term_of c.in_ok-dtype.dtype) c.args.values.now c.in_ok-dtype.ensures c.requires.fit),
        omega (arith, ap (λ (l : List ValueTerm). length l) same, length-map c.args.values.now (part_in c.loop-i.i), c.requires.few),
      ),
    )

pub plain_fields-returns-in_err-plain : goal.plain_fields-returns-in_err-plain
plain_fields-returns-in_err-plain t c =
    err_is c.from_residual-in_err-plain.result _ _ c.in_err-plain.field-0.0 c.from_residual-in_err-plain.ensures.1
    (field_refused c.args.fields.now c.loop-i.i (term_of c.in_ok-dtype.dtype) c.args.values.now c.deref.result.now
    c.in_err-plain.field-0.0 c.in_ok-dtype.ensures c.requires.fit (c.deref.ensures.value ∙ c.in_ok-inside.ensures)
    c.in_err-plain.ensures)

pub plain_content-returns-in_err-text_values-in-Utf8 : goal.plain_content-returns-in_err-text_values-in-Utf8
plain_content-returns-in_err-text_values-in-Utf8 t c =
    err_is c.from_residual-in_err-text_values-in-Utf8.result _ _ c.in_err-text_values-in-Utf8.field-0.0
    c.from_residual-in_err-text_values-in-Utf8.ensures.1
    (rw c.in-Utf8.is (texts_refused c.args.values.now (is_nullable c.in-Utf8.field-0) c.in_err-text_values-in-Utf8.field-0.0
    (rw c.in-Utf8.is at c.requires.bare) (rw c.in-Utf8.is at c.requires.fit) c.in_err-text_values-in-Utf8.ensures))

pub plain_content-returns-in_err-text_values-in-Binary : goal.plain_content-returns-in_err-text_values-in-Binary
plain_content-returns-in_err-text_values-in-Binary t c =
    err_is c.from_residual-in_err-text_values-in-Binary.result _ _ c.in_err-text_values-in-Binary.field-0.0
    c.from_residual-in_err-text_values-in-Binary.ensures.1
    (rw c.in-Binary.is (bytes_refused c.args.values.now (is_nullable c.in-Binary.field-0) c.in_err-text_values-in-Binary.field-0.0
    (rw c.in-Binary.is at c.requires.bare) (rw c.in-Binary.is at c.requires.fit) c.in_err-text_values-in-Binary.ensures))

pub plain_content-returns-in_err-fields-in-Struct : goal.plain_content-returns-in_err-fields-in-Struct
plain_content-returns-in_err-fields-in-Struct t c =
    err_is c.from_residual-in_err-fields-in-Struct.result _ _ c.in_err-fields-in-Struct.field-0.0
    c.from_residual-in_err-fields-in-Struct.ensures.1
    (rw c.in-Struct.is (structs_refused c.in-Struct.fields c.args.values.now (is_nullable c.in-Struct.field-1)
    c.in_err-fields-in-Struct.field-0.0 (rw c.in-Struct.is at c.requires.bare) (rw c.in-Struct.is at c.requires.fit)
    c.in_err-fields-in-Struct.ensures))

pub plain_content-returns-in_err-offsets-in-List : goal.plain_content-returns-in_err-offsets-in-List
plain_content-returns-in_err-offsets-in-List t c =
    err_is c.from_residual-in_err-offsets-in-List.result _ _ c.in_err-offsets-in-List.field-0.0
    c.from_residual-in_err-offsets-in-List.ensures.1
    (rw c.in-List.is (lists_refused c.in-List.element c.args.values.now (is_nullable c.in-List.field-1)
    c.in_err-offsets-in-List.field-0.0 (rw c.in-List.is at c.requires.bare) (rw c.in-List.is at c.requires.fit)
    (subst (λ (u : Term). RefusesPlain u (flat_map values_in c.args.values.now) c.in_err-offsets-in-List.field-0.0)
    c.as_dtype.ensures c.in_err-offsets-in-List.ensures)))

pub plain_content-returns-in_err-elements-in-FixedSizeList : goal.plain_content-returns-in_err-elements-in-FixedSizeList
plain_content-returns-in_err-elements-in-FixedSizeList t c =
    err_is c.from_residual-in_err-elements-in-FixedSizeList.result _ _ c.in_err-elements-in-FixedSizeList.field-0.0
    c.from_residual-in_err-elements-in-FixedSizeList.ensures.1
    (rw c.in-FixedSizeList.is (fixed_refused c.in-FixedSizeList.element c.in-FixedSizeList.size c.args.values.now
    (is_nullable c.in-FixedSizeList.field-2) c.in_err-elements-in-FixedSizeList.field-0.0
    (rw c.in-FixedSizeList.is at c.requires.bare) (rw c.in-FixedSizeList.is at c.requires.fit)
    (subst (λ (u : Term). RefusesPlain u (flat_map values_in c.args.values.now) c.in_err-elements-in-FixedSizeList.field-0.0)
    c.as_dtype-in-FixedSizeList.ensures c.in_err-elements-in-FixedSizeList.ensures)))

pub plain_content-returns-in_err-storage-in-Extension : goal.plain_content-returns-in_err-storage-in-Extension
plain_content-returns-in_err-storage-in-Extension t c =
    err_is c.from_residual-in_err-storage-in-Extension.result _ _ c.in_err-storage-in-Extension.field-0.0
    c.from_residual-in_err-storage-in-Extension.ensures.1
    (rw c.in-Extension.is (subst (λ (u : Term). RefusesPlain u c.args.values.now c.in_err-storage-in-Extension.field-0.0)
    (c.storage_dtype.ensures ∙ ap (λ (e : ExtTerm). e.storage) c.deref.ensures) c.in_err-storage-in-Extension.ensures))

pub plain_lists-returns-in_err-offsets : goal.plain_lists-returns-in_err-offsets
plain_lists-returns-in_err-offsets t c =
    err_is c.from_residual.result _ _ c.in_err-offsets.field-0.0 c.from_residual.ensures.1
    (sizes_refused (term_of c.args.element.now) c.args.values.now c.in_err-offsets.field-0.0 c.in_err-offsets.ensures)

pub plain_lists-returns-then-len-gt-MOST_ROWS : goal.plain_lists-returns-then-len-gt-MOST_ROWS
plain_lists-returns-then-len-gt-MOST_ROWS t c =
    inr (
      refl,
      inside_many (term_of c.args.element.now) (flat_map values_in c.args.values.now)
          (omega (arith, c.if-len-gt-MOST_ROWS.true, ap (λ (l : List ValueTerm). length l) c.in_ok-inside.ensures)),
    )

pub plain_lists-returns-in_err-elements : goal.plain_lists-returns-in_err-elements
plain_lists-returns-in_err-elements t c =
    err_is c.from_residual-in_err-elements.result _ _ c.in_err-elements.field-0.0 c.from_residual-in_err-elements.ensures.1
    (subst (λ (l : List ValueTerm). RefusesPlain (term_of c.args.element.now) l c.in_err-elements.field-0.0)
    (c.deref.ensures.value ∙ c.in_ok-inside.ensures) c.in_err-elements.ensures)

pub plain_fixed-returns-then-len-gt-MOST_ROWS : goal.plain_fixed-returns-then-len-gt-MOST_ROWS
plain_fixed-returns-then-len-gt-MOST_ROWS t c =
    inr (
      refl,
      inside_many (term_of c.args.element.now) (flat_map values_in c.args.values.now)
          (omega (arith, c.if-len-gt-MOST_ROWS.true, ap (λ (l : List ValueTerm). length l) c.in_ok-inside.ensures)),
    )

pub plain_fixed-returns-in_err-elements : goal.plain_fixed-returns-in_err-elements
plain_fixed-returns-in_err-elements t c =
    err_is c.from_residual-in_err-elements.result _ _ c.in_err-elements.field-0.0 c.from_residual-in_err-elements.ensures.1
    (subst (λ (l : List ValueTerm). RefusesPlain (term_of c.args.element.now) l c.in_err-elements.field-0.0)
    (c.deref.ensures.value ∙ c.in_ok-inside.ensures) c.in_err-elements.ensures)

pub plain_held-returns-in_err-content-2 : goal.plain_held-returns-in_err-content-2
plain_held-returns-in_err-content-2 t c =
    let s = term_of c.args.dtype.now in
    let takes : takes_mask s ≡ true = search rules in
    err_is c.from_residual-in_err-content-2.result _ _ c.in_err-content-2.field-0.0 c.from_residual-in_err-content-2.ensures.1
    (held_refused s (term_of c.in_ok-bare.bare) c.in_ok-other.other c.args.values.now c.deref.result.now
    c.in_err-content-2.field-0.0 takes c.in_ok-bare.ensures (c.deref.ensures.value ∙ c.in_ok-filled.ensures)
    c.in_ok-other.ensures c.in_err-content-2.ensures)

pub plain_fixed-returns-then-saturating_mul-gt-MOST_ROWS : goal.plain_fixed-returns-then-saturating_mul-gt-MOST_ROWS
plain_fixed-returns-then-saturating_mul-gt-MOST_ROWS t c =
    let long : length (flat_map values_in c.args.values.now) ≡ length c.args.values.now * c.args.size = c.requires.long in
    inr (
      refl,
      inside_many (term_of c.args.element.now) (flat_map values_in c.args.values.now)
          (omega (arith, c.if-saturating_mul-gt-MOST_ROWS.true, c.saturating_mul.ensures, long)),
    )
