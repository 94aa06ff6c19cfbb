use Rattle.std.proofs.Common.{◌∙◌, ap, arith, length, List, subst, sym}
use Rattle.vortex_types.specs.DTypes.{term_of}
use Rattle.vortex_scalar_value.specs.Value.{ValueTerm}
use Rattle.vortex_array_data.specs.Content.{is_maskable}
use Rattle.vortex_array_plain.specs.PlainValues.{AllFit, IsPlain}
use Rattle.vortex_array_canonical.specs.inner.SameRows.{choices_of}
use Rattle.vortex_array_data.proofs.PickLaws.{Below}
use Rattle.vortex_array_data.proofs.PickedRows.{err_is}
use Rattle.vortex_array_plain.proofs.PlainContents.{null_row_under}
use Rattle.vortex_array_canonical.proofs.RepeatedRows.{each_result, nulls_repeated, places_below, repeated_made, repeated_refused, values_few, values_fit}
use Rattle.vortex_array_canonical.proofs.canonical_values.repeated.Goals as goal

pub returns-in-Null : goal.returns-in-Null
returns-in-Null c =
    nulls_repeated (term_of c.args.dtype.now) c.args.value.now c.args.validity.now c.args.n c.nulls.result (ap term_of c.in-Null.is)
    null_row_under c.requires.mask c.nulls.ensures.0 c.nulls.ensures.1.0 c.nulls.ensures.1.1

pub pick-requires : goal.pick-requires
pick-requires c =
    let t = term_of c.args.dtype.now in
    let rows : IsPlain t (choices_of c.args.value.now c.args.validity.now) c.in-Ok.rows =
    subst (λ (vs : List ValueTerm). IsPlain t vs c.in-Ok.rows) (c.deref.ensures.value ∙ c.in_ok-values.ensures) c.in-Ok.ensures in
    subst (Below (length c.in-Ok.rows.rows)) (sym (c.deref-in-Ok.ensures.value ∙ c.in_ok-places-in-Ok.ensures))
    (places_below t c.args.value.now c.args.validity.now c.args.n c.in-Ok.rows.rows rows.rows)

pub returns-in_err-array-in-Ok : goal.returns-in_err-array-in-Ok
returns-in_err-array-in-Ok c =
    let t = term_of c.args.dtype.now in
    let rows : IsPlain t (choices_of c.args.value.now c.args.validity.now) c.in-Ok.rows =
    subst (λ (vs : List ValueTerm). IsPlain t vs c.in-Ok.rows) (c.deref.ensures.value ∙ c.in_ok-values.ensures) c.in-Ok.ensures in
    err_is c.from_residual-in_err-array-in-Ok.result _ _ c.in_err-array-in-Ok.field-0.0 c.from_residual-in_err-array-in-Ok.ensures.1
    (repeated_refused t c.args.value.now c.args.n c.args.validity.now c.in-Ok.rows c.deref-in-Ok.result
    c.in_err-array-in-Ok.field-0.0 c.requires.mask rows (c.deref-in-Ok.ensures.value ∙ c.in_ok-places-in-Ok.ensures)
    c.in_err-array-in-Ok.ensures)

pub returns-in-Ok : goal.returns-in-Ok
returns-in-Ok c =
    let t = term_of c.args.dtype.now in
    let rows : IsPlain t (choices_of c.args.value.now c.args.validity.now) c.in-Ok.rows =
    subst (λ (vs : List ValueTerm). IsPlain t vs c.in-Ok.rows) (c.deref.ensures.value ∙ c.in_ok-values.ensures) c.in-Ok.ensures in
    repeated_made t c.args.value.now c.args.validity.now c.args.n c.in-Ok.rows c.in_ok-array-in-Ok.array c.deref-in-Ok.result.now
    c.requires.mask rows (c.deref-in-Ok.ensures.value ∙ c.in_ok-places-in-Ok.ensures) c.in_ok-array-in-Ok.ensures

pub plain-requires-in-Err-TooLarge : goal.plain-requires-in-Err-TooLarge
plain-requires-in-Err-TooLarge c =
    let t = term_of c.args.dtype.now in
    let same = c.deref-in-Err-TooLarge.ensures.value ∙ c.in_ok-values-in-Err-TooLarge.ensures in
    record {
      fit = subst (AllFit t) (sym same) (values_fit t c.args.value.now c.args.validity.now c.args.n c.requires.fit c.requires.mask);
      few = omega (arith, ap (λ (l : List ValueTerm). length l) same, values_few c.args.value.now (is_maskable t) c.args.validity.now c.args.n c.requires.mask c.requires.few);
    }

pub returns-in-Err-TooLarge : goal.returns-in-Err-TooLarge
returns-in-Err-TooLarge c =
    each_result (term_of c.args.dtype.now) c.args.value.now c.args.validity.now c.args.n c.deref-in-Err-TooLarge.result.now
    c.plain-in-Err-TooLarge.result c.requires.mask (c.deref-in-Err-TooLarge.ensures.value ∙ c.in_ok-values-in-Err-TooLarge.ensures)
    c.plain-in-Err-TooLarge.ensures
