use Rattle.std.proofs.Common.{◌≡◌, length, true, ap, sym, ◌∙◌, arith}
use Rattle.vortex_names.specs.Nullable.{is_nullable}
use Rattle.vortex_types.specs.TypeRefs.{ref_term, fields_term}
use Rattle.vortex_scalar_value.specs.Value.{values_from}
use Rattle.vortex_value_rows.specs.Inside.{inside_term, in_takes}
use Rattle.vortex_value_rows.proofs.Insides.{struct_fits, sized_fits, other_size_fits, not_taken, none_fit, part_lighter, fails_at, passes_at, fit_step, fit_end, no_part}
use Rattle.vortex_value_rows.proofs.fit.+fitting.Goals as goal

pub fits-returns-in-List-value_ref : goal.fits-returns-in-List-value_ref
fits-returns-in-List-value_ref t c =
    struct_fits _ _ (fields_term c.in-Struct.fields) (is_nullable c.in-Struct.n) (values_from c.in-List-value_ref.values.now) _ c.in-Struct.ensures c.in-List-value_ref.ensures c.fits_inside.ensures

pub fits-returns-then-values-size : goal.fits-returns-then-values-size
fits-returns-then-values-size t c =
    sized_fits _ (ref_term c.in-FixedSizeList.element) _ _ (is_nullable c.in-FixedSizeList.n) c.in-List-value_ref-3.values.now _ c.in-FixedSizeList.ensures c.in-List-value_ref-3.ensures c.if-values-size.true c.fits_inside-then-values-size.ensures

pub fits-returns-else-values-size : goal.fits-returns-else-values-size
fits-returns-else-values-size t c =
    other_size_fits _ (ref_term c.in-FixedSizeList.element) _ _ (is_nullable c.in-FixedSizeList.n) c.in-List-value_ref-3.values.now c.in-FixedSizeList.ensures c.in-List-value_ref-3.ensures c.if-values-size.false

pub fits_inside-returns-then-not-takes : goal.fits_inside-returns-then-not-takes
fits_inside-returns-then-not-takes t c =
    none_fit (inside_term c.args.inside) (values_from c.args.values.now) (not_taken (inside_term c.args.inside) c.args.values.now (sym c.if-not-takes.ensures))

pub fits_inside-fits-requires : goal.fits_inside-fits-requires
fits_inside-fits-requires t c =
    (omega (arith, part_lighter (inside_term c.args.inside) c.loop-i.i (ref_term c.in-Some.of) (sym c.in-Some.ensures)), tt)

pub fits_inside-returns-then-not-fits : goal.fits_inside-returns-then-not-fits
fits_inside-returns-then-not-fits t c =
    fails_at _ _ _ _ (sym c.if-not-fits.ensures)
    (fit_step (inside_term c.args.inside) c.args.values.now c.loop-i.i (ref_term c.in-Some.of) c.value_at.result.now (sym c.in-Some.ensures) c.value_at.ensures)
    c.loop-i.invariant

pub fits_inside-returns-in-None : goal.fits_inside-returns-in-None
fits_inside-returns-in-None t c =
    absurd (no_part (inside_term c.args.inside) (length c.args.values.now) c.loop-i.i (sym c.if-not-takes.ensures) c.loop-i-test.true c.in-None.ensures)

pub fits_inside-loop-i-preserved : goal.fits_inside-loop-i-preserved
fits_inside-loop-i-preserved t c =
    passes_at _ _ _ _ (sym c.if-not-fits.ensures)
    (fit_step (inside_term c.args.inside) c.args.values.now c.loop-i.i (ref_term c.in-Some.of) c.value_at.result.now (sym c.in-Some.ensures) c.value_at.ensures)
    c.loop-i.invariant

pub fits_inside-returns : goal.fits_inside-returns
fits_inside-returns t c =
    let end : length c.args.values.now ≡ c.loop-i.i = omega (arith, c.loop-i-test.false, c.loop-i.auto.i-end) in
    let taken : in_takes (inside_term c.args.inside) c.loop-i.i ≡ true = ap (in_takes (inside_term c.args.inside)) (sym end) ∙ sym c.if-not-takes.ensures in
    sym (fit_end (inside_term c.args.inside) c.args.values.now c.loop-i.i taken (omega (arith, end))) ∙ c.loop-i.invariant
