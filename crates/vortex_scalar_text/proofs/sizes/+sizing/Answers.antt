use Rattle.std.proofs.Common.{ap, ◌∙◌, arith}
use Rattle.vortex_types.specs.TypeRefs.{fields_term}
use Rattle.vortex_scalar_text.specs.Size.{in_usize}
use Rattle.vortex_scalar_text.proofs.Sized.{sizes_step, sizes_end, part_refused, sum_refused, sum_goes_on, in_usize_some}
use Rattle.vortex_scalar_text.proofs.sizes.+sizing.Goals as goal

pub size_of_fields-returns-in_err-size_of_field : goal.size_of_fields-returns-in_err-size_of_field
size_of_fields-returns-in_err-size_of_field t c =
    let one = sizes_step (fields_term c.args.fields) c.args.values.now c.loop-i.i c.value_at.result.now c.value_at.ensures in
    c.from_residual.ensures ∙ part_refused _ _ c.loop-i.total _ _ _ c.size_of_field.ensures c.in_err-size_of_field.was one c.loop-i.invariant.is

pub size_of_fields-returns-in_err-total : goal.size_of_fields-returns-in_err-total
size_of_fields-returns-in_err-total t c =
    let one = sizes_step (fields_term c.args.fields) c.args.values.now c.loop-i.i c.value_at.result.now c.value_at.ensures in
    c.from_residual-in_err-total.ensures ∙ sum_refused _ _ c.in_ok-size_of_field.field-0 c.loop-i.total _ _ _ c.size_of_field.ensures c.in_ok-size_of_field.was c.in_err-total.ensures one c.loop-i.invariant.is

pub size_of_fields-loop-i-preserved : goal.size_of_fields-loop-i-preserved
size_of_fields-loop-i-preserved t c =
    let one = sizes_step (fields_term c.args.fields) c.args.values.now c.loop-i.i c.value_at.result.now c.value_at.ensures in
    record {
      fits = omega (arith, c.in_ok-total.ensures.0, c.in_ok-total.ensures.1);
      is = rw c.in_ok-total.ensures.1 (sum_goes_on _ _ c.in_ok-size_of_field.field-0 c.loop-i.total _ _ _ c.size_of_field.ensures c.in_ok-size_of_field.was one c.loop-i.invariant.is);
    }

pub size_of_fields-returns : goal.size_of_fields-returns
size_of_fields-returns t c =
    let end = sizes_end (fields_term c.args.fields) c.args.values.now c.loop-i.i (omega (arith, c.loop-i-test.false)) in
    in_usize_some c.loop-i.total c.loop-i.invariant.fits ∙ ap in_usize (omega (arith, end, c.loop-i.invariant.is))
