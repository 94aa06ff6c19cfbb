use Rattle.std.proofs.Common.{◌≡◌, ◌+◌, ◌*◌}
use Rattle.vortex_terms.specs.Weight.{weight}
use Rattle.vortex_types.specs.TypeRefs.{ref_term}
use Rattle.vortex_scalar_value.specs.Value.{values_from}
use Rattle.vortex_value_rows.specs.Inside.{inside_term, in_weight}
use Rattle.vortex_value_rows.proofs.Insides.{all_fit, fit_from}
use Rattle.vortex_value_rows.proofs.fit.+fitting.Given as goal

abbrev pub decreases-fits : goal.decreases-fits
decreases-fits l = 2 * weight (ref_term l.of) + 1

abbrev pub decreases-fits_inside : goal.decreases-fits_inside
decreases-fits_inside l = 2 * in_weight (inside_term l.inside)

abbrev pub invariant-fits_inside-loop-i : goal.invariant-fits_inside-loop-i
invariant-fits_inside-loop-i l =
    let c = inside_term l.inside in
    fit_from c l.values l.i ≡ all_fit c (values_from l.values)
