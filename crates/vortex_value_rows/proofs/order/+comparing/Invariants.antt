use Rattle.std.proofs.Common.{◌≡◌, ◌+◌, ◌*◌}
use Rattle.vortex_terms.specs.Weight.{weight}
use Rattle.vortex_terms.specs.Order.{rows_cmp}
use Rattle.vortex_types.specs.TypeRefs.{ref_term}
use Rattle.vortex_scalar_value.specs.Value.{values_from}
use Rattle.vortex_value_rows.specs.Inside.{inside_term, in_weight}
use Rattle.vortex_value_rows.specs.HeldRow.{rows_under}
use Rattle.vortex_value_rows.proofs.Walks.{rows_from, HasRows}
use Rattle.vortex_value_rows.proofs.order.+comparing.Given as goal

abbrev pub decreases-compare : goal.decreases-compare
decreases-compare l = 2 * weight (ref_term l.of) + 1

abbrev pub decreases-compare_inside : goal.decreases-compare_inside
decreases-compare_inside l = 2 * in_weight (inside_term l.inside)

abbrev pub invariant-compare_inside-loop-i : goal.invariant-compare_inside-loop-i
invariant-compare_inside-loop-i l =
    let c = inside_term l.inside in
    rows_cmp (rows_from c l.a l.i) (rows_from c l.b l.i) ≡ rows_cmp (rows_under c (values_from l.a)) (rows_under c (values_from l.b))
    × HasRows c l.a l.i × HasRows c l.b l.i
