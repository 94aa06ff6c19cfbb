use Rattle.std.proofs.Common.{◌≡◌, ◌+◌, ◌*◌}
use Rattle.vortex_terms.specs.Weight.{weight, fields_weight}
use Rattle.vortex_types.specs.Equal.{fields_equal_by}
use Rattle.vortex_types.specs.TypeRefs.{fields_term, ref_term}
use Rattle.vortex_types.proofs.Fields.{fields_drop}
use Rattle.vortex_types.proofs.equality.+equality.Given as goal

abbrev pub decreases-equal : goal.decreases-equal
decreases-equal l = 3 * weight (ref_term l.a)

abbrev pub decreases-equal_fields : goal.decreases-equal_fields
decreases-equal_fields l = 3 * fields_weight (fields_term l.a) + 2

abbrev pub decreases-equal_field : goal.decreases-equal_field
decreases-equal_field l = 3 * fields_weight (fields_term l.a) + 1

abbrev pub decreases-equal_part : goal.decreases-equal_part
decreases-equal_part l = 3 * fields_weight (fields_term l.a)

abbrev pub invariant-equal_fields-loop-i : goal.invariant-equal_fields-loop-i
invariant-equal_fields-loop-i l =
    let fs = fields_term l.a in
    let gs = fields_term l.b in
    fields_equal_by l.exact (fields_drop l.i fs) (fields_drop l.i gs) ≡ fields_equal_by l.exact fs gs
