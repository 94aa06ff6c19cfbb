use Rattle.std.proofs.Common.{◌≡◌, ◌+◌, ◌*◌, ◌^◌, ◌<◌, take, drop}
use Rattle.std.specs.Prelude.{sum_by}
use Rattle.vortex_terms.specs.Weight.{weight, fields_weight}
use Rattle.vortex_types.specs.TypeRefs.{fields_term, ref_term}
use Rattle.vortex_scalar_text.specs.inner.Sizes.{value_size, field_value_sizes}
use Rattle.vortex_scalar_text.proofs.Sized.{fields_drop}
use Rattle.vortex_scalar_text.proofs.sizes.+sizing.Given as goal

abbrev pub decreases-size : goal.decreases-size
decreases-size l = 3 * weight (ref_term l.of)

abbrev pub decreases-size_of_elements : goal.decreases-size_of_elements
decreases-size_of_elements l = 3 * weight (ref_term l.element) + 1

abbrev pub decreases-size_of_fields : goal.decreases-size_of_fields
decreases-size_of_fields l = 3 * fields_weight (fields_term l.fields) + 1

abbrev pub decreases-size_of_field : goal.decreases-size_of_field
decreases-size_of_field l = 3 * fields_weight (fields_term l.fields)

abbrev pub invariant-size_of_elements-loop-value : goal.invariant-size_of_elements-loop-value
invariant-size_of_elements-loop-value l =
    record { fits : l.total < 2 ^ 64; is : l.total ≡ sum_by (value_size (ref_term l.element)) (take l.value-index l.values) }

abbrev pub invariant-size_of_fields-loop-i : goal.invariant-size_of_fields-loop-i
invariant-size_of_fields-loop-i l =
    let fs = fields_term l.fields in
    record {
      fits : l.total < 2 ^ 64;
      is : l.total + field_value_sizes (fields_drop l.i fs) (drop l.i l.values) ≡ field_value_sizes fs l.values;
    }
