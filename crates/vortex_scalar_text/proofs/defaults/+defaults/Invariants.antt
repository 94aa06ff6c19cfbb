use Rattle.std.proofs.Common.{◌≡◌, ◌+◌, ◌*◌, take}
use Rattle.vortex_terms.specs.Weight.{weight, fields_weight}
use Rattle.vortex_types.specs.TypeRefs.{fields_term, ref_term}
use Rattle.vortex_scalar_text.specs.inner.Defaults.{default_values}
use Rattle.vortex_scalar_text.proofs.defaults.+defaults.Given as goal

abbrev pub decreases-default_of : goal.decreases-default_of
decreases-default_of l = 2 * weight (ref_term l.of)

abbrev pub decreases-default_of_fields : goal.decreases-default_of_fields
decreases-default_of_fields l = 2 * fields_weight (fields_term l.fields) + 1

abbrev pub decreases-default_of_field : goal.decreases-default_of_field
decreases-default_of_field l = 2 * fields_weight (fields_term l.fields)

abbrev pub invariant-default_of_fields-loop-i : goal.invariant-default_of_fields-loop-i
invariant-default_of_fields-loop-i l = l.values.items ≡ take l.i (default_values (fields_term l.fields))
