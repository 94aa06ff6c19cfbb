use Rattle.std.proofs.Common.{◌*◌, ◌+◌, ◌-◌}
use Rattle.vortex_terms.specs.Weight.{weight, fields_weight}
use Rattle.vortex_proto.specs.TypeBytes.{field_types}
use Rattle.vortex_types.specs.TypeRefs.{fields_term, ref_term}
use Rattle.vortex_types.proofs.Messages.{Behind}
use Rattle.vortex_types.proofs.to_proto.+message.Given as goal

abbrev pub decreases-with_type : goal.decreases-with_type
decreases-with_type l = 4 * weight (ref_term l.of)

abbrev pub decreases-with_part : goal.decreases-with_part
decreases-with_part l = 4 * weight (ref_term l.of) + 1

abbrev pub decreases-with_body : goal.decreases-with_body
decreases-with_body l = 4 * weight (ref_term l.of) - 1

abbrev pub decreases-with_field_types : goal.decreases-with_field_types
decreases-with_field_types l = 4 * fields_weight (fields_term l.fields) + 2

abbrev pub invariant-with_field_types-loop-left : goal.invariant-with_field_types-loop-left
invariant-with_field_types-loop-left l = Behind field_types (fields_term l.fields) l.left l.fn.after l.dtypes

abbrev pub decreases-with_field_types-loop-left : goal.decreases-with_field_types-loop-left
decreases-with_field_types-loop-left l = l.left
