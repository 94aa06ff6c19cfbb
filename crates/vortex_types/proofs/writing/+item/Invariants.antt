use Rattle.std.proofs.Common.{◌*◌, ◌+◌, ◌-◌}
use Rattle.vortex_terms.specs.Weight.{weight, fields_weight}
use Rattle.vortex_schema.specs.TypeTree.{type_trees}
use Rattle.vortex_types.specs.TypeRefs.{fields_term, ref_term}
use Rattle.vortex_types.proofs.Written.{Lay}
use Rattle.vortex_types.proofs.writing.+item.Given as goal

abbrev pub decreases-type_item : goal.decreases-type_item
decreases-type_item l = 4 * weight (ref_term l.of)

abbrev pub decreases-body_slots : goal.decreases-body_slots
decreases-body_slots l = 4 * weight (ref_term l.of) - 1

abbrev pub decreases-struct_slots : goal.decreases-struct_slots
decreases-struct_slots l = 4 * fields_weight (fields_term l.fields) + 2

abbrev pub decreases-type_items : goal.decreases-type_items
decreases-type_items l = 4 * fields_weight (fields_term l.fields) + 1

abbrev pub invariant-type_items-loop-i : goal.invariant-type_items-loop-i
invariant-type_items-loop-i l = Lay type_trees (fields_term l.fields) l.i l.dtypes.items
