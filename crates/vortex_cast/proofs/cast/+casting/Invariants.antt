use Rattle.std.proofs.Common.{◌+◌, ◌*◌}
use Rattle.vortex_terms.specs.Weight.{weight}
use Rattle.vortex_types.specs.TypeRefs.{ref_term, fields_term}
use Rattle.vortex_value_rows.specs.Inside.{inside_term, every, each, in_weight}
use Rattle.vortex_cast.proofs.Inner.{Goes}
use Rattle.vortex_cast.proofs.cast.+casting.Given as goal

abbrev pub decreases-cast_value : goal.decreases-cast_value
decreases-cast_value l = 5 * weight (ref_term l.from) + 4

abbrev pub decreases-cast_stored : goal.decreases-cast_stored
decreases-cast_stored l = 5 * weight (ref_term l.from) + 3

abbrev pub decreases-cast_struct : goal.decreases-cast_struct
decreases-cast_struct l = 5 * in_weight (each (fields_term l.fields)) + 1

abbrev pub decreases-cast_list : goal.decreases-cast_list
decreases-cast_list l = 5 * in_weight (every (ref_term l.element)) + 1

abbrev pub decreases-cast_inside : goal.decreases-cast_inside
decreases-cast_inside l = 5 * in_weight (inside_term l.from)

abbrev pub invariant-cast_inside-loop-i : goal.invariant-cast_inside-loop-i
invariant-cast_inside-loop-i l = Goes (inside_term l.from) (inside_term l.to) l.values l.i l.cast.items
