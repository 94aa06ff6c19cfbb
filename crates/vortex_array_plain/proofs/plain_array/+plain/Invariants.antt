use Rattle.std.proofs.Common.{◌+◌, ◌*◌, map}
use Rattle.vortex_terms.specs.Weight.{weight, fields_weight}
use Rattle.vortex_types.specs.DTypes.{term_of}
use Rattle.vortex_array_plain.specs.PlainValues.{values_in}
use Rattle.vortex_array_plain.proofs.ValueLists.{ColumnsSoFar}
use Rattle.vortex_array_plain.proofs.plain_array.+plain.Given as goal

abbrev pub decreases-plain : goal.decreases-plain
decreases-plain l = 4 * weight (term_of l.dtype.now) + 2

abbrev pub decreases-plain_held : goal.decreases-plain_held
decreases-plain_held l = 4 * weight (term_of l.dtype.now) + 1

abbrev pub decreases-plain_content : goal.decreases-plain_content
decreases-plain_content l = 4 * weight (term_of l.dtype.now)

abbrev pub decreases-plain_lists : goal.decreases-plain_lists
decreases-plain_lists l = 4 * weight (term_of l.element.now) + 3

abbrev pub decreases-plain_fixed : goal.decreases-plain_fixed
decreases-plain_fixed l = 4 * weight (term_of l.element.now) + 3

abbrev pub decreases-plain_fields : goal.decreases-plain_fields
decreases-plain_fields l = 4 * fields_weight l.fields.now + 3

abbrev pub invariant-plain_fields-loop-i : goal.invariant-plain_fields-loop-i
invariant-plain_fields-loop-i l = ColumnsSoFar l.fields (map values_in l.values) l.i l.columns.items
