use Rattle.std.proofs.Common.{◌+◌, ◌*◌, take}
use Rattle.std.specs.Prelude.{slice_range}
use Rattle.vortex_array_data.specs.ArrayNode.{array_node_count}
use Rattle.vortex_array_data.specs.ValuesAt.{AreValuesAt, AreValuesOf}
use Rattle.vortex_array_data.proofs.HeldValues.{columns_count}
use Rattle.vortex_array_data.proofs.held.Array.+valued.Given as goal

abbrev pub decreases-row_value : goal.decreases-row_value
decreases-row_value l = 2 * array_node_count l.self.now.node

abbrev pub decreases-values_between : goal.decreases-values_between
decreases-values_between l = 2 * array_node_count l.self.now.node + 1

abbrev pub decreases-field_values : goal.decreases-field_values
decreases-field_values l = 2 * columns_count l.fields.now + 1

abbrev pub invariant-field_values-loop-field : goal.invariant-field_values-loop-field
invariant-field_values-loop-field l = AreValuesAt l.i (take l.field-index l.fields) l.values.items

abbrev pub invariant-values_between-loop-i : goal.invariant-values_between-loop-i
invariant-values_between-loop-i l = AreValuesOf l.self.dtype l.values.items (slice_range l.self.rows l.from l.i)
