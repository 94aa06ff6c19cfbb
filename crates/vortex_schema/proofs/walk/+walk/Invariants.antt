use Rattle.std.proofs.Common.{◌≡◌, ◌+◌, ◌-◌, ◌*◌}
use Rattle.vortex_schema.specs.Reading.{fields_at, left_of, type_at}
use Rattle.vortex_schema.proofs.walk.+walk.Given as goal

abbrev pub decreases-walk : goal.decreases-walk
decreases-walk l = 6 * l.levels

abbrev pub decreases-walk_dtype : goal.decreases-walk_dtype
decreases-walk_dtype l = 6 * l.levels + 5

abbrev pub decreases-walk_body : goal.decreases-walk_body
decreases-walk_body l = 6 * l.levels + 4

abbrev pub decreases-walk_extension : goal.decreases-walk_extension
decreases-walk_extension l = 6 * l.levels + 3

abbrev pub decreases-walk_fields : goal.decreases-walk_fields
decreases-walk_fields l = 6 * l.levels + 2

abbrev pub decreases-walk_field : goal.decreases-walk_field
decreases-walk_field l = 6 * l.levels + 1

abbrev pub decreases-walk_fixed : goal.decreases-walk_fixed
decreases-walk_fixed l = 6 * l.levels + 3

abbrev pub decreases-walk_list : goal.decreases-walk_list
decreases-walk_list l = 6 * l.levels + 3

abbrev pub decreases-walk_struct : goal.decreases-walk_struct
decreases-walk_struct l = 6 * l.levels + 3

-- what is left of the budget leaves what the whole left
abbrev pub invariant-walk_fields-loop-i : goal.invariant-walk_fields-loop-i
invariant-walk_fields-loop-i l =
    left_of (fields_at l.names.buffer (type_at l.names.buffer l.levels) l.names.shape l.dtypes.shape (l.names.shape.count - l.i) l.i l.left)
    ≡ left_of (fields_at l.names.buffer (type_at l.names.buffer l.levels) l.names.shape l.dtypes.shape l.names.shape.count 0 l.initial.left)
