use Rattle.std.proofs.Common.{◌*◌, ◌+◌}
use Rattle.vortex_types.specs.TypeRefs.{fields_term}
use Rattle.vortex_json.proofs.Limits.{Goes}
use Rattle.vortex_json.proofs.room.+room.Given as goal

abbrev pub decreases-room_after : goal.decreases-room_after
decreases-room_after l = 2 * l.depth

abbrev pub decreases-room_after_fields : goal.decreases-room_after_fields
decreases-room_after_fields l = 2 * l.depth + 1

abbrev pub invariant-room_after_fields-loop-i : goal.invariant-room_after_fields-loop-i
invariant-room_after_fields-loop-i l = Goes l.depth (fields_term l.fields) l.i l.fn.room l.left
