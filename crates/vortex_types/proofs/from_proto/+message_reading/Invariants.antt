use Rattle.std.proofs.Common.{◌≡◌, ◌*◌, ◌+◌, drop}
use Rattle.vortex_wire.specs.Finds.{all_bytes_of}
use Rattle.vortex_proto.specs.Reading.{type_in, types_in}
use Rattle.vortex_types.proofs.ReadMessages.{after_types}
use Rattle.vortex_types.proofs.from_proto.+message_reading.Given as goal

abbrev pub decreases-read_message : goal.decreases-read_message
decreases-read_message l = 4 * l.levels

abbrev pub decreases-read_node : goal.decreases-read_node
decreases-read_node l = 4 * l.levels + 3

abbrev pub decreases-read_list : goal.decreases-read_list
decreases-read_list l = 4 * l.levels + 1

abbrev pub decreases-read_fixed : goal.decreases-read_fixed
decreases-read_fixed l = 4 * l.levels + 1

abbrev pub decreases-read_extension : goal.decreases-read_extension
decreases-read_extension l = 4 * l.levels + 1

abbrev pub decreases-read_struct : goal.decreases-read_struct
decreases-read_struct l = 4 * l.levels + 2

abbrev pub decreases-read_types : goal.decreases-read_types
decreases-read_types l = 4 * l.levels + 1

abbrev pub invariant-read_types-loop-i : goal.invariant-read_types-loop-i
invariant-read_types-loop-i l =
    after_types l.dtypes.items (types_in (type_in l.levels) (all_bytes_of (drop l.i l.parts))) ≡ types_in (type_in l.levels) (all_bytes_of l.parts)
