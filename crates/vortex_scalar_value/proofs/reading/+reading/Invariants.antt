use Rattle.std.proofs.Common.{◌≡◌, ◌*◌, ◌+◌, length}
use Rattle.vortex_scalar_value.specs.Reading.{list_in, value_in}
use Rattle.vortex_scalar_value.proofs.Listed.{still}
use Rattle.vortex_scalar_value.proofs.reading.+reading.Given as goal

abbrev pub decreases-read_value : goal.decreases-read_value
decreases-read_value l = 4 * l.levels

abbrev pub decreases-read_list : goal.decreases-read_list
decreases-read_list l = 4 * l.levels + 1

abbrev pub decreases-read_inside : goal.decreases-read_inside
decreases-read_inside l = 4 * l.levels + 2

abbrev pub decreases-read_message : goal.decreases-read_message
decreases-read_message l = 4 * l.levels + 3

abbrev pub invariant-read_list-loop-field : goal.invariant-read_list-loop-field
invariant-read_list-loop-field l = still (value_in l.levels) l.values.items l.fields ≡ list_in (value_in l.levels) l.body

abbrev pub decreases-read_list-loop-field : goal.decreases-read_list-loop-field
decreases-read_list-loop-field l = length l.fields
