use Rattle.std.proofs.Common.{◌≡◌, ◌*◌, ◌+◌, drop}
use Rattle.serde_json.specs.View.{items_view}
use Rattle.vortex_json.specs.Found.{each_found, owned_found, type_in}
use Rattle.vortex_json.proofs.Found.{after}
use Rattle.vortex_json.proofs.read.+reading.Given as goal

abbrev pub decreases-read_type : goal.decreases-read_type
decreases-read_type l = 6 * l.levels

abbrev pub decreases-read_owned : goal.decreases-read_owned
decreases-read_owned l = 6 * l.levels + 1

abbrev pub decreases-read_list : goal.decreases-read_list
decreases-read_list l = 6 * l.levels + 1

abbrev pub decreases-read_fixed : goal.decreases-read_fixed
decreases-read_fixed l = 6 * l.levels + 1

abbrev pub decreases-read_extension : goal.decreases-read_extension
decreases-read_extension l = 6 * l.levels + 1

abbrev pub decreases-read_types : goal.decreases-read_types
decreases-read_types l = 6 * l.levels + 2

abbrev pub decreases-read_struct : goal.decreases-read_struct
decreases-read_struct l = 6 * l.levels + 3

abbrev pub decreases-read_named : goal.decreases-read_named
decreases-read_named l = 6 * l.levels + 4

abbrev pub decreases-read_term : goal.decreases-read_term
decreases-read_term l = 6 * l.levels + 5

abbrev pub invariant-read_types-loop-item : goal.invariant-read_types-loop-item
invariant-read_types-loop-item l =
    let read = owned_found (type_in l.levels) in
    after l.dtypes.items (each_found read (items_view (drop l.item-index l.items))) ≡ each_found read (items_view l.items)
