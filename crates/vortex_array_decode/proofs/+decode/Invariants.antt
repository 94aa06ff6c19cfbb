use Rattle.std.proofs.Common.{◌+◌, ◌*◌}
use Rattle.vortex_body.specs.Node.{nodes_from, node_count, nodes_count}
use Rattle.vortex_names.specs.Nullable.{is_nullable}
use Rattle.vortex_node_rows.specs.Encodings.{encoding_in}
use Rattle.vortex_array_decode.proofs.FieldArrays.{AreSoFar}
use Rattle.vortex_array_decode.proofs.+decode.Given as goal

abbrev pub decreases-decode::decode : goal.decreases-decode::decode
decreases-decode::decode l = 6 * node_count l.parts.now + 5

abbrev pub decreases-decode::held : goal.decreases-decode::held
decreases-decode::held l = 6 * node_count l.parts.now + 4

abbrev pub decreases-decode::bools : goal.decreases-decode::bools
decreases-decode::bools l = 6 * node_count l.parts.now + 3

abbrev pub decreases-decode::numbers : goal.decreases-decode::numbers
decreases-decode::numbers l = 6 * node_count l.parts.now + 3

abbrev pub decreases-decode::decimals : goal.decreases-decode::decimals
decreases-decode::decimals l = 6 * node_count l.parts.now + 3

abbrev pub decreases-decode::binaries : goal.decreases-decode::binaries
decreases-decode::binaries l = 6 * node_count l.parts.now + 3

abbrev pub decreases-decode::texts : goal.decreases-decode::texts
decreases-decode::texts l = 6 * node_count l.parts.now + 3

abbrev pub decreases-decode_nested::lists : goal.decreases-decode_nested::lists
decreases-decode_nested::lists l = 6 * node_count l.parts.now + 3

abbrev pub decreases-decode_nested::fixed_lists : goal.decreases-decode_nested::fixed_lists
decreases-decode_nested::fixed_lists l = 6 * node_count l.parts.now + 3

abbrev pub decreases-decode_nested::structs : goal.decreases-decode_nested::structs
decreases-decode_nested::structs l = 6 * node_count l.parts.now + 3

abbrev pub decreases-decode_nested::extension : goal.decreases-decode_nested::extension
decreases-decode_nested::extension l = 6 * node_count l.parts.now + 3

abbrev pub decreases-decode_nested::elements : goal.decreases-decode_nested::elements
decreases-decode_nested::elements l = 6 * nodes_count (nodes_from l.nodes.now) + 8

abbrev pub decreases-decode_nested::only_array : goal.decreases-decode_nested::only_array
decreases-decode_nested::only_array l = 6 * nodes_count (nodes_from l.nodes.now) + 8

abbrev pub decreases-decode_nested::field_arrays : goal.decreases-decode_nested::field_arrays
decreases-decode_nested::field_arrays l = 6 * nodes_count (nodes_from l.nodes.now) + 8

abbrev pub decreases-decode::validity : goal.decreases-decode::validity
decreases-decode::validity l = 6 * nodes_count (nodes_from l.nodes.now) + 7

abbrev pub invariant-decode_nested::field_arrays-loop-i :
    goal.invariant-decode_nested::field_arrays-loop-i
invariant-decode_nested::field_arrays-loop-i l =
    AreSoFar (encoding_in l.context) (nodes_from l.nodes) (nodes_from l.rest) l.fields
    (is_nullable l.nullability) l.n l.i
    l.arrays.items
