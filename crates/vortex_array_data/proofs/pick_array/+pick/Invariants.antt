use Rattle.std.proofs.Common.{◌≡◌, ◌≤◌, ◌+◌, ◌*◌, ◌++◌, ℕ, List, length}
use Rattle.std.specs.List.{AllByRecursion}
use Rattle.vortex_array_data.specs.ArrayNode.{array_node_count, array_nodes_count, array_nodes_before, no_array_nodes}
use Rattle.vortex_array_data.specs.Column.{Column}
use Rattle.vortex_array_data.specs.Content.{column_nodes, content_node}
use Rattle.vortex_array_data.specs.inner.Picked.{ArePickedColumns}
use Rattle.vortex_array_data.specs.inner.PickedPlaces.{places_in, AnyMuch}
use Rattle.vortex_array_data.proofs.pick_array.+pick.Given as goal

abbrev pub decreases-pick : goal.decreases-pick
decreases-pick l = 4 * array_node_count l.array.now.node + 1

abbrev pub decreases-picked_content : goal.decreases-picked_content
decreases-picked_content l = 4 * array_node_count (content_node l.content.now 0 no_array_nodes)

abbrev pub decreases-picked_lists : goal.decreases-picked_lists
decreases-picked_lists l = 4 * array_node_count l.elements.now.value.node + 3

abbrev pub decreases-picked_elements : goal.decreases-picked_elements
decreases-picked_elements l = 4 * array_node_count l.elements.now.node + 2

abbrev pub decreases-picked_fields : goal.decreases-picked_fields
decreases-picked_fields l = 4 * array_nodes_count (array_nodes_before (column_nodes l.fields.now) no_array_nodes) + 2

-- what was picked, and what is picked of the rest, are what is picked of all
abbrev pub invariant-picked_fields-loop-rest : goal.invariant-picked_fields-loop-rest
invariant-picked_fields-loop-rest l = record {
  same : (ds : List Column) → ArePickedColumns (places_in l.picks) l.rest ds
      → ArePickedColumns (places_in l.picks) l.fields (l.out.items ++ ds);
  long : AllByRecursion (λ (a : Column). length a.rows ≡ l.n) l.rest;
  fewer : array_nodes_count (array_nodes_before (column_nodes l.rest) no_array_nodes)
      ≤ array_nodes_count (array_nodes_before (column_nodes l.fields) no_array_nodes);
  much : (ps : List ℕ) → AnyMuch l.rest ps → AnyMuch l.fields ps;
}

abbrev pub decreases-picked_fields-loop-rest : goal.decreases-picked_fields-loop-rest
decreases-picked_fields-loop-rest l = length l.rest
