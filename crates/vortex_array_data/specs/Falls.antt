-- An array is larger than each array in it.
use Rattle.std.specs.Prelude.{◌≤◌, ◌+◌, ℕ, max, List, [], ◌∷◌}
use Rattle.std.proofs.Common.{arith}
use denote.Param.Weighed.{most}
use Rattle.vortex_array_data.specs.ArrayNode.{array_node_count, ArrayNodes, array_nodes_count, array_nodes_before}
use Rattle.vortex_array_data.specs.Column.{Column}
use Rattle.vortex_array_data.specs.Content.{column_of, column_nodes, content_node, mask_nodes}
use Rattle.vortex_array_data.specs.declared.held.Content.{Content}
use Rattle.vortex_array_data.specs.declared.held.Content.TheVariants.{Nulls, Truths, Numbers, Decimals, Texts, Lists, FixedLists, Structs, Storage, Constant}
use Rattle.vortex_array_data.specs.declared.held.Array.TheInside.{Inside}
use Rattle.vortex_array_data.specs.declared.held.Array.TheDeep.{deep-Content}

-- nodes have no fewer nodes in them than each of them
pub most_le-array_nodes : (cs : List Column) (v : ArrayNodes) →
    most (λ c. array_node_count c.node + 1) cs ≤ array_nodes_count (array_nodes_before (column_nodes cs) v) + 1
most_le-array_nodes [] v = omega arith
most_le-array_nodes (c ∷ cs) v = omega (arith, most_le-array_nodes cs v)

deep_le : (n : ℕ) (v : ArrayNodes) (c : Content) → deep-Content c ≤ array_node_count (content_node c n v)
deep_le n v Nulls = omega arith
deep_le n v (Truths m) = omega arith
deep_le n v (Numbers a) = omega arith
deep_le n v (Decimals a) = omega arith
deep_le n v (Texts a) = omega arith
deep_le n v (Lists os es) = omega arith
deep_le n v (FixedLists k es) = omega arith
deep_le n v (Structs fields) = omega (arith, most_le-array_nodes fields.items v)
deep_le n v (Storage a) = omega arith
deep_le n v (Constant c) = omega arith

pub falls : (a : Inside) → max (max (deep-Content a.held.content) 0) 0 ≤ array_node_count (column_of a).node
falls a = omega (arith, deep_le a.len (mask_nodes a.len a.held.validity) a.held.content)
