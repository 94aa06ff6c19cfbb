-- Arrays in which constants stand.
--     is_constant                    the encoding of constants
--     is_canonical, are_canonical    no constant stands in a node, or in such
use Rattle.std.specs.Prelude.{◌&&◌, not, Bool, true, false}
use Rattle.vortex_node_rows.specs.declared.encoding.Encoding.{Encoding}
use Rattle.vortex_node_rows.specs.declared.encoding.Encoding.TheVariants as encoding
use Rattle.vortex_array_data.specs.ArrayNode.{ArrayNode, array_node, ArrayNodes, no_array_nodes, array_child}

abbrev pub is_constant : Encoding → Bool
is_constant encoding.Constant = true
is_constant _ = false

-- neither the node nor one in it is a constant
abbrev mutual
  pub is_canonical : ArrayNode → Bool
  is_canonical (array_node e n cs) = not (is_constant e) && are_canonical cs

  pub are_canonical : ArrayNodes → Bool
  are_canonical no_array_nodes = true
  are_canonical (array_child n ns) = is_canonical n && are_canonical ns
