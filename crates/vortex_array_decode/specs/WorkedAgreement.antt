-- Worked nodes of arrays, and whether they agree with worked nodes of bodies.
--     WorkedAgrees                  a node of an array of n rows agrees, where places are those among all encodings
--     pairs, pair_type              two nullable structs of a number of one byte and a truth value, with a mask
--     structs_of, lists_of, fixed_of, numbers_of, truths_of, constants_of      nodes of arrays of n rows
use Rattle.std.specs.Prelude.{ℕ, List, [], ◌∷◌, Some, slice_get, true, false}
use Rattle.vortex_terms.specs.Term.{Term, boolean, structure, field, no_fields}
use Rattle.vortex_body.specs.Node.{Node, node, no_nodes, child}
use Rattle.vortex_node_rows.specs.declared.encoding.Encoding.{Encoding}
use Rattle.vortex_node_rows.specs.declared.encoding.Encoding.TheVariants as encoding
use Rattle.vortex_node_rows.specs.Encodings.{all_encodings}
use Rattle.vortex_node_rows.specs.Worked.{bools, byte, mask, numbers}
use Rattle.vortex_array_data.specs.ArrayNode.{ArrayNode, array_node, no_array_nodes, array_nodes_before}
use Rattle.vortex_array_decode.specs.Agreement.{Agrees}

abbrev pub WorkedAgrees : Term → ℕ → Node → ArrayNode → Type 0
WorkedAgrees t n x a = Agrees (slice_get all_encodings) t (Some n) x a

abbrev pub pair_type : Term
pair_type = structure (field (97 ∷ []) (byte false) (field (98 ∷ []) (boolean false) no_fields)) true

-- the second one is null
abbrev pub pairs : Node
pairs =
    node 7 [] (child (numbers (7 ∷ 8 ∷ []) no_nodes) (child (bools (2 ∷ []) no_nodes) (mask (1 ∷ [])))) []

abbrev nested : Encoding → ℕ → List ArrayNode → ArrayNode
nested e n children = array_node e n (array_nodes_before children no_array_nodes)

abbrev pub structs_of : ℕ → List ArrayNode → ArrayNode
structs_of n children = nested encoding.Struct n children

abbrev pub lists_of : ℕ → ArrayNode → ArrayNode
lists_of n elements = nested encoding.List n (elements ∷ [])

abbrev pub fixed_of : ℕ → ArrayNode → ArrayNode
fixed_of n elements = nested encoding.FixedSizeList n (elements ∷ [])

abbrev pub numbers_of : ℕ → ArrayNode
numbers_of n = nested encoding.Primitive n []

abbrev pub truths_of : ℕ → ArrayNode
truths_of n = nested encoding.Bool n []

abbrev pub constants_of : ℕ → ArrayNode
constants_of n = nested encoding.Constant n []
