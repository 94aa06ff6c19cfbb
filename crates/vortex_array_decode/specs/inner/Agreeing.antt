-- Agreement on the way of decoding.
--     field_parts     what the children of structs hold, but for their validity
--     HeldAgrees      how n rows are held agrees with the node that they were read from
use Rattle.std.specs.Prelude.{◌≡◌, ℕ, List, Option, Some, map}
use Rattle.vortex_terms.specs.Term.{Term, Fields}
use Rattle.vortex_terms.specs.Types.{types_of}
use Rattle.vortex_body.specs.Node.{Node, node_children}
use Rattle.vortex_node_rows.specs.declared.encoding.Encoding.{Encoding}
use Rattle.vortex_array_data.specs.ArrayNode.{ArrayNode, array_encoding, array_row_count, array_children}
use Rattle.vortex_array_decode.specs.Agreement.{Part, part, parts_in, PartsAgree}

abbrev pub field_parts : Fields → ℕ → List Part
field_parts fs n = map (λ t. part t (Some n)) (types_of fs)

-- a node of n rows of the type in this encoding, whose parts agree with those of the body's node
pub record HeldAgrees (f : ℕ → Option Encoding) (e : Encoding) (t : Term) (n : ℕ) (x : Node) (a : ArrayNode) :
    Type 0 where
  pub encoding : array_encoding a ≡ e
  pub count : array_row_count a ≡ n
  pub parts : PartsAgree f n (parts_in e t (Some n)) (node_children x) (array_children a)
