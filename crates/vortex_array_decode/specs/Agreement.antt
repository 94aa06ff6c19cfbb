-- When the node of an array agrees with the node of a body.
--     Part, parts_in     what the children of a node hold, that of its validity aside
--     AreAside           the children behind these
--     Agrees             the node of an array agrees with that of a body in encoding and children at every place, and in
--         how many rows there are where that is told
--     PartsAgree         so do the children that hold these parts
use Rattle.std.specs.Prelude.{◌≡◌, ◌⊎◌, ◌*◌, ℕ, List, [], ◌∷◌, Option, Some, None, IfSome, map}
use Rattle.std.specs.Option.{option_map}
use Rattle.vortex_terms.specs.Term.{Term, structure, list, extension, fixed_size_list}
use Rattle.vortex_terms.specs.Types.{types_of}
use Rattle.vortex_body.specs.Node.{Node, node, Nodes, child}
use Rattle.vortex_node_rows.specs.declared.encoding.Encoding.{Encoding}
use Rattle.vortex_node_rows.specs.declared.encoding.Encoding.TheVariants as encoding
use Rattle.vortex_array_data.specs.ArrayNode.{ArrayNode, array_node, ArrayNodes, no_array_nodes, array_child}

-- rows of a type, and how many, where that is told
pub record Part : Type 0 where
  pub dtype : Term
  pub count : Option ℕ

abbrev pub part : Term → Option ℕ → Part
part t count = record { dtype = t; count = count }

-- what the children of a node of so many rows of the type hold in an encoding, that of its validity aside. Elements of
-- lists are as many as they are: how many is not told of them, nor of what is below them
abbrev pub parts_in : Encoding → Term → Option ℕ → List Part
parts_in encoding.List (list t nl) count = part t None ∷ []
parts_in encoding.FixedSizeList (fixed_size_list t k nl) count = part t (option_map (λ n. n * k) count) ∷ []
parts_in encoding.Struct (structure fs nl) count = map (λ t. part t count) (types_of fs)
parts_in encoding.Ext (extension id t x) count = part t count ∷ []
parts_in _ _ _ = []

-- behind the parts of n rows stands nothing, or the validity of the array: n truth values
abbrev pub AreAside : ℕ → ArrayNodes → Type 0
AreAside n ds = (ds ≡ no_array_nodes) ⊎ (ds ≡ array_child (array_node encoding.Bool n no_array_nodes) no_array_nodes)

abbrev mutual
  -- of a body, whose places among names are encodings by f, and of an array of so many rows of the type
  pub Agrees : (ℕ → Option Encoding) → Term → Option ℕ → Node → ArrayNode → Type 0
  Agrees f t count (node place m cs bs) (array_node e n ds) =
      (f place ≡ Some e) × IfSome count (λ k. n ≡ k) × PartsAgree f n (parts_in e t count) cs ds

  -- each part has a child of both; what the body has behind them is its own validity
  pub PartsAgree : (ℕ → Option Encoding) → ℕ → List Part → Nodes → ArrayNodes → Type 0
  PartsAgree f n (p ∷ ps) (child x cs) (array_child a ds) = Agrees f p.dtype p.count x a × PartsAgree f n ps cs ds
  PartsAgree f n [] cs ds = AreAside n ds
  PartsAgree f n _ _ _ = ⊥
