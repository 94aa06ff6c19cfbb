-- The node of an array: how it is held, and how many rows it has, down to the last of its children. Its bytes are not
-- in it.
--     ArrayNode, ArrayNodes     a node, and the children of one
--     array_nodes_from          children from a list
--     array_node_count          how many nodes a node has in it
--     coded_array_node          the code, so that a struct's model may hold one
use Rattle.std.specs.Prelude.{◌≡◌, ℕ, suc, ◌+◌, List, [], ◌∷◌, refl}
use Rattle.std.specs.Coded.{Coded}
use Rattle.std.proofs.Common.{ap, arith}
use base.Stored.{Gv, gnil, gnum, gcons, num}
use Rattle.vortex_terms.specs.TermCode.{head, tail}
use Rattle.vortex_node_rows.specs.declared.encoding.Encoding.{Encoding}
use Rattle.vortex_node_rows.specs.declared.encoding.Encoding.TheVariants as encoding

mutual
  -- the encoding, how many rows there are, and the children
  pub data ArrayNode : Type 0 where
    array_node : Encoding → ℕ → ArrayNodes → ArrayNode

  pub data ArrayNodes : Type 0 where
    no_array_nodes : ArrayNodes
    array_child : ArrayNode → ArrayNodes → ArrayNodes

abbrev pub array_encoding : ArrayNode → Encoding
array_encoding (array_node e n cs) = e

abbrev pub array_row_count : ArrayNode → ℕ
array_row_count (array_node e n cs) = n

abbrev pub array_children : ArrayNode → ArrayNodes
array_children (array_node e n cs) = cs

-- the nodes of a list, before others
abbrev pub array_nodes_before : List ArrayNode → ArrayNodes → ArrayNodes
array_nodes_before [] cs = cs
array_nodes_before (n ∷ ns) cs = array_child n (array_nodes_before ns cs)

-- how many nodes a node has in it, itself counted
abbrev mutual
  pub array_node_count : ArrayNode → ℕ
  array_node_count (array_node e n cs) = suc (array_nodes_count cs)

  pub array_nodes_count : ArrayNodes → ℕ
  array_nodes_count no_array_nodes = 0
  array_nodes_count (array_child n ns) = array_node_count n + array_nodes_count ns

abbrev pub encoding_number : Encoding → ℕ
encoding_number encoding.Null = 0
encoding_number encoding.Bool = 1
encoding_number encoding.Primitive = 2
encoding_number encoding.Decimal = 3
encoding_number encoding.VarBin = 4
encoding_number encoding.List = 5
encoding_number encoding.FixedSizeList = 6
encoding_number encoding.Struct = 7
encoding_number encoding.Ext = 8
encoding_number encoding.Constant = 9

pub encoding_number-inj : (a b : Encoding) → encoding_number a ≡ encoding_number b → a ≡ b
encoding_number-inj encoding.Null encoding.Null e = refl
encoding_number-inj encoding.Bool encoding.Bool e = refl
encoding_number-inj encoding.Primitive encoding.Primitive e = refl
encoding_number-inj encoding.Decimal encoding.Decimal e = refl
encoding_number-inj encoding.VarBin encoding.VarBin e = refl
encoding_number-inj encoding.List encoding.List e = refl
encoding_number-inj encoding.FixedSizeList encoding.FixedSizeList e = refl
encoding_number-inj encoding.Struct encoding.Struct e = refl
encoding_number-inj encoding.Ext encoding.Ext e = refl
encoding_number-inj encoding.Constant encoding.Constant e = refl
encoding_number-inj _ _ e = absurd (omega arith)

abbrev mutual
  pub array_node_code : ArrayNode → Gv
  array_node_code (array_node e n cs) = gcons (gnum (encoding_number e)) (gcons (gnum n) (array_nodes_code cs))

  pub array_nodes_code : ArrayNodes → Gv
  array_nodes_code no_array_nodes = gnil
  array_nodes_code (array_child n ns) = gcons (array_node_code n) (array_nodes_code ns)

mutual
  pub array_node_code-inj : (a b : ArrayNode) → array_node_code a ≡ array_node_code b → a ≡ b
  array_node_code-inj (array_node e n cs) (array_node f m ds) h =
      λ i. array_node (encoding_number-inj e f (ap (λ g. num (head g)) h) i) (ap (λ g. num (head (tail g))) h i)
      (array_nodes_code-inj cs ds (ap (λ g. tail (tail g)) h) i)

  pub array_nodes_code-inj : (a b : ArrayNodes) → array_nodes_code a ≡ array_nodes_code b → a ≡ b
  array_nodes_code-inj no_array_nodes no_array_nodes h = refl
  array_nodes_code-inj (array_child m ms) (array_child n ns) h =
      λ i. array_child (array_node_code-inj m n (ap head h) i) (array_nodes_code-inj ms ns (ap tail h) i)
  array_nodes_code-inj _ _ h = absurd (cc)

abbrev pub coded_array_node : Coded ArrayNode
coded_array_node = record { code = array_node_code; inj = array_node_code-inj }
