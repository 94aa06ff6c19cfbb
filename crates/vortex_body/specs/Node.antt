-- The node of an array as a term: what a body says of it, whatever its encoding means.
--     Node, Nodes             a node, and the children of one
--     nodes_from, child_count     children from a list, and how many they are
--     node_encoding, node_metadata, node_children, node_buffers      its parts
--     node_levels, node_count     how deep a node nests, and how many nodes it has in it
--     IsWithinLimits          both are within the limits of a body
--     coded_node, coded_nodes     the codes, so that a struct's model may be one
use Rattle.std.specs.Prelude.{◌≡◌, ℕ, suc, ◌+◌, ◌≤◌, max, List, [], ◌∷◌, refl}
use Rattle.std.specs.Coded.{Coded, coded_ℕ, coded_list}
use Rattle.std.proofs.Common.{ap, arith}
use denote.Param.Weighed.{most}
use base.Stored.{Gv, gnil, gnum, gcons, num}
use Rattle.vortex_terms.specs.TermCode.{head, tail}

mutual
  -- the encoding's place among the names of the header, the metadata, the children, and the buffers
  pub data Node : Type 0 where
    node : ℕ → List ℕ → Nodes → List (List ℕ) → Node

  pub data Nodes : Type 0 where
    no_nodes : Nodes
    child : Node → Nodes → Nodes

-- the place of the encoding among the names of the header
abbrev pub node_encoding : Node → ℕ
node_encoding (node e m cs bs) = e

abbrev pub node_metadata : Node → List ℕ
node_metadata (node e m cs bs) = m

abbrev pub node_children : Node → Nodes
node_children (node e m cs bs) = cs

abbrev pub node_buffers : Node → List (List ℕ)
node_buffers (node e m cs bs) = bs

-- the nodes of a list
abbrev pub nodes_from : List Node → Nodes
nodes_from [] = no_nodes
nodes_from (n ∷ ns) = child n (nodes_from ns)

-- how many children there are
abbrev pub child_count : Nodes → ℕ
child_count no_nodes = 0
child_count (child n ns) = suc (child_count ns)

-- how deep a node nests: one without children has one level
abbrev mutual
  pub node_levels : Node → ℕ
  node_levels (node e m cs bs) = 1 + nodes_levels cs

  -- the greatest of the children
  pub nodes_levels : Nodes → ℕ
  nodes_levels no_nodes = 0
  nodes_levels (child n ns) = max (node_levels n) (nodes_levels ns)

-- how many nodes a node has in it, itself counted
abbrev mutual
  pub node_count : Node → ℕ
  node_count (node e m cs bs) = suc (nodes_count cs)

  pub nodes_count : Nodes → ℕ
  nodes_count no_nodes = 0
  nodes_count (child n ns) = node_count n + nodes_count ns

abbrev pub most_levels : ℕ
most_levels = 128

abbrev pub most_nodes : ℕ
most_nodes = 4000000

-- the node is within the limits of a body
pub record IsWithinLimits (n : Node) : Type 0 where
  pub few_levels : node_levels n ≤ most_levels
  pub few_nodes : node_count n ≤ most_nodes

-- children have no fewer nodes in them than each of them
pub most_le-nodes : (ns : List Node) →
    most (λ n. node_count n + 1) ns ≤ nodes_count (nodes_from ns) + 1
most_le-nodes [] = omega arith
most_le-nodes (n ∷ ns) = omega (arith, most_le-nodes ns)

abbrev coded_bytes : Coded (List ℕ)
coded_bytes = coded_list coded_ℕ

abbrev coded_buffers : Coded (List (List ℕ))
coded_buffers = coded_list coded_bytes

abbrev mutual
  pub node_code : Node → Gv
  node_code (node e m cs bs) =
      gcons (gnum e) (gcons (coded_bytes.code m) (gcons (coded_buffers.code bs) (nodes_code cs)))

  pub nodes_code : Nodes → Gv
  nodes_code no_nodes = gnil
  nodes_code (child n ns) = gcons (node_code n) (nodes_code ns)

mutual
  pub node_code-inj : (a b : Node) → node_code a ≡ node_code b → a ≡ b
  node_code-inj (node e m cs bs) (node f l ds es) h =
      λ i. node (ap (λ g. num (head g)) h i) (coded_bytes.inj m l (ap (λ g. head (tail g)) h) i)
      (nodes_code-inj cs ds (ap (λ g. tail (tail (tail g))) h) i)
      (coded_buffers.inj bs es (ap (λ g. head (tail (tail g))) h) i)

  pub nodes_code-inj : (a b : Nodes) → nodes_code a ≡ nodes_code b → a ≡ b
  nodes_code-inj no_nodes no_nodes h = refl
  nodes_code-inj (child m ms) (child n ns) h =
      λ i. child (node_code-inj m n (ap head h) i) (nodes_code-inj ms ns (ap tail h) i)
  nodes_code-inj _ _ h = absurd (cc)

abbrev pub coded_node : Coded Node
coded_node = record { code = node_code; inj = node_code-inj }

abbrev pub coded_nodes : Coded Nodes
coded_nodes = record { code = nodes_code; inj = nodes_code-inj }
