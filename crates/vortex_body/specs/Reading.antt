-- Which node a reader finds, within budgets of levels and nodes. Each node is met where it stands, so one that several
-- offsets lead to is met as often.
use Rattle.std.specs.Prelude.{ℕ, zero, suc, ◌+◌, ◌-◌, List, [], Option, Some, None, nat_le, if◌then◌else◌}
use Rattle.std.specs.Option.{option_map, option_flatten}
use Rattle.vortex_prelude.specs.Chain.{◌>>=◌}
use Rattle.vortex_prelude.specs.Absent.{or_zero, or_else}
use Rattle.vortex_flat.specs.Targets.{VectorShape, root_place, number_field, table_field, bytes_field, vector_field, or_empty, table_element}
use Rattle.vortex_body.specs.Body.{BodyParts, body_parts, buffers_of, named_buffers}
use Rattle.vortex_body.specs.Node.{Node, node, Nodes, no_nodes, child, most_levels, most_nodes}
use Rattle.vortex_body.specs.declared.schema.TheConstants.{ROOT_NODE, NODE_ENCODING, NODE_METADATA, NODE_CHILDREN, NODE_BUFFERS}

-- what was found, and how many nodes may still be met
pub record Found (A : Type 0) : Type 0 where
  pub found : A
  pub left : ℕ

-- a reader of nodes: it is told how many may still be met, and a place
abbrev pub Reader : Type 0
Reader = ℕ → ℕ → Option (Found Node)

-- what is left after what was found
abbrev pub left_of : {A : Type 0} → Option (Found A) → Option ℕ
left_of f = option_map (λ x. x.left) f

-- what is left after one more node
abbrev pub after_node : ℕ → Option ℕ
after_node left = if nat_le 1 left then Some (left - 1) else None

-- what a node has beside its children
pub record Own : Type 0 where
  pub encoding : ℕ
  pub metadata : List ℕ
  pub buffers : List (List ℕ)

-- what the node at place p has beside its children
unfoldable pub own_at : List ℕ → List (List ℕ) → ℕ → Option Own
own_at b buffers p = do
  encoding ← or_zero (number_field b p NODE_ENCODING 2)
  metadata ← or_else [] (bytes_field b p NODE_METADATA)
  places ← or_empty 4 (vector_field b p NODE_BUFFERS 4)
  named ← named_buffers b buffers places
  Some (record { encoding = encoding; metadata = metadata; buffers = named })

-- the node that element i of a vector of offsets leads to
unfoldable pub child_at : List ℕ → Reader → VectorShape → ℕ → ℕ → Option (Found Node)
child_at b read v i left = table_element b v i >>= read left

-- so many nodes from the i-th on
unfoldable pub children_at : List ℕ → Reader → VectorShape → ℕ → ℕ → ℕ → Option (Found Nodes)
children_at b read v zero i left = Some (record { found = no_nodes; left = left })
children_at b read v (suc count) i left = do
  first ← child_at b read v i left
  others ← children_at b read v count (i + 1) first.left
  Some (record { found = child first.found others.found; left = others.left })

-- the node at place p, whose children are read so
unfoldable pub one_node_at : List ℕ → List (List ℕ) → Reader → Reader
one_node_at b buffers read left p = do
  rest ← after_node left
  own ← own_at b buffers p
  targets ← or_empty 4 (vector_field b p NODE_CHILDREN 4)
  children ← children_at b read targets targets.count 0 rest
  Some (record { found = node own.encoding own.metadata children.found own.buffers; left = children.left })

-- the node at place p, of so many levels and nodes at most
unfoldable pub node_at : List ℕ → List (List ℕ) → ℕ → Reader
node_at b buffers zero left p = None
node_at b buffers (suc levels) left p = one_node_at b buffers (node_at b buffers levels) left p

-- the node at place p, where one stands within the limits
unfoldable pub bounded_node_at : List ℕ → List (List ℕ) → ℕ → Option Node
bounded_node_at b buffers p = option_map (λ f. f.found) (node_at b buffers most_levels most_nodes p)

-- the node of the parts of a body, where they stand for one within the limits
unfoldable pub node_in : BodyParts → Option Node
node_in parts = do
  root ← root_place parts.flat
  buffers ← buffers_of parts root
  place ← option_flatten (table_field parts.flat root ROOT_NODE)
  bounded_node_at parts.flat buffers place

-- the node of a body, where it stands for one within the limits
unfoldable pub node_of : List ℕ → Option Node
node_of body = body_parts body >>= node_in
