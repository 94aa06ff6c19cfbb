-- The reading of a node as the code goes about it: what the node has beside its children is looked at and left there.
use Rattle.std.specs.Prelude.{ℕ, ◌+◌, ◌&&◌, ◌==◌, List, [], length, take, drop, nat_le, Option, Some, None, unwrap_or, if◌then◌else◌}
use Rattle.std.specs.Option.{option_map}
use Rattle.std.specs.Global.{Vec}
use Rattle.vortex_prelude.specs.Chain.{◌>>=◌}
use Rattle.vortex_prelude.specs.Absent.{or_zero, or_else}
use Rattle.vortex_flat.specs.Targets.{VectorShape, number_field, bytes_field, vector_field, or_empty}
use Rattle.vortex_body.specs.Body.{BodyParts, BufferDescriptor, buffers_in, named_buffers}
use Rattle.vortex_body.specs.Node.{Node, node, Nodes, nodes_from}
use Rattle.vortex_body.specs.Reading.{Found, Reader, Own, after_node, own_at, children_at, left_of}
use Rattle.vortex_body.specs.declared.schema.TheConstants.{NODE_ENCODING, NODE_METADATA, NODE_CHILDREN, NODE_BUFFERS}

-- how many buffers a vector of places names
abbrev pub named_count : List ℕ → List (List ℕ) → VectorShape → Option ℕ
named_count b buffers v = option_map length (named_buffers b buffers v)

-- the offsets to the children of the node at place p, where all else of it stands
unfoldable pub targets_at : List ℕ → List (List ℕ) → ℕ → Option VectorShape
targets_at b buffers p = do
  encoding ← or_zero (number_field b p NODE_ENCODING 2)
  metadata ← or_else [] (bytes_field b p NODE_METADATA)
  places ← or_empty 4 (vector_field b p NODE_BUFFERS 4)
  count ← named_count b buffers places
  or_empty 4 (vector_field b p NODE_CHILDREN 4)

-- what is left after the node at place p, whose children are read so
unfoldable pub walked_at : List ℕ → List (List ℕ) → Reader → ℕ → ℕ → Option ℕ
walked_at b buffers read left p = do
  rest ← after_node left
  targets ← targets_at b buffers p
  left_of (children_at b read targets targets.count 0 rest)

-- what a node has beside its children, where one is known to stand
abbrev pub known_own : List ℕ → List (List ℕ) → ℕ → Own
known_own b buffers p =
    unwrap_or (own_at b buffers p) (record { encoding = 0; metadata = []; buffers = [] })

-- the node of what it has beside its children, and of these
abbrev pub node_of_own : Own → Nodes → Node
node_of_own own children = node own.encoding own.metadata children own.buffers

-- the node at place p, whose children are read so
unfoldable pub made_at : List ℕ → List (List ℕ) → Reader → Reader
made_at b buffers read left p = do
  rest ← after_node left
  targets ← targets_at b buffers p
  children ← children_at b read targets targets.count 0 rest
  Some (record { found = node_of_own (known_own b buffers p) children.found; left = children.left })

-- what was found and what is left, as a pair
abbrev pub found_pair : {A : Type 0} → A × ℕ → Found A
found_pair p = record { found = p.0; left = p.1 }

-- children that were found and what is left, as a pair
abbrev pub children_pair : Vec Node × ℕ → Found Nodes
children_pair p = record { found = nodes_from p.0.items; left = p.1 }

-- the parts of a body, as a pair
abbrev pub parts_pair : List ℕ × List ℕ → BodyParts
parts_pair p = record { region = p.0; flat = p.1 }

-- the first buffer of a region, and the region behind it
unfoldable pub next_buffer : BufferDescriptor → List ℕ → Option (List ℕ × List ℕ)
next_buffer d region =
    if d.compression == 0 && nat_le (d.padding + d.length) (length region)
    then Some (take d.length (drop d.padding region), drop (d.padding + d.length) region)
    else None

-- the buffers of the region that the descriptors tell, where these are found
abbrev pub buffers_from : List ℕ → Option (List BufferDescriptor) → Option (List (List ℕ))
buffers_from region descriptors = descriptors >>= buffers_in region
