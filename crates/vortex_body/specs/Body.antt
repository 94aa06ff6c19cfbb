-- Which node a body stands for (this project's own layout, over FlatBuffers): a body is a region of buffers, a flat
-- buffer, and the length of the flat buffer.
--     root        0 the root node; 1 descriptors of buffers, a vector of 8 bytes each
--     node        0 encoding u16; 1 metadata, a vector of bytes; 2 children, a vector of nodes;
--                 3 buffers, a vector of u32, places among the descriptors
-- What is absent is none, or 0.
use Rattle.std.specs.Prelude.{◌≡◌, ℕ, suc, ◌+◌, ◌-◌, ◌/◌, ◌%◌, ◌^◌, ◌&&◌, ◌==◌, List, [], ◌∷◌, length, take, drop, slice_range, slice_get, Option, Some, None, nat_le, if◌then◌else◌}
use Rattle.std.specs.Option.{option_map}
use Rattle.vortex_prelude.specs.Chain.{◌>>=◌}
use Rattle.vortex_prelude.specs.Absent.{or_zero, or_else}
use Rattle.vortex_prelude.specs.Elements.{elements}
use Rattle.vortex_flat.specs.Numbers.{number}
use Rattle.vortex_flat.specs.Targets.{VectorShape, element, root_place, number_field, table_field, bytes_field, vector_field, or_empty, table_element}
use Rattle.vortex_body.specs.Node.{Node, node, Nodes, no_nodes, child, child_count, IsWithinLimits}
use Rattle.vortex_body.specs.declared.schema.TheConstants.{ROOT_NODE, ROOT_DESCRIPTORS, NODE_ENCODING, NODE_METADATA, NODE_CHILDREN, NODE_BUFFERS}

-- the region of the buffers, and the flat buffer
pub record BodyParts : Type 0 where
  pub region : List ℕ
  pub flat : List ℕ

-- the parts of a body, whose last four bytes are the length of the flat buffer before them
unfoldable pub body_parts : List ℕ → Option BodyParts
body_parts body = do
  len ← number body (length body - 4) 4
  let start : ℕ = length body - 4 - len
  if nat_le (len + 4) (length body)
      then Some (record { region = slice_range body 0 start; flat = slice_range body start (start + len) })
      else None

-- a buffer's descriptor: the bytes of padding before it, its compression, and its length
pub record BufferDescriptor : Type 0 where
  pub padding : ℕ
  pub compression : ℕ
  pub length : ℕ

-- the descriptor that 8 bytes, read as one number, are: 2 bytes of padding, 1 of an alignment, which is not looked at,
-- 1 of compression, 4 of length
abbrev pub descriptor_of : ℕ → BufferDescriptor
descriptor_of n = record {
  padding = n % 2 ^ 16;
  compression = n / 2 ^ 24 % 256;
  length = n / 2 ^ 32;
}

-- the descriptors that a vector of width 8 holds
abbrev pub descriptors_in : List ℕ → VectorShape → Option (List BufferDescriptor)
descriptors_in b v = elements (λ i. option_map descriptor_of (number b (element v i) 8)) 0 v.count

-- the buffers stand in the region in order, each behind its padding, and none is compressed
unfoldable pub buffers_in : List ℕ → List BufferDescriptor → Option (List (List ℕ))
buffers_in region [] = Some []
buffers_in region (d ∷ descriptors) =
    if d.compression == 0 && nat_le (d.padding + d.length) (length region)
    then option_map (λ buffers. take d.length (drop d.padding region) ∷ buffers)
    (buffers_in (drop (d.padding + d.length) region) descriptors)
    else None

-- the buffers whose descriptors the root, at place p of the flat buffer, leads to
unfoldable pub buffers_of : BodyParts → ℕ → Option (List (List ℕ))
buffers_of parts p = do
  v ← or_empty 8 (vector_field parts.flat p ROOT_DESCRIPTORS 8)
  descriptors ← descriptors_in parts.flat v
  buffers_in parts.region descriptors

-- the buffer that element i of a vector of places names
abbrev pub named_buffer : List ℕ → List (List ℕ) → VectorShape → ℕ → Option (List ℕ)
named_buffer b buffers v i = number b (element v i) 4 >>= slice_get buffers

-- the buffers that a vector of places names
abbrev pub named_buffers : List ℕ → List (List ℕ) → VectorShape → Option (List (List ℕ))
named_buffers b buffers v = elements (named_buffer b buffers v) 0 v.count

abbrev mutual
  -- this node stands at place p of the flat buffer, and its buffers are among these
  pub IsNodeAt : List ℕ → List (List ℕ) → ℕ → Node → Type 0
  IsNodeAt b buffers p (node encoding metadata children named) = (places targets : VectorShape)
      × (or_zero (number_field b p NODE_ENCODING 2) ≡ Some encoding)
      × (or_else [] (bytes_field b p NODE_METADATA) ≡ Some metadata)
      × (or_empty 4 (vector_field b p NODE_BUFFERS 4) ≡ Some places)
      × (named_buffers b buffers places ≡ Some named)
      × (or_empty 4 (vector_field b p NODE_CHILDREN 4) ≡ Some targets)
      × (targets.count ≡ child_count children)
      × AreNodesAt b buffers targets 0 children

  -- these are the nodes from the i-th on that a vector of offsets leads to
  pub AreNodesAt : List ℕ → List (List ℕ) → VectorShape → ℕ → Nodes → Type 0
  AreNodesAt b buffers v i no_nodes = Unit {0}
  AreNodesAt b buffers v i (child n ns) =
      ((p : ℕ) × (table_element b v i ≡ Some p) × IsNodeAt b buffers p n) × AreNodesAt b buffers v (suc i) ns

-- the body stands for this node, which is within the limits
pub record IsBody (body : List ℕ) (n : Node) : Type 0 where
  pub parts : BodyParts
  pub root : ℕ
  pub place : ℕ
  pub buffers : List (List ℕ)
  pub parts_are : body_parts body ≡ Some parts
  pub root_is : root_place parts.flat ≡ Some root
  pub buffers_are : buffers_of parts root ≡ Some buffers
  pub place_is : table_field parts.flat root ROOT_NODE ≡ Some (Some place)
  pub stands : IsNodeAt parts.flat buffers place n
  pub limits : IsWithinLimits n
