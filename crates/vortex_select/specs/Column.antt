-- The one type of column that this form of the program reads, and which rows a body stands for
-- (this project's own schemas and body layout over FlatBuffers).
use Rattle.std.specs.Prelude.{◌≡◌, ℕ, ◌+◌, ◌-◌, ◌*◌, ◌/◌, ◌%◌, ◌^◌, ◌&&◌, ◌==◌, List, [], ◌∷◌, length, take, drop, map, All, Option, Some, None, ℤ, nat_le, nat_lt, slice_get, if◌then◌else◌}
use Rattle.std.specs.Option.{option_map, option_flatten}
use Rattle.std.specs.Int.{w64, cast_signed, from_le_bytes}
use Rattle.std.specs.Simd.{first_chunks}
use Rattle.vortex_flat.specs.Numbers.{number}
use Rattle.vortex_prelude.specs.Chain.{◌>>=◌}
use Rattle.vortex_flat.specs.Table.{root_at}
use Rattle.vortex_flat.specs.Targets.{VectorShape, element, number_field, table_field, bytes_field, vector_field, or_empty}
use Rattle.vortex_prelude.specs.Absent.{or_zero}
use Rattle.vortex_prelude.specs.Elements.{elements}
use Rattle.vortex_select.specs.declared.schema.TheConstants.{DTYPE_KIND, DTYPE_INNER, PRIMITIVE, PRIMITIVE_PTYPE, PRIMITIVE_NULLABLE, PTYPE_I64, NEVER_NULL, BODY_NODE, BODY_BUFFERS, NODE_ENCODING, NODE_METADATA, NODE_CHILDREN, NODE_BUFFERS, PRIMITIVE_NAME}

-- the name of the encoding of primitive arrays
abbrev pub primitive_name : List ℕ
primitive_name = PRIMITIVE_NAME.now

-- whole numbers of 64 signed bits, never null
pub data ColumnType : Type 0 where
  i64_column : ColumnType

-- The type that the body of a type message stands for. Table DType has the kind u8 and the table of
-- the kind, which for a primitive type has the ptype u8 and nullable u8.
unfoldable pub column_type_of : List ℕ → Option ColumnType
column_type_of body = do
  dtype ← root_at body
  kind ← or_zero (number_field body dtype.place DTYPE_KIND 1)
  primitive ← option_flatten (table_field body dtype.place DTYPE_INNER)
  ptype ← or_zero (number_field body primitive PRIMITIVE_PTYPE 1)
  nullable ← or_zero (number_field body primitive PRIMITIVE_NULLABLE 1)
  if kind == PRIMITIVE && ptype == PTYPE_I64 && nullable == NEVER_NULL
      then Some i64_column
      else None

-- the body of a type message stands for this type
abbrev pub IsColumnType : List ℕ → ColumnType → Type 0
IsColumnType body t = column_type_of body ≡ Some t

-- a body is a region of buffers, a flat buffer, and four bytes that are the flat buffer's length
pub record BodyParts : Type 0 where
  pub region : List ℕ
  pub flat : List ℕ

-- the parts of a body, where it has room for both the flat buffer and its length
unfoldable pub body_parts : List ℕ → Option BodyParts
body_parts body = do
  len ← number body (length body - 4) 4
  let start : ℕ = length body - 4 - len
  if nat_le (len + 4) (length body)
      then Some (record { region = take start body; flat = take len (drop start body) })
      else None

-- A buffer's descriptor: the bytes of padding before the buffer, its alignment exponent, its
-- compression, and its length.
pub record BufferDescriptor : Type 0 where
  pub padding : ℕ
  pub exponent : ℕ
  pub compression : ℕ
  pub length : ℕ

-- the descriptor that 8 bytes, read as one number, are: 2 bytes of padding, 1 of exponent, 1 of
-- compression, 4 of length
abbrev pub descriptor_of : ℕ → BufferDescriptor
descriptor_of n = record {
  padding = n % 2 ^ 16;
  exponent = n / 2 ^ 16 % 256;
  compression = n / 2 ^ 24 % 256;
  length = n / 2 ^ 32;
}

-- the buffers stand in the region in order, each behind its padding, and none is compressed
unfoldable pub buffers_in : List ℕ → List BufferDescriptor → Option (List (List ℕ))
buffers_in region [] = Some []
buffers_in region (d ∷ descriptors) =
    if d.compression == 0 && nat_le (d.padding + d.length) (length region)
    then option_map (λ buffers. take d.length (drop d.padding region) ∷ buffers)
    (buffers_in (drop (d.padding + d.length) region) descriptors)
    else None

-- the descriptors that a vector of width 8 holds
abbrev pub descriptors_in : List ℕ → VectorShape → Option (List BufferDescriptor)
descriptors_in b v = elements (λ i. option_map descriptor_of (number b (element v i) 8)) 0 v.count

-- the descriptors of the buffers that the root of a flat buffer, at place p, leads to
abbrev pub descriptors_at : List ℕ → ℕ → Option (List BufferDescriptor)
descriptors_at flat p = or_empty 8 (vector_field flat p BODY_BUFFERS 8) >>= descriptors_in flat

-- the buffer at a place among those that the descriptors tell, all of which stand in the region
unfoldable pub buffer_in : List ℕ → Option (List BufferDescriptor) → ℕ → Option (List ℕ)
buffer_in region found place = do
  descriptors ← found
  buffers ← buffers_in region descriptors
  slice_get buffers place

-- the one number of a vector of width 4
abbrev pub only_number : List ℕ → VectorShape → Option ℕ
only_number b v = if v.count == 1 then number b (element v 0) 4 else None

-- a node without children that has one buffer: the places of its encoding among the names and of
-- its buffer
pub record PrimitiveNode : Type 0 where
  pub encoding : ℕ
  pub buffer : ℕ

-- Table Node has the encoding u16, metadata, which is bytes, the children, a vector of nodes, and
-- the buffers, a vector of u32.
unfoldable pub primitive_node_at : List ℕ → ℕ → Option PrimitiveNode
primitive_node_at flat p = do
  encoding ← or_zero (number_field flat p NODE_ENCODING 2)
  metadata ← bytes_field flat p NODE_METADATA
  children ← or_empty 4 (vector_field flat p NODE_CHILDREN 4)
  buffer ← or_empty 4 (vector_field flat p NODE_BUFFERS 4) >>= only_number flat
  if children.count == 0 then Some (record { encoding = encoding; buffer = buffer }) else None

-- The buffer of so many rows that the parts of a body stand for, by one primitive node whose
-- encoding is a place among so many names. The root of the flat buffer has the root node, and a
-- vector of descriptors, 8 bytes for each buffer.
unfoldable pub primitive_buffer_in : ℕ → ℕ → BodyParts → Option (List ℕ)
primitive_buffer_in count names parts = do
  root ← root_at parts.flat
  place ← option_flatten (table_field parts.flat root.place BODY_NODE)
  node ← primitive_node_at parts.flat place
  buffer ← buffer_in parts.region (descriptors_at parts.flat root.place) node.buffer
  if nat_lt node.encoding names && length buffer == 8 * count then Some buffer else None

-- the buffer of so many rows that a body stands for
abbrev pub primitive_buffer_of : ℕ → ℕ → List ℕ → Option (List ℕ)
primitive_buffer_of count names body = body_parts body >>= primitive_buffer_in count names

-- a number of 64 signed bits in 8 bytes, the lowest first
abbrev pub i64_value : List ℕ → ℤ
i64_value bytes = cast_signed w64 (from_le_bytes w64 bytes)

-- the first n numbers of 64 signed bits in these bytes
abbrev pub i64_values : ℕ → List ℕ → List ℤ
i64_values n bytes = map i64_value (first_chunks 8 n bytes)

-- the body of an array message, whose header tells the number of rows and the names of encodings,
-- stands for the rows
pub record IsPrimitiveArray (t : ColumnType) (count : ℕ) (names : List (List ℕ)) (body : List ℕ)
    (rows : List ℤ) : Type 0 where
  pub names_are : All (λ name. name ≡ primitive_name) names
  pub rows_are :
      option_map (i64_values count) (primitive_buffer_of count (length names) body) ≡ Some rows
