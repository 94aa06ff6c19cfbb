-- What the readers of this crate find, as functions on the bytes. They are shown to find exactly
-- the streams of Theorem.
use Rattle.std.specs.Prelude.{Bool, ℕ, ◌==◌, List, take, drop, length, Option, Some, None, nat_eq, nat_le, if◌then◌else◌}
use Rattle.std.specs.List.{list_all}
use lib.Pointwise.{pointwise}
use Rattle.vortex_flat.specs.Numbers.{number}
use Rattle.vortex_prelude.specs.Chain.{◌>>=◌}
use Rattle.vortex_flat.specs.Targets.{number_field, vector_field, or_empty}
use Rattle.vortex_prelude.specs.Absent.{or_zero}
use Rattle.vortex_stream.specs.Header.{message_table_of, names_in}
use Rattle.vortex_stream.specs.declared.schema.TheConstants.{ARRAY, DTYPE, ARRAY_ROWS, ARRAY_NAMES}
use Rattle.vortex_select.specs.Column.{primitive_name, column_type_of, primitive_buffer_of}

-- the first n bytes, and those after them, where there are as many
abbrev pub prefix_of : ℕ → List ℕ → Option (List ℕ × List ℕ)
prefix_of n bytes = if nat_le n (length bytes) then Some (take n bytes, drop n bytes) else None

-- the bytes behind their length in four bytes, and those after them
unfoldable pub length_prefixed_of : List ℕ → Option (List ℕ × List ℕ)
length_prefixed_of bytes = number bytes 0 4 >>= λ len. prefix_of len (drop 4 bytes)

-- the size of the body that a header of a type message tells
unfoldable pub type_size_of : List ℕ → Option ℕ
type_size_of header = do
  message ← message_table_of header
  if message.kind == DTYPE then Some message.body_size else None

-- what follows a message of the column type
unfoldable pub after_type_of : List ℕ → Option (List ℕ)
after_type_of bytes = do
  header ← length_prefixed_of bytes
  size ← type_size_of header.0
  body ← prefix_of size header.1
  column ← column_type_of body.0
  Some body.1

-- what a header of an array says, where each of its names is that of the primitive encoding
pub record PrimitiveHeader : Type 0 where
  pub rows : ℕ
  pub names : ℕ
  pub body_size : ℕ

-- whether a name is that of the primitive encoding
abbrev pub is_primitive : List ℕ → Bool
is_primitive name = pointwise nat_eq name primitive_name

-- how many names there are, where each is that of the primitive encoding
unfoldable pub primitive_count : Option (List (List ℕ)) → Option ℕ
primitive_count names = names >>= λ ns. if list_all is_primitive ns then Some (length ns) else None

-- the names of encodings that the table of an array at place p holds
abbrev pub names_at : List ℕ → ℕ → Option (List (List ℕ))
names_at header p = or_empty 4 (vector_field header p ARRAY_NAMES 4) >>= names_in header

-- what header bytes say, where they are of an array and each name is that of the primitive encoding
unfoldable pub primitive_header_of : List ℕ → Option PrimitiveHeader
primitive_header_of header = do
  message ← message_table_of header
  rows ← or_zero (number_field header message.inner ARRAY_ROWS 4)
  names ← primitive_count (names_at header message.inner)
  if message.kind == ARRAY
      then Some (record { rows = rows; names = names; body_size = message.body_size })
      else None

-- the buffer of the rows of a message of a primitive array, and what follows the message
unfoldable pub primitive_array_of : List ℕ → Option (List ℕ × List ℕ)
primitive_array_of bytes = do
  header ← length_prefixed_of bytes
  primitive ← primitive_header_of header.0
  body ← prefix_of primitive.body_size header.1
  buffer ← primitive_buffer_of primitive.rows primitive.names body.0
  Some (buffer, body.1)
