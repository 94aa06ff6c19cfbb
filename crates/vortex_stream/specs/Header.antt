-- The header of a message (this project's own schema over FlatBuffers). Table Message has the
-- version u8, the kind u8, the table of the kind, and the body size u64. The table of an array has
-- the row count u32 and the names of encodings, a vector of strings; that of a buffer has the
-- alignment exponent u8; that of a type has no field. src/schema.rt numbers fields and kinds.
use Rattle.std.specs.Prelude.{ℕ, ◌==◌, List, Option, Some, None, nat_le, if◌then◌else◌}
use Rattle.std.specs.Option.{option_map, option_flatten}
use Rattle.vortex_prelude.specs.Absent.{or_zero}
use Rattle.vortex_prelude.specs.Chain.{◌>>=◌}
use Rattle.vortex_prelude.specs.Elements.{elements}
use Rattle.vortex_flat.specs.Table.{root_at}
use Rattle.vortex_flat.specs.Targets.{VectorShape, number_field, table_field, vector_field, or_empty, text_element}
use Rattle.vortex_stream.specs.declared.kind.MessageKind.{MessageKind}
use Rattle.vortex_stream.specs.declared.kind.MessageKind.TheVariants.{Array, Buffer, DType}
use Rattle.vortex_stream.specs.declared.schema.TheConstants.{MESSAGE_VERSION, MESSAGE_KIND, MESSAGE_INNER, MESSAGE_BODY_SIZE, VERSION, ARRAY, BUFFER, DTYPE, ARRAY_ROWS, ARRAY_NAMES, MOST_NAMES, BUFFER_ALIGNMENT}

-- what a message holds: an array of so many rows, in encodings of these names; a buffer; or a type
pub data Content : Type 0 where
  array_content : (rows : ℕ) (names : List (List ℕ)) → Content
  buffer_content : (alignment_exponent : ℕ) → Content
  type_content : Content

-- the kind of what a message holds
abbrev pub kind_of : Content → MessageKind
kind_of (array_content rows names) = Array
kind_of (buffer_content alignment_exponent) = Buffer
kind_of type_content = DType

-- the number of a kind in a header
abbrev pub kind_number : MessageKind → ℕ
kind_number Array = ARRAY
kind_number Buffer = BUFFER
kind_number DType = DTYPE

-- what a header says: what the message holds, and the size of its body
pub record Header : Type 0 where
  pub content : Content
  pub body_size : ℕ

-- the texts of a vector, where they are not too many
abbrev pub names_in : List ℕ → VectorShape → Option (List (List ℕ))
names_in b v = if nat_le v.count MOST_NAMES then elements (text_element b v) 0 v.count else None

-- what a message of a kind holds, as the table of the kind at place p tells
unfoldable pub content_at : List ℕ → ℕ → ℕ → Option Content
content_at b p kind =
    if kind == ARRAY then (do
      rows ← or_zero (number_field b p ARRAY_ROWS 4)
      names ← or_empty 4 (vector_field b p ARRAY_NAMES 4) >>= names_in b
      Some (array_content rows names))
    else (if kind == BUFFER
    then option_map buffer_content (or_zero (number_field b p BUFFER_ALIGNMENT 1))
    else (if kind == DTYPE then Some type_content else None))

-- what table Message says: the kind, the place of the table of the kind, the body's size
pub record MessageTable : Type 0 where
  pub kind : ℕ
  pub inner : ℕ
  pub body_size : ℕ

-- what the root table of header bytes says, a Message of the one version
unfoldable pub message_table_of : List ℕ → Option MessageTable
message_table_of b = do
  message ← root_at b
  version ← or_zero (number_field b message.place MESSAGE_VERSION 1)
  kind ← or_zero (number_field b message.place MESSAGE_KIND 1)
  inner ← option_flatten (table_field b message.place MESSAGE_INNER)
  body_size ← or_zero (number_field b message.place MESSAGE_BODY_SIZE 8)
  if version == VERSION
      then Some (record { kind = kind; inner = inner; body_size = body_size }) else None

-- what header bytes stand for
unfoldable pub header_of : List ℕ → Option Header
header_of b = do
  message ← message_table_of b
  content ← content_at b message.inner message.kind
  Some (record { content = content; body_size = message.body_size })
