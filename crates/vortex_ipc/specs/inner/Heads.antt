-- What a decoder keeps of a header.
use Rattle.std.specs.Prelude.{◌≡◌, Bool, ℕ, List, Option, Some}
use Rattle.std.specs.Option.{option_map}
use Rattle.vortex_flat.specs.Targets.{VectorView, number_field, text_element, vector_field, vector_view, or_empty}
use Rattle.vortex_prelude.specs.Absent.{or_zero}
use Rattle.vortex_prelude.specs.Elements.{elements}
use Rattle.vortex_prelude.specs.Chain.{◌>>=◌}
use Rattle.vortex_stream.specs.declared.kind.MessageKind.TheVariants.{Array}
use Rattle.vortex_stream.specs.declared.schema.TheConstants.{ARRAY_ROWS, ARRAY_NAMES}
use Rattle.vortex_stream.specs.Header.{names_in, Content, array_content, buffer_content, type_content, kind_of, Header, MessageTable, header_of, message_table_of}
use Rattle.vortex_ipc.specs.Decoding.{all_held, are_held}
use Rattle.vortex_ipc.specs.declared.header.ContentHead.{ContentHead}
use Rattle.vortex_ipc.specs.declared.header.Head.{Head}
use Rattle.vortex_ipc.specs.declared.header.FoundMessage.{FoundMessage}

-- the alignment exponent of a buffer, and 0 for the other kinds
abbrev pub exponent_of : Content → ℕ
exponent_of (array_content rows names) = 0
exponent_of (buffer_content exponent) = exponent
exponent_of type_content = 0

-- the row count of an array, and 0 for the other kinds
abbrev pub rows_in : Content → ℕ
rows_in (array_content rows names) = rows
rows_in (buffer_content exponent) = 0
rows_in type_content = 0

-- what is kept of what a message holds
abbrev pub content_head : List (List ℕ) → Content → ContentHead
content_head held c =
    record { kind = kind_of c; exponent = exponent_of c; rows = rows_in c; held = are_held held c }

-- what is kept of a header
abbrev pub head_of : List (List ℕ) → Header → Head
head_of held h = record { content = content_head held h.content; body_size = h.body_size }

-- a header tells this content, of which so much is kept
pub record IsHeadOf (header : List ℕ) (head : ContentHead) : Type 0 where
  pub content : Content
  pub body_size : ℕ
  pub header_is : header_of header ≡ Some (record { content = content; body_size = body_size })
  pub kind_is : kind_of content ≡ head.kind
  pub exponent_is : exponent_of content ≡ head.exponent
  pub rows_is : rows_in content ≡ head.rows

-- the buffer of a header, and what its table says
abbrev pub message_view : FoundMessage → List ℕ × MessageTable
message_view m =
    (m.inner.buffer, record { kind = m.kind; inner = m.inner.place; body_size = m.body_size })

-- whether names are held, where they are there
abbrev pub held_names : List (List ℕ) → Option (List (List ℕ)) → Option Bool
held_names held names = option_map (all_held held) names

-- what is kept of what the table of an array at place p tells
unfoldable pub array_head_at : List (List ℕ) → List ℕ → ℕ → Option ContentHead
array_head_at held b p = do
  rows ← or_zero (number_field b p ARRAY_ROWS 4)
  known ← or_empty 4 (vector_field b p ARRAY_NAMES 4) >>= λ v. held_names held (names_in b v)
  Some (record { kind = Array; exponent = 0; rows = rows; held = known })

-- the vector of names of a header, where it is of an array
unfoldable pub names_vector_of : List ℕ → Option VectorView
names_vector_of b = do
  message ← message_table_of b
  option_map (vector_view b) (or_empty 4 (vector_field b message.inner ARRAY_NAMES 4))

-- the texts of a vector
abbrev pub texts_of : VectorView → Option (List (List ℕ))
texts_of v = elements (text_element v.buffer v.shape) 0 v.shape.count

-- the names that a header of an array tells
abbrev pub names_told : List ℕ → Option (List (List ℕ))
names_told b = names_vector_of b >>= texts_of
