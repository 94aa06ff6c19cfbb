-- The bytes that are written, as this project lays them out (FlatBuffers of its own schemas, in one
-- spelling).
use Rattle.std.specs.Prelude.{◌≡◌, ℕ, ◌+◌, ◌*◌, ◌/◌, List, [], ◌∷◌, ◌++◌, length, ℤ}
use Rattle.std.specs.Int.{w32, w64, to_le_bytes}
use Rattle.vortex_select.specs.Column.{i64_values}

-- the message of the type: the length of its header, which is 64; the header; and a body of 48
-- bytes
abbrev pub type_message : List ℕ
type_message =
    64 ∷ 0 ∷ 0 ∷ 0 ∷  -- length of the header
    24 ∷ 0 ∷ 0 ∷ 0 ∷ 0 ∷ 0 ∷ 0 ∷ 0 ∷  -- place of the root; padding
    12 ∷ 0 ∷ 22 ∷ 0 ∷  -- vtable of 12 bytes, inline part of 22
    20 ∷ 0 ∷ 21 ∷ 0 ∷ 16 ∷ 0 ∷ 8 ∷ 0 ∷  -- version at 20, kind at 21, table at 16, body size at 8
    0 ∷ 0 ∷ 0 ∷ 0 ∷  -- padding
    16 ∷ 0 ∷ 0 ∷ 0 ∷ 0 ∷ 0 ∷ 0 ∷ 0 ∷  -- Message: its vtable is 16 before it; padding
    48 ∷ 0 ∷ 0 ∷ 0 ∷ 0 ∷ 0 ∷ 0 ∷ 0 ∷  -- size of the body
    16 ∷ 0 ∷ 0 ∷ 0 ∷  -- table of the kind, 16 further on
    0 ∷ 3 ∷ 0 ∷ 0 ∷  -- version 0; kind 3; padding
    4 ∷ 0 ∷ 4 ∷ 0 ∷ 0 ∷ 0 ∷ 0 ∷ 0 ∷  -- vtable of 4 bytes, inline part of 4; padding
    8 ∷ 0 ∷ 0 ∷ 0 ∷ 0 ∷ 0 ∷ 0 ∷ 0 ∷  -- table of a type, without fields; padding
    16 ∷ 0 ∷ 0 ∷ 0 ∷ 0 ∷ 0 ∷ 0 ∷ 0 ∷  -- the body: place of the root; padding
    8 ∷ 0 ∷ 9 ∷ 0 ∷ 8 ∷ 0 ∷ 4 ∷ 0 ∷  -- vtable of 8 bytes, inline part of 9; kind at 8, table at 4
    8 ∷ 0 ∷ 0 ∷ 0 ∷  -- DType: its vtable is 8 before it
    20 ∷ 0 ∷ 0 ∷ 0 ∷  -- table of the kind, 20 further on
    3 ∷ 0 ∷ 0 ∷ 0 ∷ 0 ∷ 0 ∷ 0 ∷ 0 ∷  -- kind 3; padding
    8 ∷ 0 ∷ 6 ∷ 0 ∷ 4 ∷ 0 ∷ 5 ∷ 0 ∷  -- vtable of 8 bytes, inline 6; ptype at 4, nullable at 5
    8 ∷ 0 ∷ 0 ∷ 0 ∷  -- primitive: its vtable is 8 before it
    7 ∷ 0 ∷ 0 ∷ 0 ∷  -- ptype 7; nullable 0; padding
    []

-- the length of the header of an array, 104, and the header up to the size of the body
abbrev pub header_to_size : List ℕ
header_to_size =
    104 ∷ 0 ∷ 0 ∷ 0 ∷  -- length of the header
    24 ∷ 0 ∷ 0 ∷ 0 ∷ 0 ∷ 0 ∷ 0 ∷ 0 ∷  -- place of the root; padding
    12 ∷ 0 ∷ 22 ∷ 0 ∷  -- vtable of 12 bytes, inline part of 22
    20 ∷ 0 ∷ 21 ∷ 0 ∷ 16 ∷ 0 ∷ 8 ∷ 0 ∷  -- version at 20, kind at 21, table at 16, body size at 8
    0 ∷ 0 ∷ 0 ∷ 0 ∷  -- padding
    16 ∷ 0 ∷ 0 ∷ 0 ∷ 0 ∷ 0 ∷ 0 ∷ 0 ∷  -- Message: its vtable is 16 before it; padding
    []

-- the header of an array behind the size of the body, up to the number of rows
abbrev pub header_to_rows : List ℕ
header_to_rows =
    16 ∷ 0 ∷ 0 ∷ 0 ∷  -- table of the kind, 16 further on
    0 ∷ 1 ∷ 0 ∷ 0 ∷  -- version 0; kind 1; padding
    8 ∷ 0 ∷ 12 ∷ 0 ∷ 4 ∷ 0 ∷ 8 ∷ 0 ∷  -- vtable of 8 bytes, inline 12; rows at 4, names at 8
    8 ∷ 0 ∷ 0 ∷ 0 ∷  -- table of an array: its vtable is 8 before it
    []

-- the header of an array behind the number of rows: one name, vortex.primitive
abbrev pub header_rest : List ℕ
header_rest =
    8 ∷ 0 ∷ 0 ∷ 0 ∷ 0 ∷ 0 ∷ 0 ∷ 0 ∷  -- names, 8 further on; padding
    1 ∷ 0 ∷ 0 ∷ 0 ∷  -- one name
    4 ∷ 0 ∷ 0 ∷ 0 ∷  -- its text, 4 further on
    16 ∷ 0 ∷ 0 ∷ 0 ∷  -- 16 bytes
    118 ∷ 111 ∷ 114 ∷ 116 ∷ 101 ∷ 120 ∷ 46 ∷  -- vortex.
    112 ∷ 114 ∷ 105 ∷ 109 ∷ 105 ∷ 116 ∷ 105 ∷ 118 ∷ 101 ∷  -- primitive
    0 ∷ 0 ∷ 0 ∷ 0 ∷  -- the NUL of the text; padding
    []

-- the flat buffer of a primitive array up to the length of its one buffer
abbrev pub flat_to_length : List ℕ
flat_to_length =
    16 ∷ 0 ∷ 0 ∷ 0 ∷ 0 ∷ 0 ∷ 0 ∷ 0 ∷  -- place of the root; padding
    8 ∷ 0 ∷ 12 ∷ 0 ∷ 4 ∷ 0 ∷ 8 ∷ 0 ∷  -- vtable of 8 bytes, inline 12; node at 4, descriptors at 8
    8 ∷ 0 ∷ 0 ∷ 0 ∷  -- the root: its vtable is 8 before it
    28 ∷ 0 ∷ 0 ∷ 0 ∷  -- node, 28 further on
    72 ∷ 0 ∷ 0 ∷ 0 ∷ 0 ∷ 0 ∷ 0 ∷ 0 ∷  -- descriptors, 72 further on; padding
    12 ∷ 0 ∷ 18 ∷ 0 ∷  -- vtable of 12 bytes, inline part of 18
    16 ∷ 0 ∷ 4 ∷ 0 ∷ 8 ∷ 0 ∷ 12 ∷ 0 ∷  -- encoding at 16, metadata 4, children 8, buffers 12
    0 ∷ 0 ∷ 0 ∷ 0 ∷  -- padding
    16 ∷ 0 ∷ 0 ∷ 0 ∷  -- node: its vtable is 16 before it
    20 ∷ 0 ∷ 0 ∷ 0 ∷  -- metadata, 20 further on
    24 ∷ 0 ∷ 0 ∷ 0 ∷  -- children, 24 further on
    28 ∷ 0 ∷ 0 ∷ 0 ∷  -- buffers, 28 further on
    0 ∷ 0 ∷ 0 ∷ 0 ∷ 0 ∷ 0 ∷ 0 ∷ 0 ∷  -- encoding 0; padding
    0 ∷ 0 ∷ 0 ∷ 0 ∷ 0 ∷ 0 ∷ 0 ∷ 0 ∷  -- no metadata; padding
    0 ∷ 0 ∷ 0 ∷ 0 ∷ 0 ∷ 0 ∷ 0 ∷ 0 ∷  -- no children; padding
    1 ∷ 0 ∷ 0 ∷ 0 ∷ 0 ∷ 0 ∷ 0 ∷ 0 ∷  -- one buffer, of descriptor 0
    1 ∷ 0 ∷ 0 ∷ 0 ∷  -- one descriptor
    0 ∷ 0 ∷ 0 ∷ 0 ∷  -- its padding 0, alignment exponent 0, compression 0
    []

-- the rest of the flat buffer of a primitive array, and its length, which is 112
abbrev pub flat_rest : List ℕ
flat_rest =
    0 ∷ 0 ∷ 0 ∷ 0 ∷  -- padding
    112 ∷ 0 ∷ 0 ∷ 0 ∷  -- length of the flat buffer
    []

-- the length and the header: of how many rows, and how long a body
abbrev pub array_header : ℕ → ℕ → List ℕ
array_header rows size =
    header_to_size ++ (to_le_bytes w64 size
    ++ (header_to_rows ++ (to_le_bytes w32 rows ++ header_rest)))

-- the flat buffer for a region of that length, and its length
abbrev pub body_end : ℕ → List ℕ
body_end len = flat_to_length ++ (to_le_bytes w32 len ++ flat_rest)

-- the message of a primitive array, whose rows are the region
abbrev pub array_message : List ℕ → List ℕ
array_message region =
    array_header (length region / 8) (length region + 116) ++ (region ++ body_end (length region))

-- the bytes are the messages of these arrays, one after another, and each region is the rows, 8
-- bytes each
abbrev pub AreLaidOut : List ℕ → List (List ℤ) → Type 0
AreLaidOut bytes [] = bytes ≡ []
AreLaidOut bytes (rows ∷ arrays) =
    (region : List ℕ) × (rest : List ℕ)
    × (bytes ≡ array_message region ++ rest)
    × (length region ≡ 8 * length rows)
    × (i64_values (length rows) region ≡ rows)
    × AreLaidOut rest arrays

-- the bytes are the message of the type, and then the messages of these arrays
abbrev pub IsLaidOut : List ℕ → List (List ℤ) → Type 0
IsLaidOut output arrays = (tail : List ℕ) × (output ≡ type_message ++ tail) × AreLaidOut tail arrays
