-- What the fields of a message hold inside: bytes, texts and messages of their own.
--     bytes_fields      the bytes in all fields of a number, in order
--     texts             the same, each of them a text
--     singular_text, optional_bytes, message      a text, bytes that may be absent, and a message
--     flag, singular_i32      a truth value, and a signed number of 32 bits
use Rattle.std.specs.Prelude.{ℕ, ◌-◌, ◌^◌, ◌==◌, ℤ, pos, negsuc, Bool, List, [], ◌∷◌, Option, Some, None}
use Rattle.std.specs.Prelude.{if◌then◌else◌, nat_lt, filter, unwrap_or, ◌++◌, suc, length, take, drop}
use Rattle.std.specs.List.{list_all, last_or}
use Rattle.std.specs.Str.{is_utf8}
use Rattle.vortex_prelude.specs.Chain.{◌>>=◌}
use Rattle.vortex_wire.specs.Field.{Content, Varint, Eight, Bytes, Four, Field, fields_of, bytes_field, varint_field}
use Rattle.vortex_wire.specs.Message.{singular_u32, singular_varint, truth, singular_field}

-- the bytes that a field holds
abbrev pub bytes_in : Content → Option (List ℕ)
bytes_in (Varint n) = None
bytes_in (Eight n) = None
bytes_in (Bytes bytes) = Some bytes
bytes_in (Four n) = None

-- the bytes in each of these fields, where each holds bytes
unfoldable pub each_bytes : List Field → Option (List (List ℕ))
each_bytes [] = Some []
each_bytes (f ∷ fields) = do
  first ← bytes_in f.content
  others ← each_bytes fields
  Some (first ∷ others)

-- The bytes in the fields of this number, in order. Nothing is found where one of them holds none.
unfoldable pub bytes_fields : ℕ → List ℕ → Option (List (List ℕ))
bytes_fields number bytes = do
  fields ← fields_of bytes
  each_bytes (filter (λ f. f.number == number) fields)

-- the texts in the fields of this number: a text is UTF-8
unfoldable pub texts : ℕ → List ℕ → Option (List (List ℕ))
texts number bytes = do
  found ← bytes_fields number bytes
  if list_all is_utf8 found then Some found else None

-- a text, of several the last, and the empty one where there is none
unfoldable pub singular_text : ℕ → List ℕ → Option (List ℕ)
singular_text number bytes = do
  found ← texts number bytes
  Some (unwrap_or (last_or None found) [])

-- bytes that may be absent, of several the last
unfoldable pub optional_bytes : ℕ → List ℕ → Option (Option (List ℕ))
optional_bytes number bytes = do
  found ← bytes_fields number bytes
  Some (last_or None found)

-- the one of a list
abbrev pub the_one : List (List ℕ) → Option (List ℕ)
the_one [] = None
the_one (one ∷ []) = Some one
the_one (one ∷ more ∷ others) = None

-- a message inside, which must be there, and once
unfoldable pub message : ℕ → List ℕ → Option (List ℕ)
message number bytes = bytes_fields number bytes >>= the_one

-- a flag is true where its varint is not 0, and false where it is missing
unfoldable pub flag : ℕ → List ℕ → Option Bool
flag number bytes = do
  found ← singular_varint number bytes
  Some (truth (unwrap_or found 0))

-- 32 bits as a signed number
abbrev pub signed_32 : ℕ → ℤ
signed_32 n = if nat_lt n (2 ^ 31) then pos n else negsuc (2 ^ 32 - suc n)

-- a signed number of 32 bits is the low ones of its varint, and 0 where it is missing
unfoldable pub singular_i32 : ℕ → List ℕ → Option ℤ
singular_i32 number bytes = do
  found ← singular_u32 number bytes
  Some (signed_32 found)

-- ---- what is written

-- a text is written where it is not empty
abbrev pub text_field : ℕ → List ℕ → List ℕ
text_field number [] = []
text_field number (b ∷ bytes) = bytes_field number (b ∷ bytes)

-- bytes are written where they are there
abbrev pub optional_bytes_field : ℕ → Option (List ℕ) → List ℕ
optional_bytes_field number None = []
optional_bytes_field number (Some bytes) = bytes_field number bytes

-- each is written, also an empty one
unfoldable pub repeated_field : ℕ → List (List ℕ) → List ℕ
repeated_field number [] = []
repeated_field number (x ∷ xs) = bytes_field number x ++ repeated_field number xs

-- a flag is written where it is set
abbrev pub flag_field : ℕ → Bool → List ℕ
flag_field number b = if b then varint_field number 1 else []

-- the 64 bits of a signed number
abbrev pub bits_64 : ℤ → ℕ
bits_64 (pos n) = n
bits_64 (negsuc n) = 2 ^ 64 - suc n

-- a signed number is written where it is not 0, as its 64 bits
abbrev pub signed_field : ℕ → ℤ → List ℕ
signed_field number z = singular_field number (bits_64 z)

-- a message that is written from its end to its start: what was written since it had so many bytes
-- is now in a field
unfoldable pub headed : ℕ → ℕ → List ℕ → List ℕ
headed number before bytes =
    bytes_field number (take (length bytes - before) bytes) ++ drop (length bytes - before) bytes
