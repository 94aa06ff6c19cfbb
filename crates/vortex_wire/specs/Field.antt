-- The fields of a message: `field_at`, `fields_of`, `varint_field`, `bytes_field`.
-- The wire format is that of Protocol Buffers, without groups.
use Rattle.std.specs.Prelude.{ℕ, zero, suc, ◌+◌, ◌*◌, ◌/◌, ◌%◌, ◌^◌, ◌==◌, ◌||◌, List, [], ◌∷◌}
use Rattle.std.specs.Prelude.{◌++◌, length, take, drop, Option, Some, None, option_map, unwrap_or}
use Rattle.std.specs.Prelude.{Result, Ok, Err, nat_lt, nat_le, if◌then◌else◌}
use Rattle.std.specs.Option.{ok_or}
use Rattle.std.specs.Int.{w32, w64, from_le_bytes}
use Rattle.vortex_wire.specs.declared.error.WireError.{WireError}
use Rattle.vortex_wire.specs.declared.error.WireError.TheVariants.{Malformed}
use Rattle.vortex_wire.specs.declared.field.WireField.{WireField}
use Rattle.vortex_wire.specs.declared.field.WireValue.{WireValue}
use Rattle.vortex_wire.specs.declared.field.WireValue.TheVariants as wire
use Rattle.vortex_prelude.specs.Chain.{◌>>=◌}
use Rattle.vortex_wire.specs.Varint.{varint_at, varint}

-- what a field holds: a varint, eight bytes, a length and so many bytes, or four bytes
pub data Content : Type 0 where
  Varint : ℕ → Content
  Eight : ℕ → Content
  Bytes : List ℕ → Content
  Four : ℕ → Content

-- a field of a message
pub record Field : Type 0 where
  pub number : ℕ
  pub content : Content

-- what a field holds, without where its bytes lie in memory
abbrev pub content_of : WireValue → Content
content_of (wire.Varint n) = Varint n
content_of (wire.Eight n) = Eight n
content_of (wire.Bytes bytes) = Bytes bytes.now
content_of (wire.Four n) = Four n

-- a field of a message as it was read, without where its bytes lie in memory
abbrev pub field_of : WireField → Field
field_of f = record { number = f.number; content = content_of f.value }

-- the next n bytes, and the bytes after them
unfoldable pub bytes_at : ℕ → List ℕ → Option (List ℕ × List ℕ)
bytes_at n bytes = if nat_lt (length bytes) n then None else Some (take n bytes, drop n bytes)

-- The content of a wire type, and the bytes after it. Wire types 3 and 4, the ends of a group, and
-- all others stand for no content.
unfoldable pub content_at : ℕ → List ℕ → Option (Content × List ℕ)
content_at zero bytes = do
  number ← varint_at bytes
  Some (Varint number.0, number.1)
content_at (suc zero) bytes = do
  eight ← bytes_at 8 bytes
  Some (Eight (from_le_bytes w64 eight.0), eight.1)
content_at (suc (suc zero)) bytes = do
  size ← varint_at bytes
  text ← bytes_at size.0 size.1
  Some (Bytes text.0, text.1)
content_at (suc (suc (suc (suc (suc zero))))) bytes = do
  four ← bytes_at 4 bytes
  Some (Four (from_le_bytes w32 four.0), four.1)
content_at wire_type bytes = None

-- A key is a varint: eight times the number of the field, from 1 to 536,870,911, and a wire type.
abbrev pub field_number : ℕ → Option ℕ
field_number n = if (n == 0) || nat_le (2 ^ 29) n then None else Some n

-- The field with which the bytes begin, and the bytes after it.
unfoldable pub field_at : List ℕ → Option (Field × List ℕ)
field_at bytes = do
  key ← varint_at bytes
  number ← field_number (key.0 / 8)
  content ← content_at (key.0 % 8) key.1
  Some (record { number = number; content = content.0 }, content.1)

-- The fields of which the bytes wholly consist, of which there are at most `most`.
unfoldable pub fields_in : ℕ → List ℕ → Option (List Field)
fields_in most [] = Some []
fields_in zero (b ∷ bytes) = None
fields_in (suc most) (b ∷ bytes) = do
  first ← field_at (b ∷ bytes)
  others ← fields_in most first.1
  Some (first.0 ∷ others)

-- The fields of a message, None where its bytes are no fields. Each field has a byte at least.
unfoldable pub fields_of : List ℕ → Option (List Field)
fields_of bytes = fields_in (length bytes) bytes

-- what a reader that stands before these bytes gives next
abbrev pub next_of : List ℕ → Option (Result Field WireError)
next_of [] = None
next_of (b ∷ bytes) = Some (ok_or (option_map (λ f. f.0) (field_at (b ∷ bytes))) Malformed)

-- the bytes that are left once a field was given: none after a fault
abbrev pub left_of : List ℕ → List ℕ
left_of bytes = unwrap_or (option_map (λ f. f.1) (field_at bytes)) []

-- a field that was read, seen without where its bytes lie in memory
abbrev pub seen : Option (Result WireField WireError) → Option (Result Field WireError)
seen None = None
seen (Some (Ok f)) = Some (Ok (field_of f))
seen (Some (Err e)) = Some (Err e)

-- what was read, and then these fields
abbrev pub then_fields : Option (Result WireField WireError) → Option (List Field)
    → Option (List Field)
then_fields None fields = Some []
then_fields (Some (Ok f)) fields = option_map (λ others. field_of f ∷ others) fields
then_fields (Some (Err e)) fields = None

-- the bytes of a field that holds a varint
unfoldable pub varint_field : ℕ → ℕ → List ℕ
varint_field number n = varint (8 * number) ++ varint n

-- the bytes of a field that holds bytes
unfoldable pub bytes_field : ℕ → List ℕ → List ℕ
bytes_field number bytes = varint (8 * number + 2) ++ varint (length bytes) ++ bytes
