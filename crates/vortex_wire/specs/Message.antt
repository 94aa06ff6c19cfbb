-- The fields of a message by number: `singular_varint`, `singular_u32`, `only_field`.
-- Fields of other numbers are skipped.
use Rattle.std.specs.Prelude.{ℕ, ◌%◌, ◌^◌, ◌==◌, List, [], ◌∷◌, Option, Some, None, Bool, true}
use Rattle.std.specs.Prelude.{false, option_map, unwrap_or, if◌then◌else◌, nat_le, ◌&&◌, filter}
use Rattle.std.specs.Prelude.{Result, Ok, Err}
use Rattle.std.specs.Option.{option_or}
use Rattle.vortex_wire.specs.declared.error.WireError.{WireError}
use Rattle.vortex_wire.specs.declared.field.WireField.{WireField}
use Rattle.vortex_prelude.specs.Chain.{◌>>=◌}
use Rattle.vortex_wire.specs.Field.{Content, Varint, Eight, Bytes, Four, Field, field_of, fields_of}
use Rattle.vortex_wire.specs.Field.{varint_field}

-- the number of a varint
abbrev pub varint_in : Content → Option ℕ
varint_in (Varint n) = Some n
varint_in (Eight n) = None
varint_in (Bytes bytes) = None
varint_in (Four n) = None

-- The varint of a singular field, if it is there: of several the last counts. Nothing is found
-- where a field of this number holds no varint.
unfoldable pub last_varint : ℕ → List Field → Option (Option ℕ)
last_varint number [] = Some None
last_varint number (f ∷ fields) =
    if f.number == number
    then (varint_in f.content >>= λ n.
    last_varint number fields >>= λ later. Some (option_or later (Some n)))
    else last_varint number fields

-- the varint of a singular field of the bytes of a message
unfoldable pub singular_varint : ℕ → List ℕ → Option (Option ℕ)
singular_varint number bytes = fields_of bytes >>= last_varint number

-- a field of 32 bits is the low ones of its varint, and 0 where it is missing
unfoldable pub singular_u32 : ℕ → List ℕ → Option ℕ
singular_u32 number bytes = do
  found ← singular_varint number bytes
  Some (unwrap_or found 0 % 2 ^ 32)

-- a truth value is true where its varint is not 0
abbrev pub truth : ℕ → Bool
truth n = if n == 0 then false else true

-- the truth value of a singular field, if it is there
abbrev pub optional_bool : ℕ → List ℕ → Option (Option Bool)
optional_bool number bytes = do
  found ← singular_varint number bytes
  Some (option_map truth found)

-- a singular number is written where it is not 0
abbrev pub singular_field : ℕ → ℕ → List ℕ
singular_field number n = if n == 0 then [] else varint_field number n

-- an optional truth value is written where it is there
abbrev pub optional_field : ℕ → Option Bool → List ℕ
optional_field number None = []
optional_field number (Some true) = varint_field number 1
optional_field number (Some false) = varint_field number 0

-- ---- members of a oneof, and singular messages

-- whether the number of a field is from `first` to `last`
abbrev pub is_member : ℕ → ℕ → Field → Bool
is_member first last f = nat_le first f.number && nat_le f.number last

-- the only field of a list, if there is one
abbrev pub lone : List Field → Option (Option Field)
lone [] = Some None
lone (f ∷ []) = Some (Some f)
lone (f ∷ g ∷ fields) = None

-- The field with a number from `first` to `last`, if it is there. Nothing is found where there are
-- two.
unfoldable pub only_field : ℕ → ℕ → List ℕ → Option (Option Field)
only_field first last bytes = do
  fields ← fields_of bytes
  lone (filter (is_member first last) fields)

-- a field that was found, seen without where its bytes lie in memory
abbrev pub found : Result (Option WireField) WireError → Result (Option Field) WireError
found (Ok field) = Ok (option_map field_of field)
found (Err e) = Err e
