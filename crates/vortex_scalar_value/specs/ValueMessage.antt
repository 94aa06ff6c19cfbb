-- Which value a message is, by the schema of values over Protocol Buffers (this project's own): a oneof. Fields of
-- numbers above 10 are skipped.
--     1 null, any varint        2 a truth value            3 a signed number, in zigzag       4 a number without a sign
--     7 a text                  8 bytes                    9 a list: a message with 1, repeated values
--     5, 6 and 10 would be floats, which are no values
-- A signed number is one of 64 bits, and so is one without a sign. A decimal is written as its bytes.
use Rattle.std.specs.Prelude.{◌≡◌, ℕ, ◌/◌, ◌%◌, ◌==◌, ℤ, pos, negsuc, List, [], ◌∷◌, Some, if◌then◌else◌}
use Rattle.std.specs.Str.{IsUtf8}
use Rattle.vortex_wire.specs.Field.{Content, Varint, Bytes}
use Rattle.vortex_wire.specs.Message.{only_field, truth}
use Rattle.vortex_wire.specs.Inside.{bytes_fields}
use Rattle.vortex_terms.specs.Term.{unsigned_64, signed_64}
use Rattle.vortex_scalar_value.specs.Value.{ValueTerm, null_value, truth_value, whole_value, decimal_value, bytes_value, text_value, list_value, ValueTerms, no_values, value}
use Rattle.vortex_scalar_value.specs.declared.schema.TheConstants.{FIRST_MEMBER, LAST_MEMBER, NULL, BOOL, INT64, UINT64, STRING, BYTES, LIST, LIST_VALUES}

-- numbers in zigzag: 0, -1, 1, -2, 2 and so on
abbrev pub from_zigzag : ℕ → ℤ
from_zigzag n = if n % 2 == 0 then pos (n / 2) else negsuc (n / 2)

-- the message has one member of the oneof, of this number and with this content
abbrev pub IsMember : List ℕ → ℕ → Content → Type 0
IsMember b number content =
    only_field FIRST_MEMBER LAST_MEMBER b ≡ Some (Some (record { number = number; content = content }))

abbrev mutual
  -- the bytes are a message of this value
  pub IsValueMessage : List ℕ → ValueTerm → Type 0
  IsValueMessage b null_value = (n : ℕ) × IsMember b NULL (Varint n)
  IsValueMessage b (truth_value t) = (n : ℕ) × IsMember b BOOL (Varint n) × (truth n ≡ t)
  IsValueMessage b (whole_value signed_64 z) = (n : ℕ) × IsMember b INT64 (Varint n) × (from_zigzag n ≡ z)
  IsValueMessage b (whole_value unsigned_64 z) = (n : ℕ) × IsMember b UINT64 (Varint n) × (pos n ≡ z)
  IsValueMessage b (whole_value _ z) = ⊥
  IsValueMessage b (decimal_value w z) = ⊥
  IsValueMessage b (text_value bs) = IsMember b STRING (Bytes bs) × IsUtf8 bs
  IsValueMessage b (bytes_value bs) = IsMember b BYTES (Bytes bs)
  IsValueMessage b (list_value vs) = (body : List ℕ) × (parts : List (List ℕ)) × IsMember b LIST (Bytes body)
      × (bytes_fields LIST_VALUES body ≡ Some parts) × AreValueMessages parts vs

  -- these are messages of the values, in order
  pub AreValueMessages : List (List ℕ) → ValueTerms → Type 0
  AreValueMessages [] no_values = Unit {0}
  AreValueMessages (part ∷ parts) (value v vs) = IsValueMessage part v × AreValueMessages parts vs
  AreValueMessages _ _ = ⊥
