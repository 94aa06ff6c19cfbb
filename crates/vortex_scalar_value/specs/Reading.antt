-- Which value a reader finds in a message, of so many levels at most.
--     value_in      the value
--     Reader        a reader of the values inside a list: a function of a kind of member takes one
use Rattle.std.specs.Prelude.{ℕ, zero, suc, ◌==◌, pos, List, [], ◌∷◌, Option, Some, None, if◌then◌else◌}
use Rattle.std.specs.Str.{is_utf8}
use Rattle.vortex_prelude.specs.Chain.{◌>>=◌}
use Rattle.vortex_wire.specs.Field.{Content, Varint, Eight, Bytes, Four, Field}
use Rattle.vortex_wire.specs.Message.{only_field, truth}
use Rattle.vortex_wire.specs.Inside.{bytes_fields}
use Rattle.vortex_terms.specs.Term.{unsigned_64, signed_64}
use Rattle.vortex_scalar_value.specs.Value.{ValueTerm, null_value, truth_value, whole_value, bytes_value, text_value, list_value, ValueTerms, no_values, value}
use Rattle.vortex_scalar_value.specs.ValueMessage.{from_zigzag}
use Rattle.vortex_scalar_value.specs.declared.schema.TheConstants.{FIRST_MEMBER, LAST_MEMBER, NULL, BOOL, INT64, UINT64, STRING, BYTES, LIST, LIST_VALUES}

abbrev pub Reader : Type 0
Reader = List ℕ → Option ValueTerm

-- the value of a member that holds a varint
abbrev pub varint_value : ℕ → ℕ → Option ValueTerm
varint_value number n =
    if number == NULL then Some null_value
    else (if number == BOOL then Some (truth_value (truth n))
    else (if number == INT64 then Some (whole_value signed_64 (from_zigzag n))
    else (if number == UINT64 then Some (whole_value unsigned_64 (pos n)) else None)))

-- the values in these messages, in order
unfoldable pub values_in : Reader → List (List ℕ) → Option ValueTerms
values_in read [] = Some no_values
values_in read (part ∷ parts) = do
  first ← read part
  others ← values_in read parts
  Some (value first others)

-- the list in the message of a list
unfoldable pub list_in : Reader → List ℕ → Option ValueTerm
list_in read body = do
  parts ← bytes_fields LIST_VALUES body
  values ← values_in read parts
  Some (list_value values)

-- a text is UTF-8
abbrev pub text_in : List ℕ → Option ValueTerm
text_in bs = if is_utf8 bs then Some (text_value bs) else None

-- the value of a member that holds bytes
abbrev pub inside_value : Reader → ℕ → List ℕ → Option ValueTerm
inside_value read number bs =
    if number == STRING then text_in bs
    else (if number == BYTES then Some (bytes_value bs)
    else (if number == LIST then list_in read bs else None))

-- the value of a member
abbrev pub member_value : Reader → ℕ → Content → Option ValueTerm
member_value read number (Varint n) = varint_value number n
member_value read number (Eight n) = None
member_value read number (Bytes bs) = inside_value read number bs
member_value read number (Four n) = None

-- the member of the oneof
unfoldable pub member_in : List ℕ → Option Field
member_in b = do
  found ← only_field FIRST_MEMBER LAST_MEMBER b
  found

-- the value of a message, where those inside a list are read so
unfoldable pub value_of_message : Reader → Reader
value_of_message read b = do
  member ← member_in b
  member_value read member.number member.content

-- the value of a message, of so many levels at most
unfoldable pub value_in : ℕ → Reader
value_in zero b = None
value_in (suc levels) b = value_of_message (value_in levels) b
