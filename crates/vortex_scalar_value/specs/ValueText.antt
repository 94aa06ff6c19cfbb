-- How values are printed.
--     value_text       the text of a value, as [1u8,null,"a"]
--     cut_bytes        bytes in hexadecimal, and of more than ten the ends
--     cut_text         a text, and of more than ten characters the ends
use Rattle.std.specs.Prelude.{ℕ, ◌-◌, ◌/◌, ◌%◌, ℤ, false, List, [], ◌∷◌, ◌++◌, codes, length, take, drop, nat_le, if◌then◌else◌}
use Rattle.std.specs.List.{flat_map}
use Rattle.std.specs.Fmt.{digits, signed_decimal}
use Rattle.std.specs.Str.{chars, encode_utf8_all}
use Rattle.vortex_number.specs.PType.{ptype_text}
use Rattle.vortex_number.specs.WholeKind.{ptype_of}
use Rattle.vortex_value.specs.DecimalValue.{decimal_text}
use Rattle.vortex_value.specs.declared.decimal.DecimalValue.{DecimalValue}
use Rattle.vortex_value.specs.declared.decimal.DecimalValue.TheVariants as decimals
use Rattle.vortex_value.specs.declared.decimal.DecimalValueType.{DecimalValueType}
use Rattle.vortex_value.specs.declared.decimal.DecimalValueType.TheVariants as width
use Rattle.vortex_scalar_value.specs.Joined.{joined}
use Rattle.vortex_scalar_value.specs.Value.{ValueTerm, null_value, truth_value, whole_value, decimal_value, bytes_value, text_value, list_value, ValueTerms, no_values, value}

-- the decimal of a width that is this number
abbrev pub decimal_with : DecimalValueType → ℤ → DecimalValue
decimal_with width.I8 z = decimals.I8 z
decimal_with width.I16 z = decimals.I16 z
decimal_with width.I32 z = decimals.I32 z
decimal_with width.I64 z = decimals.I64 z
decimal_with width.I128 z = decimals.I128 z

-- a byte as two lower-case hexadecimal digits
abbrev pub two_digits : ℕ → List ℕ
two_digits b = digits 16 false (b / 16) ++ digits 16 false (b % 16)

-- up to ten bytes, and of more the first five and the last five
abbrev pub cut_bytes : List ℕ → List ℕ
cut_bytes bs =
    if nat_le (length bs) 10 then flat_map two_digits bs
    else flat_map two_digits (take 5 bs) ++ codes ".." ++ flat_map two_digits (drop (length bs - 5) bs)

-- up to ten characters, and of more the first five and the last five
abbrev pub cut_text : List ℕ → List ℕ
cut_text bs =
    if nat_le (length (chars bs)) 10 then bs
    else encode_utf8_all (take 5 (chars bs)) ++ codes ".." ++ encode_utf8_all (drop (length (chars bs) - 5) (chars bs))

abbrev mutual
  pub value_text : ValueTerm → List ℕ
  value_text null_value = codes "null"
  value_text (truth_value b) = if b then codes "true" else codes "false"
  value_text (whole_value k z) = signed_decimal z ++ ptype_text (ptype_of k)
  value_text (decimal_value w z) = decimal_text (decimal_with w z)
  value_text (bytes_value bs) = cut_bytes bs
  value_text (text_value bs) = codes "\"" ++ cut_text bs ++ codes "\""
  value_text (list_value vs) = codes "[" ++ joined (codes ",") (value_texts vs) ++ codes "]"

  -- of each value in a list
  pub value_texts : ValueTerms → List (List ℕ)
  value_texts no_values = []
  value_texts (value v vs) = value_text v ∷ value_texts vs
