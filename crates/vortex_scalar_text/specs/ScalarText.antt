-- How scalars are printed, of a value that fits the type. Any other value is printed as null. A scalar of times, dates
-- or timestamps is printed as its moment where `temporal_text` has a text.
--     scalar_text          the text of a scalar, as {a: 1i32, b: ["x"]}
--     decimal_in           the width in bits and the number of a decimal's value
--     hex_text             bytes in hexadecimal with a blank between each two
use Rattle.std.specs.Prelude.{ℕ, ◌*◌, ℤ, false, List, [], ◌∷◌, ◌++◌, map, codes, length, Option, Some, None, if◌then◌else◌}
use Rattle.std.specs.Option.{option_map, option_map_or}
use Rattle.std.specs.Str.{is_utf8}
use Rattle.std.specs.Fmt as numbers
use Rattle.std.specs.Fmt.{digits, signed_decimal}
use Rattle.vortex_number.specs.PType.{ptype_text}
use Rattle.vortex_number.specs.WholeKind.{ptype_of}
use Rattle.vortex_value.specs.declared.decimal.DecimalValueType.{DecimalValueType}
use Rattle.vortex_value.specs.declared.decimal.DecimalValueType.TheVariants as width
use Rattle.vortex_terms.specs.Term.{WholeKind, Term, null, boolean, primitive, decimal, utf8, binary, structure, list, extension, fixed_size_list, Fields, field}
use Rattle.vortex_scalar_value.specs.Joined.{joined}
use Rattle.vortex_scalar_value.specs.Value.{ValueTerm, truth_value, whole_value, decimal_value, bytes_value, text_value, list_value, value_list}
use Rattle.vortex_value_rows.specs.RowOf.{number_of_bytes}
use Rattle.vortex_scalar_text.specs.TemporalText.{temporal_text}

abbrev pub null_text : List ℕ
null_text = codes "null"

abbrev pub truth_text : ValueTerm → List ℕ
truth_text (truth_value b) = if b then codes "true" else codes "false"
truth_text _ = null_text

-- the number, and the kind of the type
abbrev pub number_text : WholeKind → ValueTerm → List ℕ
number_text k (whole_value l z) = signed_decimal z ++ ptype_text (ptype_of k)
number_text k _ = null_text

abbrev pub width_bits : DecimalValueType → ℕ
width_bits width.I8 = 8
width_bits width.I16 = 16
width_bits width.I32 = 32
width_bits width.I64 = 64
width_bits width.I128 = 128

-- bytes are a number of that many bytes
abbrev pub decimal_in : ValueTerm → Option (ℕ × ℤ)
decimal_in (decimal_value w z) = Some (width_bits w, z)
decimal_in (bytes_value bs) = option_map (λ z. (length bs * 8, z)) (number_of_bytes bs)
decimal_in _ = None

-- as decimal32(5, precision=10, scale=2)
abbrev pub decimal_start : ℕ × ℤ → List ℕ
decimal_start d = codes "decimal" ++ numbers.decimal d.0 ++ codes "(" ++ signed_decimal d.1

abbrev pub decimal_end : ℕ → ℤ → List ℕ
decimal_end p s = codes ", precision=" ++ numbers.decimal p ++ codes ", scale=" ++ signed_decimal s ++ codes ")"

abbrev pub decimal_text : ℕ → ℤ → ℕ × ℤ → List ℕ
decimal_text p s d = decimal_start d ++ decimal_end p s

-- the bytes of a text
abbrev pub text_in : ValueTerm → Option (List ℕ)
text_in (bytes_value bs) = if is_utf8 bs then Some bs else None
text_in (text_value bs) = Some bs
text_in _ = None

-- the bytes of bytes
abbrev pub bytes_in : ValueTerm → Option (List ℕ)
bytes_in (bytes_value bs) = Some bs
bytes_in (text_value bs) = Some bs
bytes_in _ = None

abbrev pub values_of : ValueTerm → Option (List ValueTerm)
values_of (list_value vs) = Some (value_list vs)
values_of _ = None

-- each byte in lower-case hexadecimal without leading zeros
abbrev pub hex_text : List ℕ → List ℕ
hex_text bs = joined (codes " ") (map (digits 16 false) bs)

abbrev pub quoted : List ℕ → List ℕ
quoted text = codes "\"" ++ text ++ codes "\""

abbrev mutual
  pub scalar_text : Term → ValueTerm → List ℕ
  scalar_text null v = null_text
  scalar_text (boolean n) v = truth_text v
  scalar_text (primitive k n) v = number_text k v
  scalar_text (decimal p s n) v = option_map_or (decimal_text p s) (decimal_in v) null_text
  scalar_text (utf8 n) v = option_map_or quoted (text_in v) null_text
  scalar_text (binary n) v = option_map_or (λ bs. quoted (hex_text bs)) (bytes_in v) null_text
  scalar_text (structure fs n) v =
      option_map_or (λ vs. codes "{" ++ joined (codes ", ") (field_texts fs vs) ++ codes "}") (values_of v) null_text
  scalar_text (list t n) v =
      option_map_or (λ vs. codes "[" ++ joined (codes ", ") (map (scalar_text t) vs) ++ codes "]") (values_of v) null_text
  scalar_text (extension id t m) v =
      option_map_or (λ text. text) (temporal_text id t m v) (id ++ codes "(" ++ scalar_text t v ++ codes ")")
  scalar_text (fixed_size_list t k n) v =
      option_map_or (λ vs. codes "fixed_size<" ++ numbers.decimal k ++ codes ">[" ++ joined (codes ", ") (map (scalar_text t) vs) ++ codes "]")
      (values_of v) null_text

  -- each field as a: 1i32
  pub field_texts : Fields → List ValueTerm → List (List ℕ)
  field_texts (field x t fs) (v ∷ vs) = (x ++ codes ": " ++ scalar_text t v) ∷ field_texts fs vs
  field_texts _ _ = []
