-- What is written for a value.
--     value_bytes         the message of a value
--     as_read             the value that is read from it: a number keeps its sign and not its width, and a decimal is
--         its bytes
use Rattle.std.specs.Prelude.{ℕ, suc, ◌*◌, ℤ, pos, negsuc, Bool, true, false, List, [], ◌++◌, unsigned_abs, if◌then◌else◌}
use Rattle.vortex_number.specs.Format.{bytes_of}
use Rattle.vortex_value.specs.DecimalValue.{decimal_format}
use Rattle.vortex_value.specs.declared.decimal.DecimalValueType.{DecimalValueType}
use Rattle.vortex_wire.specs.Field.{bytes_field, varint_field}
use Rattle.vortex_terms.specs.Term.{WholeKind, unsigned_8, unsigned_16, unsigned_32, unsigned_64, signed_8, signed_16, signed_32, signed_64}
use Rattle.vortex_scalar_value.specs.Value.{ValueTerm, null_value, truth_value, whole_value, decimal_value, bytes_value, text_value, list_value, ValueTerms, no_values, value}
use Rattle.vortex_scalar_value.specs.declared.schema.TheConstants.{NULL, BOOL, INT64, UINT64, STRING, BYTES, LIST, LIST_VALUES}

-- numbers in zigzag: 0, -1, 1, -2, 2 and so on
abbrev pub zigzag : ℤ → ℕ
zigzag (pos n) = 2 * n
zigzag (negsuc n) = suc (2 * n)

-- whether numbers of the kind have a sign
abbrev pub has_sign : WholeKind → Bool
has_sign unsigned_8 = false
has_sign unsigned_16 = false
has_sign unsigned_32 = false
has_sign unsigned_64 = false
has_sign signed_8 = true
has_sign signed_16 = true
has_sign signed_32 = true
has_sign signed_64 = true

-- the bytes of a decimal, the lowest first
abbrev pub decimal_bytes : DecimalValueType → ℤ → List ℕ
decimal_bytes w z = bytes_of (decimal_format w) z

abbrev mutual
  pub value_bytes : ValueTerm → List ℕ
  value_bytes null_value = varint_field NULL 0
  value_bytes (truth_value b) = varint_field BOOL (if b then 1 else 0)
  value_bytes (whole_value k z) =
      if has_sign k then varint_field INT64 (zigzag z) else varint_field UINT64 (unsigned_abs z)
  value_bytes (decimal_value w z) = bytes_field BYTES (decimal_bytes w z)
  value_bytes (bytes_value bs) = bytes_field BYTES bs
  value_bytes (text_value bs) = bytes_field STRING bs
  value_bytes (list_value vs) = bytes_field LIST (values_bytes vs)

  -- the message of a list
  pub values_bytes : ValueTerms → List ℕ
  values_bytes no_values = []
  values_bytes (value v vs) = bytes_field LIST_VALUES (value_bytes v) ++ values_bytes vs

abbrev mutual
  pub as_read : ValueTerm → ValueTerm
  as_read null_value = null_value
  as_read (truth_value b) = truth_value b
  as_read (whole_value k z) = whole_value (if has_sign k then signed_64 else unsigned_64) z
  as_read (decimal_value w z) = bytes_value (decimal_bytes w z)
  as_read (bytes_value bs) = bytes_value bs
  as_read (text_value bs) = text_value bs
  as_read (list_value vs) = list_value (all_as_read vs)

  pub all_as_read : ValueTerms → ValueTerms
  all_as_read no_values = no_values
  all_as_read (value v vs) = value (as_read v) (all_as_read vs)
