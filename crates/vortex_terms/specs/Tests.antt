-- Whether a type is legal or bounded, and whether a row fits a type, as truth values: what is said
-- of a list is no proposition, and a type's ghost field must be one.
--     is_decimal, are_bytes      of digits and scale, and of bytes
--     is_legal, is_bounded       of a type
--     is_in_range, is_fitting    of a number and of a row
use Rattle.std.specs.Prelude.{ℕ, ◌^◌, ℤ, pos, negsuc, Bool, true, false, not, ◌&&◌, nat_eq, nat_lt, nat_le, int_le, List}
use Rattle.std.specs.Int.{Width, w8, w16, w32, w64, w128}
use Rattle.std.specs.List.{list_all}
use Rattle.std.specs.Option.{option_map_or}
use Rattle.std.specs.Str.{is_utf8}
use mir.Val.{bits, hbits}
use Rattle.vortex_terms.specs.Term.{WholeKind, unsigned_8, unsigned_16, unsigned_32, unsigned_64, signed_8, signed_16, signed_32, signed_64, Term, null, boolean, primitive, decimal, utf8, binary, structure, list, extension, fixed_size_list, Fields, no_fields, field}
use Rattle.vortex_terms.specs.Types.{is_extension, is_within}
use Rattle.vortex_terms.specs.Row.{Row, null_row, truth_row, whole_row, bytes_row, list_row, Rows, no_rows, row, row_count}

-- whether IsBytes holds
abbrev pub are_bytes : List ℕ → Bool
are_bytes bs = list_all (λ b. nat_lt b 256) bs

-- whether IsDecimal holds
abbrev pub is_decimal : ℕ → ℤ → Bool
is_decimal p s = nat_le 1 p && nat_le p 76 && int_le (negsuc 127) s && int_le s (pos p)

-- whether Legal holds
abbrev mutual
  pub is_legal : Term → Bool
  is_legal null = true
  is_legal (boolean n) = true
  is_legal (primitive k n) = true
  is_legal (decimal p s n) = is_decimal p s
  is_legal (utf8 n) = true
  is_legal (binary n) = true
  is_legal (structure fs n) = are_legal fs
  is_legal (list t n) = is_legal t
  is_legal (extension id t m) =
      is_utf8 id && option_map_or are_bytes m true && not (is_extension t) && is_legal t
  is_legal (fixed_size_list t k n) = nat_lt k (2 ^ 32) && is_legal t

  -- whether LegalFields holds
  pub are_legal : Fields → Bool
  are_legal no_fields = true
  are_legal (field x t fs) = is_utf8 x && is_legal t && are_legal fs

-- whether Bounded holds
abbrev pub is_bounded : Term → Bool
is_bounded t = is_legal t && is_within t

-- whether a signed number of the width is z
abbrev pub is_signed : Width → ℤ → Bool
is_signed w (pos n) = nat_lt n (2 ^ hbits w)
is_signed w (negsuc n) = nat_lt n (2 ^ hbits w)

-- whether an unsigned number of the width is z
abbrev pub is_unsigned : Width → ℤ → Bool
is_unsigned w (pos n) = nat_lt n (2 ^ bits w)
is_unsigned w (negsuc n) = false

-- whether InRange holds
abbrev pub is_in_range : WholeKind → ℤ → Bool
is_in_range unsigned_8 z = is_unsigned w8 z
is_in_range unsigned_16 z = is_unsigned w16 z
is_in_range unsigned_32 z = is_unsigned w32 z
is_in_range unsigned_64 z = is_unsigned w64 z
is_in_range signed_8 z = is_signed w8 z
is_in_range signed_16 z = is_signed w16 z
is_in_range signed_32 z = is_signed w32 z
is_in_range signed_64 z = is_signed w64 z

-- whether each row inside a list passes the test
abbrev pub rows_all : (Row → Bool) → Rows → Bool
rows_all p no_rows = true
rows_all p (row r rs) = p r && rows_all p rs

-- whether Fits holds
abbrev mutual
  pub is_fitting : Term → Row → Bool
  is_fitting null null_row = true
  is_fitting (boolean n) null_row = n
  is_fitting (boolean n) (truth_row b) = true
  is_fitting (primitive k n) null_row = n
  is_fitting (primitive k n) (whole_row z) = is_in_range k z
  is_fitting (decimal p s n) null_row = n
  is_fitting (decimal p s n) (whole_row z) = is_signed w128 z
  is_fitting (utf8 n) null_row = n
  is_fitting (utf8 n) (bytes_row bs) = is_utf8 bs
  is_fitting (binary n) null_row = n
  is_fitting (binary n) (bytes_row bs) = are_bytes bs
  is_fitting (structure fs n) null_row = n
  is_fitting (structure fs n) (list_row rs) = are_fitting fs rs
  is_fitting (list t n) null_row = n
  is_fitting (list t n) (list_row rs) = rows_all (is_fitting t) rs
  is_fitting (extension id t m) r = is_fitting t r
  is_fitting (fixed_size_list t k n) null_row = n
  is_fitting (fixed_size_list t k n) (list_row rs) =
      nat_eq (row_count rs) k && rows_all (is_fitting t) rs
  is_fitting _ _ = false

  -- whether FitsFields holds
  pub are_fitting : Fields → Rows → Bool
  are_fitting no_fields no_rows = true
  are_fitting (field x t fs) (row r rs) = is_fitting t r && are_fitting fs rs
  are_fitting _ _ = false
