-- Which row a value is under a type.
--     row_of            the row, where the value has the form of the type's rows
--     row_under         the row, and null where there is none
--     fitting_row       the row, where it fits the type
use Rattle.std.specs.Prelude.{ℕ, ℤ, List, length, Option, Some, None, if◌then◌else◌, ◌==◌}
use Rattle.std.specs.Option.{option_map, unwrap_or}
use Rattle.std.specs.Int.{w8, w16, w32, w64, w128}
use Rattle.vortex_prelude.specs.Chain.{◌>>=◌}
use Rattle.vortex_number.specs.Format.{signed, number_with_bytes}
use Rattle.vortex_terms.specs.Term.{Term, null, boolean, primitive, decimal, utf8, binary, structure, list, extension, fixed_size_list, Fields, no_fields, field}
use Rattle.vortex_terms.specs.Row.{Row, null_row, truth_row, whole_row, bytes_row, list_row, Rows, no_rows, row}
use Rattle.vortex_terms.specs.Tests.{is_fitting}
use Rattle.vortex_scalar_value.specs.Value.{ValueTerm, null_value, truth_value, whole_value, decimal_value, bytes_value, text_value, list_value, ValueTerms, no_values, value}

-- the signed number whose bytes these are, the lowest first: 1, 2, 4, 8 or 16 bytes
abbrev pub number_of_bytes : List ℕ → Option ℤ
number_of_bytes bs =
    if length bs == 1 then Some (number_with_bytes (signed w8) bs)
    else (if length bs == 2 then Some (number_with_bytes (signed w16) bs)
    else (if length bs == 4 then Some (number_with_bytes (signed w32) bs)
    else (if length bs == 8 then Some (number_with_bytes (signed w64) bs)
    else (if length bs == 16 then Some (number_with_bytes (signed w128) bs) else None))))

-- a row and the rows after it, where each is there
abbrev pub row_before : Option Row → Option Rows → Option Rows
row_before (Some r) (Some rs) = Some (row r rs)
row_before _ _ = None

-- the row of each value inside a list
abbrev pub rows_by : (ValueTerm → Option Row) → ValueTerms → Option Rows
rows_by row_of no_values = Some no_rows
rows_by row_of (value v vs) = row_before (row_of v) (rows_by row_of vs)

abbrev mutual
  -- The row that a value is under a type. A number may be of any kind, the bytes of a decimal are its number, a text is
  -- its bytes, a struct is a list of its fields' values, and an extension is its storage.
  pub row_of : Term → ValueTerm → Option Row
  row_of null null_value = Some null_row
  row_of (boolean n) null_value = Some null_row
  row_of (boolean n) (truth_value b) = Some (truth_row b)
  row_of (primitive k n) null_value = Some null_row
  row_of (primitive k n) (whole_value l z) = Some (whole_row z)
  row_of (decimal p s n) null_value = Some null_row
  row_of (decimal p s n) (decimal_value w z) = Some (whole_row z)
  row_of (decimal p s n) (bytes_value bs) = option_map whole_row (number_of_bytes bs)
  row_of (utf8 n) null_value = Some null_row
  row_of (utf8 n) (bytes_value bs) = Some (bytes_row bs)
  row_of (utf8 n) (text_value bs) = Some (bytes_row bs)
  row_of (binary n) null_value = Some null_row
  row_of (binary n) (bytes_value bs) = Some (bytes_row bs)
  row_of (binary n) (text_value bs) = Some (bytes_row bs)
  row_of (structure fs n) null_value = Some null_row
  row_of (structure fs n) (list_value vs) = option_map list_row (field_rows fs vs)
  row_of (list t n) null_value = Some null_row
  row_of (list t n) (list_value vs) = option_map list_row (rows_by (row_of t) vs)
  row_of (extension id t m) v = row_of t v
  row_of (fixed_size_list t k n) null_value = Some null_row
  row_of (fixed_size_list t k n) (list_value vs) = option_map list_row (rows_by (row_of t) vs)
  row_of _ _ = None

  -- the rows of a struct, of as many values as fields
  pub field_rows : Fields → ValueTerms → Option Rows
  field_rows no_fields no_values = Some no_rows
  field_rows (field x t fs) (value v vs) = row_before (row_of t v) (field_rows fs vs)
  field_rows _ _ = None

-- the row that a value is under a type, and null where it is none
abbrev pub row_under : Term → ValueTerm → Row
row_under t v = unwrap_or (row_of t v) null_row

-- the row that a value is under a type that it fits
abbrev pub fitting_row : Term → ValueTerm → Option Row
fitting_row t v = row_of t v >>= λ r. if is_fitting t r then Some r else None
