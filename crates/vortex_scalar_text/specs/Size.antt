-- How many bytes a row takes in memory, apart from what holds it.
--     byte_size        of a row of a type
--     in_usize         a number, where a usize can be it
use Rattle.std.specs.Prelude.{ℕ, ◌+◌, ◌^◌, nat_le, nat_lt, length, Option, Some, None, if◌then◌else◌, sum_by}
use Rattle.vortex_number.specs.PType.{byte_width_of}
use Rattle.vortex_number.specs.WholeKind.{ptype_of}
use Rattle.vortex_terms.specs.Term.{Term, null, boolean, primitive, decimal, utf8, binary, structure, list, extension, fixed_size_list, Fields, field}
use Rattle.vortex_terms.specs.Row.{Row, bytes_row, list_row, Rows, no_rows, row, row_list}

-- up to 38 digits a decimal takes 16 bytes, and else 32
abbrev pub decimal_size : ℕ → ℕ
decimal_size precision = if nat_le precision 38 then 16 else 32

-- how many bytes a row is
abbrev pub bytes_count : Row → ℕ
bytes_count (bytes_row bs) = length bs
bytes_count _ = 0

-- the rows inside a row
abbrev pub inner_rows : Row → Rows
inner_rows (list_row rs) = rs
inner_rows _ = no_rows

-- Null takes nothing, and of other types that hold no rows null takes as much as another row. A text, bytes, a list
-- and a struct take what is in them, and nothing where they are null.
abbrev mutual
  pub byte_size : Term → Row → ℕ
  byte_size null r = 0
  byte_size (boolean n) r = 1
  byte_size (primitive k n) r = byte_width_of (ptype_of k)
  byte_size (decimal p s n) r = decimal_size p
  byte_size (utf8 n) r = bytes_count r
  byte_size (binary n) r = bytes_count r
  byte_size (structure fs n) r = field_sizes fs (inner_rows r)
  byte_size (list t n) r = sum_by (byte_size t) (row_list (inner_rows r))
  byte_size (extension id t m) r = byte_size t r
  byte_size (fixed_size_list t k n) r = sum_by (byte_size t) (row_list (inner_rows r))

  -- of the fields of a struct together
  pub field_sizes : Fields → Rows → ℕ
  field_sizes (field x t fs) (row r rs) = byte_size t r + field_sizes fs rs
  field_sizes _ _ = 0

-- the number, where it is below 2 to the 64th
abbrev pub in_usize : ℕ → Option ℕ
in_usize n = if nat_lt n (2 ^ 64) then Some n else None
