-- The default row of a type.
use Rattle.std.specs.Prelude.{pos, false, if◌then◌else◌, []}
use Rattle.vortex_terms.specs.Term.{Term, null, boolean, primitive, decimal, utf8, binary, structure, list, extension, fixed_size_list, Fields, no_fields, field}
use Rattle.vortex_terms.specs.Row.{Row, null_row, truth_row, whole_row, bytes_row, list_row, Rows, no_rows, row, rows_from, copies}

-- null where the type is nullable, else false, 0, no bytes, the empty list, as many defaults as the
-- size, or the fields' defaults
abbrev mutual
  pub default_row : Term → Row
  default_row null = null_row
  default_row (boolean n) = if n then null_row else truth_row false
  default_row (primitive k n) = if n then null_row else whole_row (pos 0)
  default_row (decimal p s n) = if n then null_row else whole_row (pos 0)
  default_row (utf8 n) = if n then null_row else bytes_row []
  default_row (binary n) = if n then null_row else bytes_row []
  default_row (structure fs n) = if n then null_row else list_row (default_rows fs)
  default_row (list t n) = if n then null_row else list_row no_rows
  default_row (extension id t m) = default_row t
  default_row (fixed_size_list t k n) =
      if n then null_row else list_row (rows_from (copies k (default_row t)))

  pub default_rows : Fields → Rows
  default_rows no_fields = no_rows
  default_rows (field x t fs) = row (default_row t) (default_rows fs)
