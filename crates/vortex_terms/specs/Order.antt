-- How rows compare.
--     row_cmp, rows_cmp      null first, then false before true, numbers by value, bytes and lists
--         as Rust's slices
--     row_eq                 whether two rows are one row
use Rattle.std.specs.Prelude.{ℕ, Bool}
use Rattle.std.specs.declared.cmp.Ordering.{Ordering}
use Rattle.std.specs.declared.cmp.Ordering.TheVariants.{Less, Equal, Greater}
use Rattle.std.specs.Ordering.{nat_cmp, int_cmp, bool_cmp, ordering_then, is_eq}
use Rattle.std.specs.Cmp.Lexicographic.{slice_cmp}
use Rattle.vortex_terms.specs.Row.{Row, truth_row, whole_row, bytes_row, list_row, Rows, no_rows, row, Form, null_form, truth_form, whole_form, bytes_form, list_form, form_of}

-- the place of a form in the order
abbrev pub form_number : Form → ℕ
form_number null_form = 0
form_number truth_form = 1
form_number whole_form = 2
form_number bytes_form = 3
form_number list_form = 4

-- rows of one form by what they hold, and rows of two forms by the form, so that null comes first
abbrev mutual
  pub row_cmp : Row → Row → Ordering
  row_cmp (truth_row a) (truth_row b) = bool_cmp a b
  row_cmp (whole_row a) (whole_row b) = int_cmp a b
  row_cmp (bytes_row a) (bytes_row b) = slice_cmp nat_cmp a b
  row_cmp (list_row rs) (list_row ss) = rows_cmp rs ss
  row_cmp r s = nat_cmp (form_number (form_of r)) (form_number (form_of s))

  -- the first rows that differ decide, and else the shorter list is less
  pub rows_cmp : Rows → Rows → Ordering
  rows_cmp no_rows no_rows = Equal
  rows_cmp no_rows (row s ss) = Less
  rows_cmp (row r rs) no_rows = Greater
  rows_cmp (row r rs) (row s ss) = ordering_then (row_cmp r s) (rows_cmp rs ss)

-- whether two rows are the same
abbrev pub row_eq : Row → Row → Bool
row_eq r s = is_eq (row_cmp r s)
