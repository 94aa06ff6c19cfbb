-- What a row feeds a hasher. Neither nullability nor the variant in which a value is kept is in it.
--     row_writes, rows_writes      of a row, and of the rows inside a list
use Rattle.std.specs.Prelude.{[], ◌++◌}
use Rattle.std.specs.Hash as fed
use Rattle.std.specs.Hash.{HashWrites}
use Rattle.vortex_terms.specs.Row.{Row, null_row, truth_row, whole_row, bytes_row, list_row, Rows, no_rows, row, row_count}

abbrev mutual
  pub row_writes : Row → HashWrites
  row_writes null_row = fed.u8 0
  row_writes (truth_row b) = fed.u8 1 ++ fed.bool b
  row_writes (whole_row z) = fed.u8 2 ++ fed.i128 z
  row_writes (bytes_row bs) = fed.u8 3 ++ fed.slice fed.u8 bs
  row_writes (list_row rs) = fed.u8 4 ++ fed.usize (row_count rs) ++ rows_writes rs

  pub rows_writes : Rows → HashWrites
  rows_writes no_rows = []
  rows_writes (row r rs) = row_writes r ++ rows_writes rs
