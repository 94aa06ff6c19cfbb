-- What a contract sees of a row: a null, a truth value, a whole number, bytes, or a list of rows.
--     Row, Rows              a row, and the rows inside a list
--     row_list, rows_from    the rows inside a list as a list, and back
--     row_count, row_at      how many there are, and the one at a place
--     is_null, AllRows       a test, and a fact of each row inside a list
--     Form, form_of          the five forms of rows, and that of a row
--     copies                 as many rows alike
-- A struct's row lists its fields' rows. A text's row is its bytes, a decimal's its number without
-- the point, and an extension's that of its storage.
use Rattle.std.specs.Prelude.{ℕ, zero, suc, ℤ, Bool, true, false, List, [], ◌∷◌, replicate, Option, Some, None}

mutual
  pub data Row : Type 0 where
    null_row : Row
    truth_row : Bool → Row
    whole_row : ℤ → Row
    bytes_row : List ℕ → Row
    list_row : Rows → Row

  pub data Rows : Type 0 where
    no_rows : Rows
    row : Row → Rows → Rows

-- the rows inside a list, as a list
abbrev pub row_list : Rows → List Row
row_list no_rows = []
row_list (row r rs) = r ∷ row_list rs

-- the other way
abbrev pub rows_from : List Row → Rows
rows_from [] = no_rows
rows_from (r ∷ rs) = row r (rows_from rs)

-- how many rows there are
abbrev pub row_count : Rows → ℕ
row_count no_rows = 0
row_count (row r rs) = suc (row_count rs)

-- the row at a place
abbrev pub row_at : Rows → ℕ → Option Row
row_at no_rows i = None
row_at (row r rs) zero = Some r
row_at (row r rs) (suc i) = row_at rs i

-- whether the row is null
abbrev pub is_null : Row → Bool
is_null null_row = true
is_null _ = false

-- P holds of each row
abbrev pub AllRows : (Row → Type 0) → Rows → Type 0
AllRows P no_rows = Unit {0}
AllRows P (row r rs) = P r × AllRows P rs

-- the form of a row
pub data Form : Type 0 where
  null_form : Form
  truth_form : Form
  whole_form : Form
  bytes_form : Form
  list_form : Form

abbrev pub form_of : Row → Form
form_of null_row = null_form
form_of (truth_row b) = truth_form
form_of (whole_row z) = whole_form
form_of (bytes_row bs) = bytes_form
form_of (list_row rs) = list_form

-- k rows, each of which is r; it is opened only where it is named, since k may be large
unfoldable pub copies : ℕ → Row → List Row
copies k r = replicate k r
