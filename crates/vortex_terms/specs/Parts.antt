-- The columns inside a column, and which columns are too large.
--     columns, column       the columns of a struct's fields
--     parts t rs            the types and rows of the columns directly inside a column
--     passes t rs           whether the column, or one inside it, is too large to be laid out
use Rattle.std.specs.Prelude.{ℕ, ◌+◌, ◌*◌, Bool, false, ◌||◌, nat_lt, List, [], ◌∷◌, ◌++◌, map, length}
use Rattle.std.specs.List.{flat_map, sum_by}
use Rattle.std.specs.Option.{unwrap_or}
use Rattle.vortex_terms.specs.Term.{Term, utf8, binary, structure, list, extension, fixed_size_list, Fields, no_fields, field}
use Rattle.vortex_terms.specs.Row.{Row, bytes_row, list_row, row_list, row_at, copies}
use Rattle.vortex_terms.specs.Default.{default_row}
use Rattle.vortex_terms.specs.Distinct.{distinct}

-- field i of a struct's row, and the default of the field's type for null
abbrev pub field_row : Term → ℕ → Row → Row
field_row t i (list_row rs) = unwrap_or (row_at rs i) (default_row t)
field_row t i _ = default_row t

-- field i, of type t, of each row
abbrev pub column : Term → ℕ → List Row → List Row
column t i rs = map (field_row t i) rs

-- the fields' types and columns, the first field being field i
abbrev pub columns : Fields → ℕ → List Row → List (Term × List Row)
columns no_fields i rs = []
columns (field x t fs) i rs = (t, column t i rs) ∷ columns fs (i + 1) rs

-- the rows inside a list's row, and none for null
abbrev pub inner_rows : Row → List Row
inner_rows (list_row rs) = row_list rs
inner_rows _ = []

-- the rows inside a row of a list of k, and k defaults for null
abbrev pub fixed_inner_rows : Term → ℕ → Row → List Row
fixed_inner_rows t k (list_row rs) = row_list rs
fixed_inner_rows t k _ = copies k (default_row t)

-- the types and rows of the columns directly inside a column
abbrev pub parts : Term → List Row → List (Term × List Row)
parts (structure fs n) rs = columns fs 0 rs
parts (list t n) rs = (t, flat_map inner_rows rs) ∷ []
parts (extension id t m) rs = (t, rs) ∷ []
parts (fixed_size_list t k n) rs = (t, flat_map (fixed_inner_rows t k) rs) ∷ []
parts _ rs = []

-- the columns at each place, one behind the other
abbrev pub parts_append : List (Term × List Row) → List (Term × List Row) → List (Term × List Row)
parts_append (p ∷ ps) (q ∷ qs) = (p.0, p.1 ++ q.1) ∷ parts_append ps qs
parts_append _ _ = []

-- how many bytes the row has
abbrev pub byte_count : Row → ℕ
byte_count (bytes_row bs) = length bs
byte_count _ = 0

-- 16 bytes for each row, and for texts and bytes those of the distinct ones
abbrev pub size_of : Term → List Row → ℕ
size_of (utf8 n) rs = 16 * length rs + sum_by byte_count (distinct rs)
size_of (binary n) rs = 16 * length rs + sum_by byte_count (distinct rs)
size_of _ rs = 16 * length rs

-- the limit on sizes: the greatest number of 32 bits
abbrev pub most_size : ℕ
most_size = 4294967295

-- whether the size is above the limit
abbrev pub is_large : Term → List Row → Bool
is_large t rs = nat_lt most_size (size_of t rs)

-- whether the column, or one inside it, is too large
abbrev mutual
  pub passes : Term → List Row → Bool
  passes (structure fs n) rs = is_large (structure fs n) rs || fields_pass fs 0 rs
  passes (list t n) rs = is_large (list t n) rs || passes t (flat_map inner_rows rs)
  passes (extension id t m) rs = is_large (extension id t m) rs || passes t rs
  passes (fixed_size_list t k n) rs =
      is_large (fixed_size_list t k n) rs || passes t (flat_map (fixed_inner_rows t k) rs)
  passes t rs = is_large t rs

  -- the same of the columns of fields, the first being field i
  pub fields_pass : Fields → ℕ → List Row → Bool
  fields_pass no_fields i rs = false
  fields_pass (field x t fs) i rs = passes t (column t i rs) || fields_pass fs (i + 1) rs
