-- Rows that are made from columns.
--     masked            rows, and null where a truth value says so
--     struct_rows       the rows of structs, from a column for each field
--     pieces            the pieces of a list between offsets
--     list_rows         the rows of lists, from offsets and the joined elements
--     AreLong, Rises    columns that have as many rows; offsets that never fall
use Rattle.std.specs.Prelude.{◌≡◌, ◌≤◌, ℕ, Bool, if◌then◌else◌, List, [], ◌∷◌, map, length, replicate, slice_range, Option, Some, None}
use Rattle.std.specs.List.{AllByRecursion}
use Rattle.vortex_terms.specs.Row.{Row, null_row, list_row, Rows, no_rows, row, rows_from}

-- f of the elements at each place that both lists have
abbrev pub zip_map : {A B C : Type 0} → (A → B → C) → List A → List B → List C
zip_map f (x ∷ xs) (y ∷ ys) = f x y ∷ zip_map f xs ys
zip_map f _ _ = []

-- the rows, null where the truth value is false; without truth values none becomes null
abbrev pub masked : Option (List Bool) → List Row → List Row
masked None rs = rs
masked (Some valid) rs = zip_map (λ b r. if b then r else null_row) valid rs

-- of each of n structs the rows inside it, from the columns of the fields
abbrev pub inside_structs : ℕ → List (List Row) → List Rows
inside_structs n [] = replicate n no_rows
inside_structs n (rs ∷ columns) = zip_map row rs (inside_structs n columns)

-- n structs, row i of each field being inside struct i
abbrev pub struct_rows : ℕ → List (List Row) → List Row
struct_rows n columns = map list_row (inside_structs n columns)

-- the pieces between each offset and the next
abbrev pub pieces : {A : Type 0} → List ℕ → List A → List (List A)
pieces (a ∷ (b ∷ offsets)) xs = slice_range xs a b ∷ pieces (b ∷ offsets) xs
pieces _ xs = []

-- lists, whose elements are the pieces of one list
abbrev pub list_rows : List ℕ → List Row → List Row
list_rows offsets elements = map (λ rs. list_row (rows_from rs)) (pieces offsets elements)

-- each column has n rows
abbrev pub AreLong : ℕ → List (List Row) → Type 0
AreLong n columns = AllByRecursion (λ c. length c ≡ n) columns

-- each offset is at least the one before, and the first at least a
abbrev pub Rises : ℕ → List ℕ → Type 0
Rises a [] = Unit {0}
Rises a (b ∷ offsets) = (a ≤ b) × Rises b offsets

-- the last offset, or a where there is none
abbrev pub last_from : ℕ → List ℕ → ℕ
last_from a [] = a
last_from a (b ∷ offsets) = last_from b offsets
