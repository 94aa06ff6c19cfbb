-- When the rows at places are too much for an array.
--     HoldsMuch      an array of these rows has more than 4,294,967,295 rows or bytes in one of its nodes
--     Repeats        a place stands twice
--     RefusesTake    why rows at places are not taken
use Rattle.std.specs.Prelude.{◌≡◌, ◌<◌, ◌*◌, ◌⊎◌, ℕ, List, [], ◌∷◌, map, length}
use Rattle.std.specs.List.{AllByRecursion, flat_map, sum_by}
use Rattle.vortex_terms.specs.Term.{Term, utf8, binary, structure, list, extension, fixed_size_list, Fields, field}
use Rattle.vortex_terms.specs.Row.{Row, list_row, rows_from}
use Rattle.vortex_terms.specs.Fits.{Fits}
use Rattle.vortex_terms.specs.Parts.{byte_count, inner_rows}
use Rattle.vortex_terms.specs.FromColumns.{masked, struct_rows}
use Rattle.vortex_node_rows.specs.Pieces.{chunks}
use Rattle.vortex_node_rows.specs.RowsOf.{most_rows, Validity}
use Rattle.vortex_leaves.specs.Selected.{taken_rows}
use Rattle.vortex_array_data.specs.declared.error.ArrayError.{ArrayError}
use Rattle.vortex_array_data.specs.declared.error.ArrayError.TheVariants.{OutOfMemory, TooLarge}

-- n rows of the type
abbrev pub AreRows : ℕ → Term → List Row → Type 0
AreRows n t rs = (length rs ≡ n) × AllByRecursion (Fits t) rs

-- the rows, or what is in them where it stands in an array, are more than a node holds: a null text has no bytes and a
-- null list no elements. Fields of a null struct and elements of a null list of one size are not seen: those that there
-- may be
abbrev mutual
  pub HoldsMuch : Term → List Row → Type 0
  HoldsMuch (utf8 nl) rs = (most_rows < length rs) ⊎ (most_rows < sum_by byte_count rs)
  HoldsMuch (binary nl) rs = (most_rows < length rs) ⊎ (most_rows < sum_by byte_count rs)
  HoldsMuch (list t nl) rs = (most_rows < length rs) ⊎ HoldsMuch t (flat_map inner_rows rs)
  HoldsMuch (structure fs nl) rs =
      (most_rows < length rs)
      ⊎ ((v : Validity) × ((columns : List (List Row)) × ((rs ≡ masked v (struct_rows (length rs) columns)) × FieldsHoldMuch (length rs) fs columns)))
  HoldsMuch (extension id t x) rs = HoldsMuch t rs
  HoldsMuch (fixed_size_list t k nl) rs =
      (most_rows < length rs)
      ⊎ ((v : Validity) × ((es : List Row) × ((rs ≡ masked v (map (λ rs. list_row (rows_from rs)) (chunks k (length rs) es))) × AreRows (length rs * k) t es × HoldsMuch t es)))
  HoldsMuch t rs = most_rows < length rs

  -- a column of n rows of its field's type does
  pub FieldsHoldMuch : ℕ → Fields → List (List Row) → Type 0
  FieldsHoldMuch n (field x t fs) (rs ∷ columns) = (AreRows n t rs × HoldsMuch t rs) ⊎ FieldsHoldMuch n fs columns
  FieldsHoldMuch n _ _ = ⊥

-- the place is one of these
abbrev pub StandsIn : ℕ → List ℕ → Type 0
StandsIn p [] = ⊥
StandsIn p (q ∷ qs) = (p ≡ q) ⊎ StandsIn p qs

-- a place stands twice
abbrev pub Repeats : List ℕ → Type 0
Repeats [] = ⊥
Repeats (p ∷ ps) = StandsIn p ps ⊎ Repeats ps

-- there are more places than an array has rows, or one stands twice
abbrev pub MayPass : List ℕ → Type 0
MayPass places = (most_rows < length places) ⊎ Repeats places

-- memory lacks, or the rows are too much
abbrev pub RefusesTake : List ℕ → Term → List Row → ArrayError → Type 0
RefusesTake places t rows e =
    (e ≡ OutOfMemory) ⊎ ((e ≡ TooLarge) × (MayPass places × HoldsMuch t (taken_rows places rows)))
