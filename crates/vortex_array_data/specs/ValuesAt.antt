-- Values that are rows of columns.
--     AreValuesOf     each is the row at its place
--     AreValuesAt     of columns side by side, each is the row at one place
use Rattle.std.specs.Prelude.{◌≡◌, ℕ, List, [], ◌∷◌, Some, slice_get}
use Rattle.vortex_terms.specs.Term.{Term}
use Rattle.vortex_terms.specs.Row.{Row}
use Rattle.vortex_scalar_value.specs.Value.{ValueTerm}
use Rattle.vortex_value_rows.specs.RowOf.{row_of}
use Rattle.vortex_array_data.specs.Column.{Column}

-- under the type each value is the row at its place
abbrev pub AreValuesOf : Term → List ValueTerm → List Row → Type 0
AreValuesOf t [] [] = Unit {0}
AreValuesOf t (v ∷ vs) (r ∷ rs) = (row_of t v ≡ Some r) × AreValuesOf t vs rs
AreValuesOf t _ _ = ⊥

-- each value is row j of its column
abbrev pub AreValuesAt : ℕ → List Column → List ValueTerm → Type 0
AreValuesAt j [] [] = Unit {0}
AreValuesAt j (c ∷ cs) (v ∷ vs) = (row_of c.dtype v ≡ slice_get c.rows j) × AreValuesAt j cs vs
AreValuesAt j _ _ = ⊥
