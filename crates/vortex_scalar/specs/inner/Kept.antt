-- A list of the values of scalars.
use Rattle.std.specs.Prelude.{◌≡◌, List, [], ◌∷◌, Some}
use Rattle.vortex_terms.specs.Fits.{Fits}
use Rattle.vortex_scalar_value.specs.Value.{ValueTerm, list_value, ValueTerms, no_values, value}
use Rattle.vortex_value_rows.specs.RowOf.{row_of}
use Rattle.vortex_scalar.specs.ScalarTerm.{ScalarTerm}

-- each value has the row of the scalar at its place
abbrev pub AreIn : List ScalarTerm → ValueTerms → Type 0
AreIn [] no_values = Unit {0}
AreIn (s ∷ ss) (value v vs) = (row_of s.dtype v ≡ Some s.row) × Fits s.dtype s.row × AreIn ss vs
AreIn _ _ = ⊥

-- the value is a list of these
abbrev pub IsListOf : List ScalarTerm → ValueTerm → Type 0
IsListOf ss (list_value vs) = AreIn ss vs
IsListOf _ _ = ⊥
