-- The scalars that are made of types and values.
--     typed             a row under a type
--     scalar_of         the scalar of a type and a value that fits it
--     IsScalarOf        what an answer says of it
--     text_scalar       the scalar of a text
--     rows_inside       the rows of scalars inside a list
use Rattle.std.specs.Prelude.{◌≡◌, ℕ, Bool, List, map, Some, Result, Ok, Err, unwrap_or, if◌then◌else◌}
use Rattle.std.specs.Str.{is_utf8}
use Rattle.vortex_terms.specs.Term.{Term, utf8}
use Rattle.vortex_terms.specs.Row.{Row, Rows, null_row, bytes_row, rows_from}
use Rattle.vortex_terms.specs.Fits.{Fits}
use Rattle.vortex_scalar_value.specs.Value.{ValueTerm}
use Rattle.vortex_scalar_value.specs.declared.error.ScalarError.{ScalarError}
use Rattle.vortex_scalar_value.specs.declared.error.ScalarError.TheVariants as error
use Rattle.vortex_value_rows.specs.RowOf.{row_of, fitting_row}
use Rattle.vortex_scalar.specs.ScalarTerm.{ScalarTerm}

-- the row under the type
abbrev pub typed : Term → Row → ScalarTerm
typed t r = record { dtype = t; row = r }

-- the scalar of a type and a value that fits it
abbrev pub scalar_of : Term → ValueTerm → ScalarTerm
scalar_of t v = typed t (unwrap_or (fitting_row t v) null_row)

-- the scalar of this type, whose row is the value's and fits; it is refused exactly where there is no such row
abbrev pub IsScalarOf : Term → ValueTerm → Result ScalarTerm ScalarError → Type 0
IsScalarOf t v (Ok s) = (s.dtype ≡ t) × (row_of t v ≡ Some s.row) × Fits t s.row
IsScalarOf t v (Err e) = (e ≡ error.DoesNotFit) × ((r : Row) → row_of t v ≡ Some r → Fits t r → ⊥)

-- the scalar of bytes that are a text
abbrev pub text_scalar : Bool → List ℕ → Result ScalarTerm ScalarError
text_scalar n bs = if is_utf8 bs then Ok (typed (utf8 n) (bytes_row bs)) else Err error.WrongType

-- the rows of the scalars
abbrev pub rows_inside : List ScalarTerm → Rows
rows_inside scalars = rows_from (map (λ s. s.row) scalars)
