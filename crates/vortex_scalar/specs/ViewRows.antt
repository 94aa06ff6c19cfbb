-- What views hold, as rows.
--     or_null            the row of what is there, and null of nothing
--     number_in          the number in a row
--     within             a number, or none for null, where it has a place in a format
--     inverted           a truth value turned over
--     view_of, Shows     the scalar of a type and a value, where the type is of the view's kind
use Rattle.std.specs.Prelude.{◌≡◌, ℤ, Bool, not, Option, Some, None, Result, Ok, Err, ok_or, if◌then◌else◌}
use Rattle.std.specs.Option.{option_map}
use Rattle.vortex_number.specs.Format.{Format, fits}
use Rattle.vortex_terms.specs.Term.{Term}
use Rattle.vortex_terms.specs.Row.{Row, null_row, truth_row, whole_row}
use Rattle.vortex_scalar_value.specs.Value.{ValueTerm}
use Rattle.vortex_scalar_value.specs.declared.error.ScalarError.{ScalarError}
use Rattle.vortex_scalar_value.specs.declared.error.ScalarError.TheVariants as error
use Rattle.vortex_value_rows.specs.RowOf.{fitting_row}
use Rattle.vortex_scalar.specs.ScalarTerm.{ScalarTerm}
use Rattle.vortex_scalar.specs.Made.{typed}

-- the row of what is there, and null of nothing
abbrev pub or_null : {A : Type 0} → (A → Row) → Option A → Row
or_null f None = null_row
or_null f (Some x) = f x

-- the number in a row
abbrev pub number_in : Row → Option ℤ
number_in (whole_row z) = Some z
number_in _ = None

-- the number, or none for null, where it has a place in the format
abbrev pub within : Format → Option ℤ → Option (Option ℤ)
within f None = Some None
within f (Some z) = if fits f z then Some (Some z) else None

-- the other truth value, of the same type; null stays null
abbrev pub inverted : ScalarTerm → ScalarTerm
inverted s = typed s.dtype (inverted_row s.row)
  where
    inverted_row : Row → Row
    inverted_row (truth_row b) = truth_row (not b)
    inverted_row r = r

-- the scalar of a type and a value: a type of another kind is refused first, and then a value that does not fit
abbrev pub view_of : (Term → Bool) → Term → ValueTerm → Result ScalarTerm ScalarError
view_of is_kind t v =
    if is_kind t then ok_or (option_map (typed t) (fitting_row t v)) error.DoesNotFit else Err error.WrongType

-- the answer is this scalar, as a view shows it, or this refusal
abbrev pub Shows : {X : Type 0} → (X → ScalarTerm) → Result X ScalarError → Result ScalarTerm ScalarError → Type 0
Shows view (Ok x) wanted = wanted ≡ Ok (view x)
Shows view (Err e) wanted = wanted ≡ Err e
