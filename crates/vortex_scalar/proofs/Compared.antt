-- Rows of values under a type that is known.
use Rattle.std.proofs.Common.{◌≡◌, Some, true, ap, ◌∙◌}
use Rattle.std.specs.Prelude.{unwrap_or}
use Rattle.std.specs.Option.{IsSome, is_some}
use Rattle.vortex_terms.specs.Term.{Term}
use Rattle.vortex_terms.specs.Equality.{is_same}
use Rattle.vortex_terms.specs.EqualityLaws.{is_same-Decides}
use Rattle.vortex_terms.specs.Row.{Row, null_row}
use Rattle.vortex_scalar_value.specs.Value.{ValueTerm}
use Rattle.vortex_value_rows.specs.RowOf.{row_of, row_under, fitting_row}
use Rattle.vortex_value_rows.specs.RowLaws.{row_of-same}
use Rattle.vortex_scalar.specs.Made.{scalar_of}
use Rattle.vortex_scalar.proofs.Rows.{fitted}

-- the row under the type
pub own_row : (t r : Term) (v : ValueTerm) → r ≡ t → IsSome (fitting_row t v) → row_of r v ≡ Some (scalar_of t v).row
own_row t r v e h = ap (λ w. row_of w v) e ∙ (fitted t v h).0

-- and under one that is the same apart from nullability
pub same_row : (t u r : Term) (v : ValueTerm) → r ≡ t → is_same t u ≡ true → IsSome (fitting_row u v) → row_of r v ≡ Some (scalar_of u v).row
same_row t u r v e same h = ap (λ w. row_of w v) e ∙ row_of-same t u v ((is_same-Decides t u).0 same) ∙ (fitted u v h).0

pub has_row : (t : Term) (v : ValueTerm) (r : Row) → row_of t v ≡ Some r → IsSome (row_of t v)
has_row t v r e = ap is_some e

pub under : (t : Term) (v : ValueTerm) (r : Row) → row_of t v ≡ Some r → row_under t v ≡ r
under t v r e = ap (λ o. unwrap_or o null_row) e
