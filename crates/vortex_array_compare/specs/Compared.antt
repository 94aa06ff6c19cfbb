-- What comparing each row of an array with a scalar answers.
--     compared_row, compared_rows     the truth value of a row, and null where either is null
--     IsCompared                      the array that is answered
--     refusal_of                      why none is
--     has_true                        a row is true
use Rattle.std.specs.Prelude.{◌≡◌, ◌||◌, Bool, List, map, if◌then◌else◌}
use Rattle.std.specs.List.{list_any}
use Rattle.vortex_terms.specs.Term.{Term, boolean}
use Rattle.vortex_terms.specs.Types.{nullable}
use Rattle.vortex_terms.specs.Equality.{is_same}
use Rattle.vortex_terms.specs.Row.{Row, null_row, truth_row, is_null}
use Rattle.vortex_terms.specs.Order.{row_cmp}
use Rattle.vortex_value.specs.Operator.{bears}
use Rattle.vortex_value.specs.declared.operator.Operator.{Operator}
use Rattle.vortex_scalar.specs.ScalarTerm.{ScalarTerm}
use Rattle.vortex_node_rows.specs.RowsOf.{truth_of}
use Rattle.vortex_array_data.specs.Column.{Column}
use Rattle.vortex_array_data.specs.declared.error.ArrayError.{ArrayError}
use Rattle.vortex_array_data.specs.declared.error.ArrayError.TheVariants.{OutOfMemory, TypeMismatch}

-- whether the relation holds of row r and s, and null where one of them is
abbrev pub compared_row : Operator → Row → Row → Row
compared_row operator s r = if is_null s || is_null r then null_row else truth_row (bears operator (row_cmp r s))

abbrev pub compared_rows : Operator → Row → List Row → List Row
compared_rows operator s rs = map (compared_row operator s) rs

-- truth values, nullable where the array or the scalar is, one for each row of the array
pub record IsCompared (operator : Operator) (a : Column) (s : ScalarTerm) (answer : Column) : Type 0 where
  pub dtype : answer.dtype ≡ boolean (nullable a.dtype || nullable s.dtype)
  pub rows : answer.rows ≡ compared_rows operator s.row a.rows

-- types that differ apart from nullability are refused, and else memory lacked
abbrev pub refusal_of : Term → Term → ArrayError
refusal_of t u = if is_same t u then OutOfMemory else TypeMismatch

-- a row is true
abbrev pub has_true : List Row → Bool
has_true rs = list_any truth_of rs
