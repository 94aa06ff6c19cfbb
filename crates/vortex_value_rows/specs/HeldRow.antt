-- A row whose parts are values still.
--     rows_inside      the rows of the values inside a value of a type
--     held_row         the row
--     held_form        the place of its form in the order
--     rows_under       the rows of values, and none where a value has no row
use Rattle.std.specs.Prelude.{ℕ, Option, Some}
use Rattle.std.specs.Option.{option_map, option_and_then, unwrap_or}
use Rattle.vortex_terms.specs.Term.{Term}
use Rattle.vortex_terms.specs.Row.{Row, null_row, truth_row, whole_row, bytes_row, list_row, Rows, no_rows}
use Rattle.vortex_scalar_value.specs.Value.{ValueTerms, values_from}
use Rattle.vortex_value_rows.specs.Inside.{InTerm, in_of, in_rows}
use Rattle.vortex_value_rows.specs.declared.row_refs.RowRef.{RowRef}
use Rattle.vortex_value_rows.specs.declared.row_refs.RowRef.TheVariants as refs

abbrev pub rows_inside : Term → ValueTerms → Option Rows
rows_inside t vs = option_and_then (λ c. in_rows c vs) (in_of t)

abbrev pub held_row : Term → RowRef → Option Row
held_row t refs.Null = Some null_row
held_row t (refs.Truth b) = Some (truth_row b)
held_row t (refs.Whole z) = Some (whole_row z)
held_row t (refs.Bytes bs) = Some (bytes_row bs.now)
held_row t (refs.List vs) = option_map list_row (rows_inside t (values_from vs.now))

abbrev pub held_form : RowRef → ℕ
held_form refs.Null = 0
held_form (refs.Truth b) = 1
held_form (refs.Whole z) = 2
held_form (refs.Bytes bs) = 3
held_form (refs.List vs) = 4

abbrev pub rows_under : InTerm → ValueTerms → Rows
rows_under c vs = unwrap_or (in_rows c vs) no_rows
