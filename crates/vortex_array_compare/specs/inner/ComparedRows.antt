-- How rows of columns compare with values, row by row.
--     row_in               the row at a place
--     known_row            whether neither row is null
--     row_truth            and the relation holds of them
--     known_rows, row_truths      the same of each row
--     leaf_cmp             how a row that is no list compares with one whose parts are values still
--     rows_at              the rows of columns at a place
--     rows_beside          the rows that values are, each under the type of a column
--     HaveRows             each of them is one
use Rattle.std.specs.Prelude.{◌&&◌, ◌||◌, ℕ, not, Bool, List, [], ◌∷◌, map, slice_index_or}
use Rattle.std.specs.Option.{IsSome}
use Rattle.std.specs.declared.cmp.Ordering.{Ordering}
use Rattle.std.specs.Ordering.{nat_cmp, int_cmp, bool_cmp}
use Rattle.std.specs.Cmp.Lexicographic.{slice_cmp}
use Rattle.vortex_terms.specs.Row.{Row, null_row, truth_row, whole_row, bytes_row, Rows, no_rows, row, form_of, is_null}
use Rattle.vortex_terms.specs.Order.{row_cmp, form_number}
use Rattle.vortex_value.specs.Operator.{bears}
use Rattle.vortex_value.specs.declared.operator.Operator.{Operator}
use Rattle.vortex_scalar_value.specs.Value.{ValueTerm}
use Rattle.vortex_value_rows.specs.RowOf.{row_of, row_under}
use Rattle.vortex_value_rows.specs.HeldRow.{held_form}
use Rattle.vortex_value_rows.specs.declared.row_refs.RowRef.{RowRef}
use Rattle.vortex_value_rows.specs.declared.row_refs.RowRef.TheVariants as refs
use Rattle.vortex_array_data.specs.Column.{Column}

-- the row at a place
abbrev pub row_in : List Row → ℕ → Row
row_in rs i = slice_index_or rs i null_row

-- neither row is null
abbrev pub known_row : Row → Row → Bool
known_row s r = not (is_null s || is_null r)

abbrev pub known_rows : Row → List Row → List Bool
known_rows s rs = map (known_row s) rs

-- neither row is null, and the relation holds of r and s
abbrev pub row_truth : Operator → Row → Row → Bool
row_truth operator s r = known_row s r && bears operator (row_cmp r s)

abbrev pub row_truths : Operator → Row → List Row → List Bool
row_truths operator s rs = map (row_truth operator s) rs

-- how a row that is no list compares with one whose parts are values still
abbrev pub leaf_cmp : Row → RowRef → Ordering
leaf_cmp (truth_row a) (refs.Truth b) = bool_cmp a b
leaf_cmp (whole_row a) (refs.Whole b) = int_cmp a b
leaf_cmp (bytes_row a) (refs.Bytes b) = slice_cmp nat_cmp a b.now
leaf_cmp r x = nat_cmp (form_number (form_of r)) (held_form x)

-- the rows of columns at a place
abbrev pub rows_at : ℕ → List Column → Rows
rows_at i [] = no_rows
rows_at i (c ∷ cs) = row (row_in c.rows i) (rows_at i cs)

-- the rows that values are, each under the type of a column
abbrev pub rows_beside : List Column → List ValueTerm → Rows
rows_beside [] vs = no_rows
rows_beside (c ∷ cs) [] = no_rows
rows_beside (c ∷ cs) (v ∷ vs) = row (row_under c.dtype v) (rows_beside cs vs)

-- each value is a row under the type of its column
abbrev pub HaveRows : List Column → List ValueTerm → Type 0
HaveRows [] [] = Unit {0}
HaveRows [] (v ∷ vs) = ⊥
HaveRows (c ∷ cs) [] = ⊥
HaveRows (c ∷ cs) (v ∷ vs) = IsSome (row_of c.dtype v) × HaveRows cs vs
