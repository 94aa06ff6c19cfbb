-- Rows that are all alike.
--     are_even, is_even       all truth values are the same; a mask hides all rows or none
--     AreAlike                all rows are one row
--     AllAlike                the rows of each column are
use Rattle.std.specs.Prelude.{◌≡◌, ◌||◌, not, Bool, true, List, [], ◌∷◌, Some, None, length}
use Rattle.std.specs.List.{list_all}
use Rattle.vortex_terms.specs.Row.{Row, copies}
use Rattle.vortex_node_rows.specs.RowsOf.{Validity}
use Rattle.vortex_array_data.specs.Column.{Column}

-- all truth values are the same
abbrev pub are_even : List Bool → Bool
are_even m = list_all (λ b. b) m || list_all not m

-- a mask hides all rows or none
abbrev pub is_even : Validity → Bool
is_even None = true
is_even (Some m) = are_even m

-- all rows are one row
abbrev pub AreAlike : List Row → Type 0
AreAlike rs = (r : Row) × (rs ≡ copies (length rs) r)

-- the rows of each column are one row
abbrev pub AllAlike : List Column → Type 0
AllAlike [] = Unit {0}
AllAlike (c ∷ cs) = AreAlike c.rows × AllAlike cs
