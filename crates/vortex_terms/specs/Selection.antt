-- Which rows a query keeps.
--     matches              whether a query can be asked of a type
--     is_kept, selected    whether a row is kept; the kept rows, array for array
--     rows_in              how many rows there are
-- A relation is given by the orders at which it holds: whether it holds where a row compares so to
-- the constant.
use Rattle.std.specs.Prelude.{ℕ, Bool, true, false, not, ◌&&◌, List, map, length}
use Rattle.std.specs.declared.cmp.Ordering.{Ordering}
use Rattle.std.specs.Option.{option_map_or}
use Rattle.std.specs.List.{filter, sum_by}
use Rattle.vortex_terms.specs.Term.{Term, boolean, primitive, decimal, utf8, binary}
use Rattle.vortex_terms.specs.Equality.{is_same}
use Rattle.vortex_terms.specs.Row.{Row, is_null}
use Rattle.vortex_terms.specs.Order.{row_cmp}
use Rattle.vortex_terms.specs.Path.{PathPart, target, value_at}

-- whether rows of the type may be compared with a constant
abbrev pub is_comparable : Term → Bool
is_comparable (boolean n) = true
is_comparable (primitive k n) = true
is_comparable (decimal p s n) = true
is_comparable (utf8 n) = true
is_comparable (binary n) = true
is_comparable _ = false

-- whether the path leads to a type that can be compared and is the constant's apart from
-- nullability, and the constant is not null
abbrev pub matches : Term → List PathPart → Term → Row → Bool
matches t path u c =
    option_map_or (λ v. is_comparable v && is_same v u) (target t path) false && not (is_null c)

-- whether the row's value at the path is not null and compares to the constant so that the relation
-- holds
abbrev pub is_kept : Term → List PathPart → (Ordering → Bool) → Row → Row → Bool
is_kept t path holds c r =
    not (is_null (value_at t r path)) && holds (row_cmp (value_at t r path) c)

-- of each array, in order, the rows that are kept, in order
abbrev pub selected : Term → List (List Row) → List PathPart → (Ordering → Bool) → Row
    → List (List Row)
selected t arrays path holds c = map (filter (is_kept t path holds c)) arrays

-- how many rows the arrays have
abbrev pub rows_in : List (List Row) → ℕ
rows_in arrays = sum_by length arrays
