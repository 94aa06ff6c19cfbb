-- A column as a dictionary: each row once, and for each row its place among these.
use Rattle.std.specs.Prelude.{ℕ, suc, not, if◌then◌else◌, List, [], ◌∷◌, map}
use Rattle.std.specs.List.{filter}
use Rattle.vortex_terms.specs.Row.{Row}
use Rattle.vortex_terms.specs.Order.{row_eq}

-- the rows without each that stands earlier
abbrev pub distinct : List Row → List Row
distinct [] = []
distinct (r ∷ rs) = r ∷ filter (λ s. not (row_eq r s)) (distinct rs)

-- the first place of the row in the list, or the list's length
abbrev pub first_place : Row → List Row → ℕ
first_place r [] = 0
first_place r (s ∷ rs) = if row_eq r s then 0 else suc (first_place r rs)

-- for each row its place among the distinct ones
abbrev pub codes_of : List Row → List ℕ
codes_of rs = map (λ r. first_place r (distinct rs)) rs
