-- Rows that are kept, by a truth value for each.
--     kept             the rows whose truth value is true
--     elements_kept    the truth value of each row, for each of its elements
--     in_each          a change of the rows of each of several columns
use Rattle.std.specs.Prelude.{Bool, true, false, List, [], ◌∷◌, ◌++◌, map, length, replicate}
use Rattle.vortex_terms.specs.Term.{Term}
use Rattle.vortex_terms.specs.Row.{Row}

-- the rows whose truth value is true
abbrev pub kept : {X : Type 0} → List Bool → List X → List X
kept (true ∷ mask) (x ∷ xs) = x ∷ kept mask xs
kept (false ∷ mask) (x ∷ xs) = kept mask xs
kept _ _ = []

-- the truth value of each row, as often as there are elements inside it
abbrev pub elements_kept : (Row → List Row) → List Bool → List Row → List Bool
elements_kept inside (b ∷ mask) (r ∷ rs) =
    replicate (length (inside r)) b ++ elements_kept inside mask rs
elements_kept inside _ _ = []

-- a change of the rows of each column, whose types stay
abbrev pub in_each : (List Row → List Row) → List (Term × List Row) → List (Term × List Row)
in_each change columns = map (λ c. (c.0, change c.1)) columns
