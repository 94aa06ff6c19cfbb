-- Lists that are read and made one by one.
--     after                     what is read after these
--     each_row, each_dtype      the rows and the types of scalars that are made of values
use Rattle.std.specs.Prelude.{◌≡◌, List, [], ◌∷◌, ◌++◌, map, Result}
use Rattle.std.proofs.Common.{refl, ap}
use Rattle.std.specs.List.{All}
use Rattle.std.proofs.lemmas.List.Elements.{All-nil, All-cons}
use Rattle.vortex_terms.specs.Term.{Term}
use Rattle.vortex_terms.specs.Row.{Row, row, rows_from}
use Rattle.vortex_scalar_value.specs.declared.error.ScalarError.{ScalarError}
use Rattle.vortex_scalar.specs.ScalarTerm.{ScalarTerm}
use Rattle.vortex_scalar.specs.Made.{typed, rows_inside}
use Rattle.vortex_convert.specs.Conversions.{result_map}

-- what is read after these
abbrev pub after : {A : Type 0} → List A → Result (List A) ScalarError → Result (List A) ScalarError
after xs found = result_map (λ ys. xs ++ ys) found

-- the rows of the scalars
pub each_row : {X : Type 0} (t : Term) (row_of : X → Row) (xs : List X) → rows_inside (map (λ x. typed t (row_of x)) xs) ≡ rows_from (map row_of xs)
each_row t row_of [] = refl
each_row t row_of (x ∷ xs) = ap (row (row_of x)) (each_row t row_of xs)

-- their types
pub each_dtype : {X : Type 0} (t u : Term) (row_of : X → Row) (xs : List X) → t ≡ u → All (λ (s : ScalarTerm). s.dtype ≡ u) (map (λ x. typed t (row_of x)) xs)
each_dtype t u row_of [] e = All-nil (λ (s : ScalarTerm). s.dtype ≡ u)
each_dtype t u row_of (x ∷ xs) e = All-cons (λ (s : ScalarTerm). s.dtype ≡ u) (typed t (row_of x)) (map (λ x. typed t (row_of x)) xs) e (each_dtype t u row_of xs e)
