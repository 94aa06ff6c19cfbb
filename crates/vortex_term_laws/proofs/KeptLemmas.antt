-- What is kept of columns, of the columns inside them and of joined elements.
use Rattle.std.specs.Prelude.{◌≡◌, ℕ, ◌+◌, Bool, true, false, cond, List, [], ◌∷◌, ◌++◌, map, length, take, replicate, refl}
use Rattle.std.specs.List.{filter, flat_map}
use Rattle.std.proofs.Common.{ap, sym, ◌∙◌}
use Rattle.vortex_terms.specs.Term.{Fields, no_fields, field}
use Rattle.vortex_terms.specs.Row.{Row}
use Rattle.vortex_terms.specs.JoinLaws.{column-take}
use Rattle.vortex_terms.specs.Parts.{field_row, columns}
use Rattle.vortex_term_laws.specs.Kept.{kept, elements_kept, in_each}

pub filter-kept : {X : Type 0} (p : X → Bool) (xs : List X) → filter p xs ≡ kept (map p xs) xs
filter-kept p [] = refl
filter-kept p (x ∷ xs) = by (p x) (filter-kept p xs)
  where
    by : (b : Bool) → filter p xs ≡ kept (map p xs) xs
        → cond b (x ∷ filter p xs) (filter p xs) ≡ kept (b ∷ map p xs) (x ∷ xs)
    by true e = ap (λ ys. x ∷ ys) e
    by false e = e

pub map-kept : {X Y : Type 0} (f : X → Y) (mask : List Bool) (xs : List X)
    → map f (kept mask xs) ≡ kept mask (map f xs)
map-kept f [] [] = refl
map-kept f [] (x ∷ xs) = refl
map-kept f (true ∷ mask) [] = refl
map-kept f (false ∷ mask) [] = refl
map-kept f (true ∷ mask) (x ∷ xs) = ap (λ ys. f x ∷ ys) (map-kept f mask xs)
map-kept f (false ∷ mask) (x ∷ xs) = map-kept f mask xs

pub columns-kept : (fs : Fields) (i : ℕ) (mask : List Bool) (rs : List Row)
    → columns fs i (kept mask rs) ≡ in_each (kept mask) (columns fs i rs)
columns-kept no_fields i mask rs = refl
columns-kept (field x t fs) i mask rs =
    λ k. (t, map-kept (field_row t i) mask rs k) ∷ columns-kept fs (i + 1) mask rs k

pub columns-take : (fs : Fields) (i n : ℕ) (rs : List Row)
    → columns fs i (take n rs) ≡ in_each (take n) (columns fs i rs)
columns-take no_fields i n rs = refl
columns-take (field x t fs) i n rs =
    λ k. (t, column-take t i n rs k) ∷ columns-take fs (i + 1) n rs k

kept-all : {X : Type 0} (xs ys : List X) (mask : List Bool)
    → kept (replicate (length xs) true ++ mask) (xs ++ ys) ≡ xs ++ kept mask ys
kept-all [] ys mask = refl
kept-all (x ∷ xs) ys mask = ap (λ zs. x ∷ zs) (kept-all xs ys mask)

kept-none : {X : Type 0} (xs ys : List X) (mask : List Bool)
    → kept (replicate (length xs) false ++ mask) (xs ++ ys) ≡ kept mask ys
kept-none [] ys mask = refl
kept-none (x ∷ xs) ys mask = kept-none xs ys mask

nothing-kept : {X : Type 0} (xs : List X) → kept [] xs ≡ []
nothing-kept [] = refl
nothing-kept (x ∷ xs) = refl

pub elements-kept : (inside : Row → List Row) (mask : List Bool) (rs : List Row)
    → flat_map inside (kept mask rs) ≡ kept (elements_kept inside mask rs) (flat_map inside rs)
elements-kept inside [] [] = refl
elements-kept inside [] (r ∷ rs) = sym (nothing-kept (flat_map inside (r ∷ rs)))
elements-kept inside (true ∷ mask) [] = refl
elements-kept inside (false ∷ mask) [] = refl
elements-kept inside (true ∷ mask) (r ∷ rs) =
    ap (λ qs. inside r ++ qs) (elements-kept inside mask rs)
    ∙ sym (kept-all (inside r) (flat_map inside rs) (elements_kept inside mask rs))
elements-kept inside (false ∷ mask) (r ∷ rs) =
    elements-kept inside mask rs
    ∙ sym (kept-none (inside r) (flat_map inside rs) (elements_kept inside mask rs))
