-- Lists that a loop compares or copies.
use Rattle.std.proofs.Common.{◌≡◌, ℕ, ◌+◌, ◌<◌, Bool, true, false, ◌&&◌, List, [], ◌∷◌, length, get_or, drop, map, refl, sym, ap, ◌∙◌, arith, add-one}
use Rattle.std.specs.Prelude.{nat_eq}
use Rattle.std.specs.Borrow.{Bor}
use Rattle.std.proofs.lemmas.List.{get_or-map, length-map}
use Rattle.std.specs.Cmp.Lexicographic.{pointwise}
use Rattle.std.proofs.Math.Seq.{drop-cons}

-- the two at one place, and then the others
pairs_from : {A B : Type 0} (E : A → B → Bool) (xs : List A) (ys : List B) (i : ℕ) (x : A) (y d : B) → i < length xs → i < length ys → x ≡ get_or xs i x → y ≡ get_or ys i d
    → pointwise E (drop i xs) (drop i ys) ≡ (E x y && pointwise E (drop (i + 1) xs) (drop (i + 1) ys))
pairs_from E xs ys i x y d hx hy ex ey =
    let left : drop i xs ≡ x ∷ drop (i + 1) xs = rw (add-one, ex) (drop-cons xs i x hx) in
    let right : drop i ys ≡ y ∷ drop (i + 1) ys = rw (add-one, ey) (drop-cons ys i d hy) in
    rw (left, right) refl

-- the same, where the others are read through references
pub texts_from : (names : List (List ℕ)) (texts : List (Bor (List ℕ))) (i : ℕ) (name : List ℕ) (d : Bor (List ℕ)) → i < length names → i < length texts → name ≡ get_or names i name
    → pointwise (pointwise nat_eq) (drop i names) (drop i (map (λ t. t.now) texts)) ≡ (pointwise nat_eq name (get_or texts i d).now && pointwise (pointwise nat_eq) (drop (i + 1) names) (drop (i + 1) (map (λ t. t.now) texts)))
texts_from names texts i name d hn ht is =
    pairs_from (pointwise nat_eq) names (map (λ t. t.now) texts) i name (get_or texts i d).now [] hn (omega (arith, length-map texts (λ t. t.now))) is (sym (get_or-map (λ t. t.now) texts i d [] ht))

-- where the two at a place differ, the lists do
pub differ_at : (here rest from all : Bool) → here ≡ false → from ≡ (here && rest) → from ≡ all → false ≡ all
differ_at here rest from all false_here e so_far = sym (e ∙ ap (λ (b : Bool). b && rest) false_here) ∙ so_far

pub agree_at : (here rest from all : Bool) → here ≡ true → from ≡ (here && rest) → from ≡ all → rest ≡ all
agree_at here rest from all true_here e so_far = sym (e ∙ ap (λ (b : Bool). b && rest) true_here) ∙ so_far
