-- What is picked of lists that are made of others.
use Rattle.std.proofs.Common.{◌≡◌, ◌≤◌, ◌<◌, ◌+◌, ◌-◌, ℕ, zero, suc, List, [], ◌∷◌, map, length, replicate, take, drop, refl, ap, ◌∙◌, arith}
use Rattle.std.specs.Prelude.{slice_range}
use Rattle.std.specs.List.{AllByRecursion}
use Rattle.vortex_terms.specs.FromColumns.{zip_map}
use Rattle.vortex_array_data.specs.inner.Picked.{at_onto, picked, from_on}

at_onto-map : {A B : Type 0} (f : A → B) (xs : List A) (i : ℕ) (ys : List A) → at_onto (map f xs) i (map f ys) ≡ map f (at_onto xs i ys)
at_onto-map f [] i ys = refl
at_onto-map f (x ∷ xs) zero ys = refl
at_onto-map f (x ∷ xs) (suc i) ys = at_onto-map f xs i ys

pub picked-map : {A B : Type 0} (f : A → B) (is : List ℕ) (xs : List A) → picked is (map f xs) ≡ map f (picked is xs)
picked-map f [] xs = refl
picked-map f (i ∷ is) xs = ap (at_onto (map f xs) i) (picked-map f is xs) ∙ at_onto-map f xs i (picked is xs)

at_onto-zip : {A B C : Type 0} (f : A → B → C) (xs : List A) (ys : List B) (i : ℕ) (us : List A) (vs : List B) → length xs ≡ length ys
    → at_onto (zip_map f xs ys) i (zip_map f us vs) ≡ zip_map f (at_onto xs i us) (at_onto ys i vs)
at_onto-zip f [] [] i us vs e = refl
at_onto-zip f [] (y ∷ ys) i us vs e = absurd (omega (arith, e))
at_onto-zip f (x ∷ xs) [] i us vs e = absurd (omega (arith, e))
at_onto-zip f (x ∷ xs) (y ∷ ys) zero us vs e = refl
at_onto-zip f (x ∷ xs) (y ∷ ys) (suc i) us vs e = at_onto-zip f xs ys i us vs (omega (arith, e))

pub picked-zip : {A B C : Type 0} (f : A → B → C) (is : List ℕ) (xs : List A) (ys : List B) → length xs ≡ length ys → picked is (zip_map f xs ys) ≡ zip_map f (picked is xs) (picked is ys)
picked-zip f [] xs ys e = refl
picked-zip f (i ∷ is) xs ys e = ap (at_onto (zip_map f xs ys) i) (picked-zip f is xs ys e) ∙ at_onto-zip f xs ys i (picked is xs) (picked is ys) e

-- the places lie below n
abbrev pub Below : ℕ → List ℕ → Type 0
Below n is = AllByRecursion (λ i. i < n) is

at_onto-replicate : {A : Type 0} (n i k : ℕ) (x : A) → i < n → at_onto (replicate n x) i (replicate k x) ≡ replicate (suc k) x
at_onto-replicate zero i k x lt = absurd (omega (arith, lt))
at_onto-replicate (suc n) zero k x lt = refl
at_onto-replicate (suc n) (suc i) k x lt = at_onto-replicate n i k x (omega (arith, lt))

pub picked-replicate : {A : Type 0} (n : ℕ) (x : A) (is : List ℕ) → Below n is → picked is (replicate n x) ≡ replicate (length is) x
picked-replicate n x [] h = refl
picked-replicate n x (i ∷ is) h = ap (at_onto (replicate n x) i) (picked-replicate n x is h.1) ∙ at_onto-replicate n i (length is) x h.0

length-at_onto : {A : Type 0} (xs : List A) (i : ℕ) (ys : List A) → i < length xs → length (at_onto xs i ys) ≡ suc (length ys)
length-at_onto [] i ys lt = absurd (omega (arith, lt))
length-at_onto (x ∷ xs) zero ys lt = refl
length-at_onto (x ∷ xs) (suc i) ys lt = length-at_onto xs i ys (omega (arith, lt))

pub length-picked : {A : Type 0} (is : List ℕ) (xs : List A) → Below (length xs) is → length (picked is xs) ≡ length is
length-picked [] xs h = refl
length-picked (i ∷ is) xs h = length-at_onto xs i (picked is xs) h.0 ∙ ap suc (length-picked is xs h.1)

all_at_onto : {A : Type 0} (P : A → Type 0) (xs : List A) (i : ℕ) (ys : List A) → AllByRecursion P xs → AllByRecursion P ys → AllByRecursion P (at_onto xs i ys)
all_at_onto P [] i ys h k = k
all_at_onto P (x ∷ xs) zero ys h k = (h.0, k)
all_at_onto P (x ∷ xs) (suc i) ys h k = all_at_onto P xs i ys h.1 k

pub all_picked : {A : Type 0} (P : A → Type 0) (is : List ℕ) (xs : List A) → AllByRecursion P xs → AllByRecursion P (picked is xs)
all_picked P [] xs h = tt
all_picked P (i ∷ is) xs h = all_at_onto P xs i (picked is xs) h (all_picked P is xs h)

pub below_from_on : (k a n : ℕ) → a + k ≤ n → Below n (from_on k a)
below_from_on zero a n le = tt
below_from_on (suc k) a n le = (omega (arith, le), below_from_on k (suc a) n (omega (arith, le)))

pub length-from_on : (k a : ℕ) → length (from_on k a) ≡ k
length-from_on zero a = refl
length-from_on (suc k) a = ap suc (length-from_on k (suc a))

at_onto-drop : {A : Type 0} (k a : ℕ) (xs : List A) → a < length xs → at_onto xs a (take k (drop (suc a) xs)) ≡ take (suc k) (drop a xs)
at_onto-drop k zero (x ∷ xs) lt = refl
at_onto-drop k (suc a) (x ∷ xs) lt = at_onto-drop k a xs (omega (arith, lt))
at_onto-drop k a [] lt = absurd (omega (arith, lt))

pub picked-range : {A : Type 0} (k a : ℕ) (xs : List A) → a + k ≤ length xs → picked (from_on k a) xs ≡ take k (drop a xs)
picked-range zero a xs le = refl
picked-range (suc k) a xs le = ap (at_onto xs a) (picked-range k (suc a) xs (omega (arith, le))) ∙ at_onto-drop k a xs (omega (arith, le))

-- a range
pub picked_range : {A : Type 0} (from to : ℕ) (xs : List A) → from ≤ to → to ≤ length xs
    → picked (from_on (to - from) from) xs ≡ slice_range xs from to
picked_range from to xs le hi = picked-range (to - from) from xs (omega (arith, le, hi))
