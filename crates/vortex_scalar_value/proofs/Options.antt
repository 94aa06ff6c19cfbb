-- Steps that may find nothing, taken apart.
use Rattle.std.proofs.Common.{◌≡◌, ℕ, Bool, true, false, cond, eqb, Option, Some, None, refl}
use Rattle.std.specs.Prelude.{option_and_then}
use Rattle.std.proofs.lemmas.Bool.{eqb-true}

pub bound : {A B : Type 0} (o : Option A) (f : A → Option B) (y : B) → option_and_then f o ≡ Some y → (x : A) × (o ≡ Some x) × (f x ≡ Some y)
bound (Some x) f y e = (x, refl, e)
bound None f y e = absurd cc

pub flat : {A : Type 0} (o : Option (Option A)) (x : A) → option_and_then (λ p. p) o ≡ Some x → o ≡ Some (Some x)
flat None x e = absurd cc
flat (Some None) x e = absurd cc
flat (Some (Some y)) x e = same y x e
  where
    same : {A : Type 0} (y x : A) → Some y ≡ Some x → Some (Some y) ≡ Some (Some x)
    same y x e = cc

pub some_is : {A : Type 0} (x y : A) → Some x ≡ Some y → x ≡ y
some_is x y e = cc

pub not_some : {A G : Type 0} (y : A) → None ≡ Some y → G
not_some y e = absurd cc

pub some_same : {A : Type 0} (o : Option A) (x y : A) → o ≡ Some x → o ≡ Some y → x ≡ y
some_same None x y e h = absurd cc
some_same (Some z) x y e h = cc

-- the first of several numbers, or a later one
pub chosen : {A G : Type 0} (n m : ℕ) (here rest : Option A) (y : A) → (n ≡ m → here ≡ Some y → G) → (rest ≡ Some y → G) → cond (eqb n m) here rest ≡ Some y → G
chosen {A} {G} n m here rest y first later e = by (eqb n m) refl e
  where
    by : (c : Bool) → eqb n m ≡ c → cond c here rest ≡ Some y → G
    by true h e = first (eqb-true n m h) e
    by false h e = later e

pub guarded : {A : Type 0} (c : Bool) (x y : A) → cond c (Some x) None ≡ Some y → (c ≡ true) × (x ≡ y)
guarded true x y e = (refl, cc)
guarded false x y e = absurd cc
