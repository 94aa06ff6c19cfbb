-- Steps that may find nothing, taken apart.
use Rattle.std.proofs.Common.{◌≡◌, ℕ, Bool, true, false, cond, eqb, Option, Some, None, refl}
use Rattle.std.specs.Prelude.{option_and_then}
use Rattle.std.proofs.lemmas.Bool.{eqb-true}

pub bound : {A B : Type 0} (o : Option A) (f : A → Option B) (y : B) → option_and_then f o ≡ Some y → (x : A) × (o ≡ Some x) × (f x ≡ Some y)
bound (Some x) f y e = (x, refl, e)
bound None f y e = absurd cc

pub guarded : {A : Type 0} (c : Bool) (x y : A) → cond c (Some x) None ≡ Some y → (c ≡ true) × (x ≡ y)
guarded true x y e = (refl, cc)
guarded false x y e = absurd cc

pub refused : {A : Type 0} (c : Bool) (x y : A) → cond c None (Some x) ≡ Some y → (c ≡ false) × (x ≡ y)
refused true x y e = absurd cc
refused false x y e = (refl, cc)

pub is_same : {A : Type 0} (x y : A) → Some x ≡ Some y → x ≡ y
is_same x y e = cc

pub some_same : {A : Type 0} (o : Option A) (x y : A) → o ≡ Some x → o ≡ Some y → x ≡ y
some_same None x y e h = absurd cc
some_same (Some z) x y e h = cc

-- the first of several numbers, or a later one
pub chosen : {A : Type 0} (n m : ℕ) (o rest : Option A) (y : A) (G : Type 0) → (n ≡ m → o ≡ Some y → G) → (rest ≡ Some y → G) → cond (eqb n m) o rest ≡ Some y → G
chosen n m o rest y G here there e = by (eqb n m) refl e
  where
    by : (c : Bool) → eqb n m ≡ c → cond c o rest ≡ Some y → G
    by true h e = here (eqb-true n m h) e
    by false h e = there e
