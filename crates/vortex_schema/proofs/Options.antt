-- Steps that may find nothing, taken apart.
use Rattle.std.proofs.Common.{◌≡◌, ℕ, Bool, true, false, cond, eqb, Option, Some, None, refl, ap}
use Rattle.std.specs.Prelude.{◌&&◌, option_and_then, is_some}
use Rattle.std.specs.Option.{option_map, option_flatten}
use Rattle.std.proofs.lemmas.Bool.{eqb-true}

pub bound : {A B : Type 0} (o : Option A) (f : A → Option B) (y : B) → option_and_then f o ≡ Some y → (x : A) × (o ≡ Some x) × (f x ≡ Some y)
bound (Some x) f y e = (x, refl, e)
bound None f y e = absurd cc

pub mapped : {A B : Type 0} (f : A → B) (o : Option A) (y : B) → option_map f o ≡ Some y → (x : A) × (o ≡ Some x) × (f x ≡ y)
mapped f (Some x) y e = (x, refl, cc)
mapped f None y e = absurd cc

pub flattened : {A : Type 0} (o : Option (Option A)) (x : A) → option_flatten o ≡ Some x → o ≡ Some (Some x)
flattened None x e = absurd cc
flattened (Some None) x e = absurd cc
flattened (Some (Some y)) x e = ap Some e

pub guarded : {A : Type 0} (c : Bool) (x y : A) → cond c (Some x) None ≡ Some y → (c ≡ true) × (x ≡ y)
guarded true x y e = (refl, cc)
guarded false x y e = absurd cc

pub refused : {A : Type 0} (c : Bool) (x y : A) → cond c None (Some x) ≡ Some y → (c ≡ false) × (x ≡ y)
refused true x y e = absurd cc
refused false x y e = (refl, cc)

pub some_same : {A : Type 0} (o : Option A) (x y : A) → o ≡ Some x → o ≡ Some y → x ≡ y
some_same None x y e h = absurd cc
some_same (Some z) x y e h = cc

-- the first of several numbers, or a later one
pub chosen : {A : Type 0} (n m : ℕ) (x : A) (rest : Option A) (y : A) (G : Type 0) → (n ≡ m → x ≡ y → G) → (rest ≡ Some y → G) → cond (eqb n m) (Some x) rest ≡ Some y → G
chosen n m x rest y G here there e = by (eqb n m) refl e
  where
    by : (c : Bool) → eqb n m ≡ c → cond c (Some x) rest ≡ Some y → G
    by true h e = here (eqb-true n m h) cc
    by false h e = there e

pub both : (a c : Bool) → a && c ≡ true → (a ≡ true) × (c ≡ true)
both true c e = (refl, e)
both false c e = absurd cc

pub not_none : {A : Type 0} (o : Option A) → o ≡ None → is_some o ≡ true → ⊥
not_none None e h = cc
not_none (Some x) e h = cc
