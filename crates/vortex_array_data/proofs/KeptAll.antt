-- What a mask keeps that is true for all rows, or for none.
use Rattle.std.proofs.Common.{◌≡◌, ◌-◌, ℕ, List, [], ◌∷◌, Bool, true, false, length, refl, sym, ap, subst, ◌∙◌, arith}
use Rattle.std.specs.Prelude.{slice_range, not, MatchResult, Result}
use Rattle.std.specs.List.{list_all}
use Rattle.std.proofs.lemmas.List.{take_all}
use Rattle.vortex_terms.specs.Term.{Term}
use Rattle.vortex_terms.specs.Row.{Row}
use Rattle.vortex_mask.specs.Truths.{kept}
use Rattle.vortex_array_data.specs.declared.error.ArrayError.{ArrayError}
use Rattle.vortex_array_data.specs.declared.error.ArrayError.TheVariants.{OutOfMemory}
use Rattle.vortex_array_data.specs.Column.{Column}

all_kept : {A : Type 0} (m : List Bool) (xs : List A) → list_all (λ b. b) m ≡ true → length m ≡ length xs → kept m xs ≡ xs
all_kept [] [] h l = refl
all_kept [] (x ∷ xs) h l = absurd (omega (arith, l))
all_kept (b ∷ m) [] h l = absurd (omega (arith, l))
all_kept {A = A} (true ∷ m) (x ∷ xs) h l = ap (λ (ys : List A). x ∷ ys) (all_kept m xs h (omega (arith, l)))
all_kept (false ∷ m) (x ∷ xs) h l = absurd (cc)

none_kept : {A : Type 0} (m : List Bool) (xs : List A) → list_all not m ≡ true → kept m xs ≡ []
none_kept [] xs h = refl
none_kept (b ∷ m) [] h = refl
none_kept (true ∷ m) (x ∷ xs) h = absurd (cc)
none_kept (false ∷ m) (x ∷ xs) h = none_kept m xs h

-- what is answered of rows
abbrev AreRows : Term → List Row → Result Column ArrayError → Type 0
AreRows t rs r = MatchResult r (λ (a : Column). (a.dtype ≡ t) × (a.rows ≡ rs)) (λ e. e ≡ OutOfMemory)

pub all_sliced : (r : Result Column ArrayError) (x : Column) (m : List Bool) (n : ℕ) (b : Bool) → b ≡ list_all (λ b. b) m → b ≡ true
    → n ≡ length x.rows → length m ≡ length x.rows → AreRows x.dtype (slice_range x.rows 0 n) r → AreRows x.dtype (kept m x.rows) r
all_sliced r x m n b e t s l h =
    let whole : slice_range x.rows 0 n ≡ x.rows = take_all (n - 0) x.rows (omega (arith, s)) in
    subst (λ (rs : List Row). AreRows x.dtype rs r) (whole ∙ sym (all_kept m x.rows (sym e ∙ t) l)) h

pub none_sliced : (r : Result Column ArrayError) (x : Column) (m : List Bool) (b : Bool) → b ≡ list_all not m → b ≡ true
    → AreRows x.dtype (slice_range x.rows 0 0) r → AreRows x.dtype (kept m x.rows) r
none_sliced r x m b e t h =
    subst (λ (rs : List Row). AreRows x.dtype rs r) (sym (none_kept m x.rows (sym e ∙ t))) h
