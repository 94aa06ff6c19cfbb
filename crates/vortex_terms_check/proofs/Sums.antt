-- The sum over the distinct ones of rows that begin with x, capped.
use Rattle.std.proofs.Common.{Result, Ok, Err, IfOk, zero, ◌≢◌, ◌++◌, append_assoc, refl, ◌≡◌, ℕ, suc, ◌-◌, take, ◌+◌, ◌≤◌, min, Bool, true, false, cond, List, [], ◌∷◌, map, length, get_or, drop, arith, ap, sym, ◌∙◌}
use Rattle.std.proofs.Math.Seq.{take-length}
use Rattle.std.proofs.lemmas.List.{map-append}
use Rattle.std.specs.List.{list_any, sum_by}
use Rattle.vortex_terms.specs.Row.{Row, copies}
use Rattle.vortex_terms.specs.Order.{row_eq}
use Rattle.vortex_terms.specs.Distinct.{distinct}
use Rattle.vortex_terms.specs.DistinctLaws.{sum_by-distinct}

-- what a slice pattern binds behind the first
abbrev after : {A : Type 0} → List A → List A
after rows = take (length rows - 1) (drop 1 rows)

after-first : {A : Type 0} (y : A) (ys : List A) → after (y ∷ ys) ≡ ys
after-first y ys = let n : suc (length ys) - 1 ≡ length ys = omega arith in rw n (take-length ys)

module _ {A : Type 0} (g : A → Row) (f : Row → ℕ) where
  pub first_counted : (rows : List A) (x : A) → 1 ≤ length rows → x ≡ get_or rows 0 x → sum_by f (distinct (map g rows)) ≡ cond (list_any (row_eq (g x)) (map g (after rows))) 0 (f (g x)) + sum_by f (distinct (map g (after rows)))
  first_counted [] x l h = absurd (omega arith)
  first_counted (y ∷ ys) x l h = rw (h, after-first y ys) (sum_by-distinct f (g y) (map g ys))

  pub counted_later : (rows : List A) (x : A) (b : Bool) (r m : ℕ) → 1 ≤ length rows → x ≡ get_or rows 0 x → b ≡ list_any (row_eq (g x)) (map g (after rows)) → b ≡ true → r ≡ min (sum_by f (distinct (map g (after rows)))) m → r ≡ min (sum_by f (distinct (map g rows))) m
  counted_later rows x b r m l h s t e =
      let first = first_counted rows x l h ∙ ap (λ c. cond c 0 (f (g x)) + sum_by f (distinct (map g (after rows)))) (sym s ∙ t) in
      omega (arith, first)

  pub counted_here : (rows : List A) (x : A) (b : Bool) (k r s m : ℕ) → 1 ≤ length rows → x ≡ get_or rows 0 x → b ≡ list_any (row_eq (g x)) (map g (after rows)) → b ≡ false → k ≡ f (g x) → r ≡ min (sum_by f (distinct (map g (after rows)))) m → s ≡ min (k + r) m → s ≡ min (sum_by f (distinct (map g rows))) m
  counted_here rows x b k r s m l h i t n e d =
      let first = first_counted rows x l h ∙ ap (λ c. cond c 0 (f (g x)) + sum_by f (distinct (map g (after rows)))) (sym i ∙ t) in
      omega (arith, first)

-- one copy more, in front of the others
pub copies_more : (k : ℕ) (r : Row) (rs : List Row) → k ≢ 0 → (rs ++ r ∷ []) ++ copies (k - 1) r ≡ rs ++ copies k r
unfolding copies
copies_more zero r rs h = absurd (h refl)
copies_more (suc k) r rs h = let n : suc k - 1 ≡ k = omega arith in rw (n, append_assoc) refl

-- what a call gives that goes on after a copy was put at the end
pub copies_step : {A E V : Type 0} (result : Result V E) (items : V → List A) (g : A → Row) (k : ℕ) (a : A) (r : Row) (out pushed : List A) → k ≢ 0 → pushed ≡ out ++ a ∷ [] → g a ≡ r → IfOk result (λ v. map g (items v) ≡ map g pushed ++ copies (k - 1) r) → IfOk result (λ v. map g (items v) ≡ map g out ++ copies k r)
copies_step (Err e) items g k a r out pushed h p q i = tt
copies_step (Ok v) items g k a r out pushed h p q i = i ∙ ap (λ xs. map g xs ++ copies (k - 1) r) p ∙ rw (map-append g out (a ∷ []), q) (copies_more k r (map g out) h)
