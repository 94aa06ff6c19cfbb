-- Places in a list of keys.
use Rattle.std.proofs.Common.{◌≡◌, ℕ, zero, suc, ◌<◌, Bool, true, false, cond, Option, Some, None}
use Rattle.std.proofs.Common.{List, [], ◌∷◌, ◌++◌, map, length, get_or, true≢false, refl, ap, sym}
use Rattle.std.proofs.Common.{◌∙◌, arith}
use Rattle.std.specs.Bool.{Decides}
use Rattle.std.specs.Cmp.{both_ways}
use Rattle.std.specs.List.{range_with_len, AllByRecursion, IsDistinct}
use Rattle.std.specs.Option.{option_map}
use Rattle.std.proofs.lemmas.List.FromFn.{length-map-range_with_len, get_or-map-range_with_len}
use Rattle.vortex_codes.specs.Places.{place_of}
use Rattle.vortex_codes.specs.Table.{IsApart}

module _ {K : Type 0} (same : K → K → Bool) (decides : (a b : K) → Decides (same a b) (a ≡ b)) where
  -- ---- the place of a key

  pub place_at : (k : K) (ks : List K) (c : ℕ) (d : K) → c < length ks → get_or ks c d ≡ k → ((i : ℕ) → i < c → get_or ks i d ≡ k → ⊥) → place_of same k ks ≡ Some c
  place_at k [] c d l e h = absurd (omega arith)
  place_at k (x ∷ xs) zero d l e h = rw ((decides k x).1 (sym e)) refl
  place_at k (x ∷ xs) (suc c) d l e h = by (place_at k xs c d (omega arith) e (λ i u. h (suc i) (omega arith))) (same k x) refl
    where
      by : place_of same k xs ≡ Some c → (b : Bool) → same k x ≡ b → cond b (Some 0) (option_map (λ n. suc n) (place_of same k xs)) ≡ Some (suc c)
      by rest true s = absurd (h 0 (omega arith) (sym ((decides k x).0 s)))
      by rest false s = ap (option_map (λ n. suc n)) rest

  pub place_none : (k : K) (ks : List K) (d : K) → ((i : ℕ) → i < length ks → get_or ks i d ≡ k → ⊥) → place_of same k ks ≡ None
  place_none k [] d h = refl
  place_none k (x ∷ xs) d h = by (place_none k xs d (λ i u. h (suc i) (omega arith))) (same k x) refl
    where
      by : place_of same k xs ≡ None → (b : Bool) → same k x ≡ b → cond b (Some 0) (option_map (λ n. suc n) (place_of same k xs)) ≡ None
      by rest true s = absurd (h 0 (omega arith) (sym ((decides k x).0 s)))
      by rest false s = ap (option_map (λ n. suc n)) rest

  some_none : (c : ℕ) (o : Option ℕ) → o ≡ Some c → o ≡ None → ⊥
  some_none c o e n = cc

  none_at : (k : K) (ks : List K) (c : ℕ) (d : K) → place_of same k ks ≡ None → c < length ks → get_or ks c d ≡ k → ⊥
  none_at k [] c d n l e = omega arith
  none_at k (x ∷ xs) zero d n l e = some_none 0 (place_of same k (x ∷ xs)) (rw ((decides k x).1 (sym e)) refl) n
  none_at k (x ∷ xs) (suc c) d n l e = by (λ s. none_at k xs c d s (omega arith) e) (same k x) (place_of same k xs) refl n
    where
      by : (place_of same k xs ≡ None → ⊥) → (b : Bool) (o : Option ℕ) → place_of same k xs ≡ o → cond b (Some 0) (option_map (λ n. suc n) o) ≡ None → ⊥
      by rest true o s m = cc
      by rest false None s m = rest s
      by rest false (Some i) s m = cc

  module _ (key : ℕ → K) (n : ℕ) where
    pub placed_key : (k : K) (c : ℕ) → IsApart key n → c < n → key c ≡ k → Some c ≡ place_of same k (map key (range_with_len 0 n))
    placed_key k c a l e =
        let at = λ (i : ℕ) (u : i < n). get_or-map-range_with_len key 0 n i i k u (omega arith) in
        sym (place_at k (map key (range_with_len 0 n)) c k (rw (length-map-range_with_len key 0 n) l) (at c l ∙ e)
        (λ i u f. let same = a i c (omega arith) l (sym (at i (omega arith)) ∙ f ∙ sym e) in omega (arith, same)))

    pub unplaced_key : (k : K) → ((c : ℕ) → c < n → key c ≡ k → ⊥) → None ≡ place_of same k (map key (range_with_len 0 n))
    unplaced_key k h =
        sym (place_none k (map key (range_with_len 0 n)) k (λ i u f. let l : i < n = rw (← length-map-range_with_len key 0 n) u in h i l (sym (get_or-map-range_with_len key 0 n i i k l (omega arith)) ∙ f)))

    pub none_key : (k : K) → place_of same k (map key (range_with_len 0 n)) ≡ None → (c : ℕ) → c < n → key c ≡ k → ⊥
    none_key k h c l e = none_at k (map key (range_with_len 0 n)) c k h (rw (length-map-range_with_len key 0 n) l) (get_or-map-range_with_len key 0 n c c k l (omega arith) ∙ e)

  -- the same of a list that is there
  module _ (ks : List K) (d : K) where
    pub placed_in : (k : K) (c : ℕ) → IsApart (λ i. get_or ks i d) (length ks) → c < length ks → get_or ks c d ≡ k → Some c ≡ place_of same k ks
    placed_in k c a l e = sym (place_at k ks c d l e (λ i u f. let same = a i c (omega arith) l (f ∙ sym e) in omega (arith, same)))

    pub unplaced_in : (k : K) → ((c : ℕ) → c < length ks → get_or ks c d ≡ k → ⊥) → None ≡ place_of same k ks
    unplaced_in k h = sym (place_none k ks d h)

    pub none_in : (k : K) → place_of same k ks ≡ None → (c : ℕ) → c < length ks → get_or ks c d ≡ k → ⊥
    none_in k h c l e = none_at k ks c d h l e

  -- ---- one key more

  place_other : (q x : K) (xs : List K) → same q x ≡ false → place_of same q (x ∷ xs) ≡ None → place_of same q xs ≡ None
  place_other q x xs s n = by (place_of same q xs) refl (ap (λ b. cond b (Some 0) (option_map (λ n. suc n) (place_of same q xs))) (sym s) ∙ n)
    where
      by : (o : Option ℕ) → place_of same q xs ≡ o → option_map (λ n. suc n) (place_of same q xs) ≡ None → place_of same q xs ≡ None
      by None e m = e
      by (Some i) e m = absurd (some_none (suc i) (option_map (λ n. suc n) (place_of same q xs)) (ap (option_map (λ n. suc n)) e) m)

  pub place_of-push : (xs : List K) (k q : K) → place_of same k xs ≡ None → place_of same q (xs ++ k ∷ []) ≡ cond (same k q) (Some (length xs)) (place_of same q xs)
  place_of-push [] k q n = ap (λ b. cond b (Some 0) None) (both_ways (same q k) (same k q) (λ e. (decides k q).1 (sym ((decides q k).0 e))) (λ e. (decides q k).1 (sym ((decides k q).0 e))))
  place_of-push (x ∷ xs) k q n = by (same k x) refl (λ s. place_of-push xs k q (place_other k x xs s n)) (same q x) refl (same k q) refl
    where
      by : (a : Bool) → same k x ≡ a → (same k x ≡ false → place_of same q (xs ++ k ∷ []) ≡ cond (same k q) (Some (length xs)) (place_of same q xs))
          → (b : Bool) → same q x ≡ b → (c : Bool) → same k q ≡ c → cond b (Some 0) (option_map (λ n. suc n) (place_of same q (xs ++ k ∷ []))) ≡ cond c (Some (suc (length xs))) (cond b (Some 0) (option_map (λ n. suc n) (place_of same q xs)))
      by true e rest b f c g = absurd (some_none 0 (place_of same k (x ∷ xs)) (rw e refl) n)
      by false e rest true f true g = absurd (true≢false (sym ((decides k x).1 ((decides k q).0 g ∙ (decides q x).0 f)) ∙ e))
      by false e rest true f false g = refl
      by false e rest false f true g = ap (option_map (λ n. suc n)) (rest e ∙ ap (λ b. cond b (Some (length xs)) (place_of same q xs)) g)
      by false e rest false f false g = ap (option_map (λ n. suc n)) (rest e ∙ ap (λ b. cond b (Some (length xs)) (place_of same q xs)) g)

  -- ---- no key twice

  others_apart : (x : K) (xs : List K) (d : K) → ((i : ℕ) → i < length xs → x ≡ get_or xs i d → ⊥) → AllByRecursion (λ y. same x y ≡ false) xs
  others_apart x [] d h = tt
  others_apart x (y ∷ ys) d h = (by (same x y) refl, others_apart x ys d (λ i l. h (suc i) (omega arith)))
    where
      by : (b : Bool) → same x y ≡ b → same x y ≡ false
      by true e = absurd (h 0 (omega arith) ((decides x y).0 e))
      by false e = e

  pub distinct_keys : (xs : List K) (d : K) → IsApart (λ i. get_or xs i d) (length xs) → IsDistinct same xs
  unfolding IsDistinct
  distinct_keys [] d a = tt
  distinct_keys (x ∷ xs) d a = (others_apart x xs d (λ i l e. let same = a 0 (suc i) (omega arith) (omega arith) e in omega (arith, same)), distinct_keys xs d (λ i j l u e. let same = a (suc i) (suc j) (omega arith) (omega arith) e in omega (arith, same)))

  pub distinct_map : (key : ℕ → K) (n : ℕ) → IsApart key n → IsDistinct same (map key (range_with_len 0 n))
  distinct_map key n a = distinct_keys (map key (range_with_len 0 n)) (key 0) (λ i j l u e.
      let count = length-map-range_with_len key 0 n in let i' : i < n = omega (arith, count) in let j' : j < n = omega (arith, count) in
      a i j i' j' (sym (get_or-map-range_with_len key 0 n i i (key 0) i' (omega arith)) ∙ e ∙ get_or-map-range_with_len key 0 n j j (key 0) j' (omega arith)))
