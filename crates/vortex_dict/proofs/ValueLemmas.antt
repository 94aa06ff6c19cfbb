-- One key more, in the words of rows.
use Rattle.std.proofs.Common.{◌≡◌, ℕ, suc, Bool, true, false, not, ◌&&◌, ◌||◌, cond, true≢false}
use Rattle.std.proofs.Common.{Option, Some, None, Result, Err, List, [], ◌∷◌, ◌++◌, map, length}
use Rattle.std.proofs.Common.{refl, ap, sym, ◌∙◌, ℤ}
use Rattle.std.specs.Bool.{Decides}
use Rattle.std.specs.Cmp.{both_ways}
use Rattle.std.specs.List.{filter, list_any, AllByRecursion, IsDistinct}
use Rattle.std.specs.Option.{is_some, unwrap_or, option_map, option_eq}
use Rattle.std.proofs.lemmas.List.{map-append}
use Rattle.vortex_terms.specs.Row.{Row, whole_row}
use Rattle.vortex_terms.specs.Order.{row_eq}
use Rattle.vortex_terms.specs.OrderLaws.{row_eq-Decides}
use Rattle.vortex_terms.specs.Distinct.{distinct, first_place}
use Rattle.vortex_codes.specs.Places.{place_of, with_key, code_in}
use Rattle.vortex_dict.specs.KeyRows.{bytes_or_null, number_or_null}
use Rattle.vortex_dict.specs.Encoding.{stands}
use Rattle.vortex_dict.specs.inner.Step.{EncodesValue}

module _ {K : Type 0} (same : K → K → Bool) (decides : (a b : K) → Decides (same a b) (a ≡ b)) (row : K → Row) (apart : (a b : K) → row a ≡ row b → a ≡ b) where
  agree : (a b : K) → row_eq (row a) (row b) ≡ same a b
  agree a b = both_ways (row_eq (row a) (row b)) (same a b) (λ e. (decides a b).1 (apart a b ((row_eq-Decides (row a) (row b)).0 e))) (λ e. (row_eq-Decides (row a) (row b)).1 (ap row ((decides a b).0 e)))

  pub stands_is : (k : K) (ks : List K) → is_some (place_of same k ks) ≡ stands (row k) (map row ks)
  stands_is k [] = refl
  stands_is k (x ∷ xs) = rw (agree k x) (by (same k x) (place_of same k xs) (stands_is k xs))
    where
      by : (b : Bool) (o : Option ℕ) → is_some o ≡ list_any (row_eq (row k)) (map row xs) → is_some (cond b (Some 0) (option_map (λ n. suc n) o)) ≡ b || list_any (row_eq (row k)) (map row xs)
      by true o e = refl
      by false None e = e
      by false (Some i) e = e

  pub code_is : (k : K) (ks : List K) → code_in same ks k ≡ first_place (row k) (map row ks)
  code_is k [] = refl
  code_is k (x ∷ xs) = rw (agree k x) (by (same k x) (place_of same k xs) (code_is k xs))
    where
      by : (b : Bool) (o : Option ℕ) → unwrap_or o (length xs) ≡ first_place (row k) (map row xs) → unwrap_or (cond b (Some 0) (option_map (λ n. suc n) o)) (suc (length xs)) ≡ cond b 0 (suc (first_place (row k) (map row xs)))
      by true o e = refl
      by false None e = ap (λ n. suc n) e
      by false (Some i) e = ap (λ n. suc n) e

  -- the place of a key, in the words of rows
  pub place_is : (k : K) (ks : List K) → place_of same k ks
      ≡ cond (stands (row k) (map row ks)) (Some (first_place (row k) (map row ks))) None
  place_is k ks = by (place_of same k ks) (stands_is k ks) (code_is k ks)
    where
      by : (o : Option ℕ) → is_some o ≡ stands (row k) (map row ks)
          → unwrap_or o (length ks) ≡ first_place (row k) (map row ks)
          → o ≡ cond (stands (row k) (map row ks)) (Some (first_place (row k) (map row ks))) None
      by None e f = ap (λ b. cond b (Some (first_place (row k) (map row ks))) None) e
      by (Some i) e f =
          ap (λ n. Some n) f
          ∙ ap (λ b. cond b (Some (first_place (row k) (map row ks))) None) e

  pub new_is : (k : K) (ks : List K) → place_of same k ks ≡ None → stands (row k) (map row ks) ≡ false
  new_is k ks n = sym (stands_is k ks) ∙ ap is_some n

  -- keys of which none stands twice stand for rows of which none does
  pub own_distinct : (ks : List K) → IsDistinct same ks → distinct (map row ks) ≡ map row ks
  unfolding IsDistinct
  own_distinct [] a = refl
  own_distinct (k ∷ ks) a = ap (λ rs. row k ∷ rs) (ap (filter (λ s. not (row_eq (row k) s))) (own_distinct ks a.1) ∙ kept ks a.0)
    where
      kept : (xs : List K) → AllByRecursion (λ y. same k y ≡ false) xs → filter (λ s. not (row_eq (row k) s)) (map row xs) ≡ map row xs
      kept [] b = refl
      kept (x ∷ xs) b = rw (agree k x ∙ b.0) (ap (λ rs. row x ∷ rs) (kept xs b.1))

  module _ (over : List Row → Row → Bool) (ks : List K) (k : K) (may : Bool) (e : may ≡ not (over (map row ks) (row k))) where
    abbrev values : List Row
    values = map row ks

    -- what finding or adding a key does
    pub step : (ks' : List K) (place : Option ℕ) → ks' ≡ cond may (with_key same ks k) ks → place ≡ cond may (Some (code_in same ks k)) (place_of same k ks) → EncodesValue over values (row k) (map row ks') place
    step ks' place f p = record {
      values_are = ap (map row) f ∙ by (over values (row k)) (place_of same k ks) may e (stands_is k ks);
      code_is = p ∙ is (over values (row k)) (place_of same k ks) may e (stands_is k ks) (code_is k ks);
    }
      where
        by : (o : Bool) (p : Option ℕ) (m : Bool) → m ≡ not o → is_some p ≡ stands (row k) values → map row (cond m (cond (is_some p) ks (ks ++ k ∷ [])) ks) ≡ cond (stands (row k) values || o) values (values ++ row k ∷ [])
        by o None m h s = rw (h, ← s) (new o)
          where
            new : (o : Bool) → map row (cond (not o) (ks ++ k ∷ []) ks) ≡ cond o values (values ++ row k ∷ [])
            new true = refl
            new false = map-append row ks (k ∷ [])
        by o (Some i) m h s = rw (h, ← s) (old o)
          where
            old : (o : Bool) → map row (cond (not o) ks ks) ≡ values
            old true = refl
            old false = refl

        is : (o : Bool) (p : Option ℕ) (m : Bool) → m ≡ not o → is_some p ≡ stands (row k) values → unwrap_or p (length ks) ≡ first_place (row k) values → cond m (Some (unwrap_or p (length ks))) p ≡ cond (not (stands (row k) values) && o) None (Some (first_place (row k) values))
        is true None m h s c = rw (h, ← s) refl
        is false None m h s c = rw (h, ← s) (ap (λ n. Some n) c)
        is true (Some i) m h s c = rw (h, ← s) (ap (λ n. Some n) c)
        is false (Some i) m h s c = rw (h, ← s) (ap (λ n. Some n) c)

    pub within_is : may ≡ true → over values (row k) ≡ false
    within_is m = by (over values (row k)) (sym m ∙ e)
      where
        by : (o : Bool) → true ≡ not o → o ≡ false
        by true h = absurd (true≢false h)
        by false h = refl

-- the same where the code is written otherwise
pub with_code : (over : List Row → Row → Bool) (vs : List Row) (r : Row) (vs' : List Row) (o o' : Option ℕ) → EncodesValue over vs r vs' o → o' ≡ o → EncodesValue over vs r vs' o'
with_code over vs r vs' o o' e h = record { values_are = e.values_are; code_is = h ∙ e.code_is }

pub none_of : (o : Option ℕ) → ((x : ℕ) → o ≡ Some x → ⊥) → o ≡ None
none_of None h = refl
none_of (Some x) h = absurd (h x refl)

pub err_is : {T E : Type 0} (e f : E) (a b : Result T E) → a ≡ Err e → b ≡ Err f → a ≡ b → e ≡ f
err_is e f a b i j h = cc

-- the code of a place that has one
pub coded : (b : Bool) (place : ℕ) (o : Option ℕ) → o ≡ cond b (Some place) None → b ≡ true → o ≡ Some place
coded b place o e t = e ∙ ap (λ c. cond c (Some place) None) t

-- ---- the two kinds of keys

pub bytes_apart : (a b : Option (List ℕ)) → bytes_or_null a ≡ bytes_or_null b → a ≡ b
bytes_apart None None e = refl
bytes_apart None (Some y) e = absurd cc
bytes_apart (Some x) None e = absurd cc
bytes_apart (Some x) (Some y) e = cc

module _ {T : Type 0} (number : T → ℤ) (of_number : ℤ → T) (law : (x : T) → of_number (number x) ≡ x) where
  numbers : (x y : T) → whole_row (number x) ≡ whole_row (number y) → number x ≡ number y
  numbers x y e = cc

  pub numbers_apart : (a b : Option T) → number_or_null number a ≡ number_or_null number b → a ≡ b
  numbers_apart None None e = refl
  numbers_apart None (Some y) e = absurd cc
  numbers_apart (Some x) None e = absurd cc
  numbers_apart (Some x) (Some y) e = ap (λ v. Some v) (sym (law x) ∙ ap of_number (numbers x y e) ∙ law y)

module _ {T : Type 0} (eq : T → T → Bool) (law : (x y : T) → Decides (eq x y) (x ≡ y)) where
  some_is : (x y : T) → Some x ≡ Some y → x ≡ y
  some_is x y e = cc

  pub option_eq-Decides : (a b : Option T) → Decides (option_eq eq a b) (a ≡ b)
  option_eq-Decides None None = (λ e. refl, λ e. refl)
  option_eq-Decides None (Some y) = (λ e. absurd (true≢false (sym e)), λ e. cc)
  option_eq-Decides (Some x) None = (λ e. absurd (true≢false (sym e)), λ e. cc)
  option_eq-Decides (Some x) (Some y) = (λ e. ap (λ v. Some v) ((law x y).0 e), λ e. (law x y).1 (some_is x y e))
