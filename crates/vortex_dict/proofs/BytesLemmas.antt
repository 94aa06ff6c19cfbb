-- What an encoder of bytes keeps, with one key more.
use Rattle.std.proofs.Common.{◌≡◌, ◌==◌, ℕ, suc, ◌+◌, ◌*◌, ◌<◌, ◌≤◌, inl, inr, Bool, true, false}
use Rattle.std.proofs.Common.{not, ◌&&◌, ◌||◌, cond, true≢false, nat_le, nat_lt, Option, Some, None}
use Rattle.std.proofs.Common.{List, [], ◌∷◌, ◌++◌, map, length, refl, ap, sym, ◌∙◌, subst, arith}
use Rattle.std.proofs.Common.{pos, IsTrue}
use Rattle.std.specs.List.{sum_by}
use Rattle.std.specs.Option.{option_map, is_some, unwrap_or}
use Rattle.std.proofs.lemmas.Bool.{cases_lt, eqb-true, eq-eqb}
use Rattle.std.proofs.lemmas.List.{length-map, length-append, map-append}
use Rattle.std.proofs.lemmas.List.Sums.{sum_by-cons, sum_by-append}
use Rattle.vortex_dict.specs.declared.constraints.DictConstraints.{DictConstraints}
use Rattle.vortex_number.specs.Format.{Format, fits}
use Rattle.vortex_terms.specs.Row.{Row, is_null}
use Rattle.vortex_codes.specs.Keys.{Key, key_size, same_key}
use Rattle.vortex_codes.specs.Places.{place_of, with_key, code_in}
use Rattle.vortex_dict.specs.KeyRows.{bytes_or_null}
use Rattle.vortex_dict.specs.Limits.{byte_count, counted, over_by, bytes_over}
use Rattle.vortex_dict.specs.inner.Kept.{HasCodes}

-- ---- sums

pub sum_rows : (ks : List Key) → sum_by byte_count (map bytes_or_null ks) ≡ sum_by key_size ks
sum_rows [] = refl
sum_rows (k ∷ ks) = sum_by-cons byte_count (bytes_or_null k) (map bytes_or_null ks) ∙ (let one = size k in let rest = sum_rows ks in let whole = sum_by-cons key_size k ks in omega (arith, one, rest, whole))
  where
    size : (k : Key) → byte_count (bytes_or_null k) ≡ key_size k
    size None = refl
    size (Some bs) = refl

pub row_size : (k : Key) → byte_count (bytes_or_null k) ≡ key_size k
row_size None = refl
row_size (Some bs) = refl

pub counted_most : (r : Row) → counted r ≤ 16 + byte_count r
counted_most r = by (nat_le (byte_count r) 12) (byte_count r)
  where
    by : (b : Bool) (n : ℕ) → 16 + cond b 0 n ≤ 16 + n
    by true n = omega arith
    by false n = omega arith

pub counted_bound : (rows : List Row) → sum_by counted rows ≤ 16 * length rows + sum_by byte_count rows
counted_bound [] = omega arith
counted_bound (r ∷ rows) = let a = sum_by-cons counted r rows in let b = sum_by-cons byte_count r rows in let one = counted_most r in let rest = counted_bound rows in omega (arith, a, b, one, rest)

-- ---- places

pub place_below : {K : Type 0} (same : K → K → Bool) (k : K) (ks : List K) (c : ℕ) → place_of same k ks ≡ Some c → c < length ks
place_below same k [] c e = absurd (no_place e)
  where
    no_place : None ≡ Some c → ⊥
    no_place h = cc
place_below same k (x ∷ ks) c e = by (place_below same k ks) (same k x) (place_of same k ks) refl e
  where
    some_is : (a b : ℕ) → Some a ≡ Some b → a ≡ b
    some_is a b h = cc

    no_place : None ≡ Some c → ⊥
    no_place h = cc

    by : ((i : ℕ) → place_of same k ks ≡ Some i → i < length ks) → (b : Bool) (o : Option ℕ) → place_of same k ks ≡ o → cond b (Some 0) (option_map (λ n. suc n) o) ≡ Some c → c < suc (length ks)
    by rest true o p h = let same = some_is 0 c h in omega (arith, same)
    by rest false None p h = absurd (no_place h)
    by rest false (Some i) p h = let below = rest i p in let one = some_is (suc i) c h in omega (arith, below, one)

-- ---- codes

module _ {K : Type 0} (same : K → K → Bool) (row : K → Row) (code : Format) (ks : List K) (k : K) (has : HasCodes code (map row ks)) (over : Bool) (fit : over ≡ false → IsTrue (fits code (pos (length (map row ks))))) where
  some_is : (a b : ℕ) → Some a ≡ Some b → a ≡ b
  some_is a b h = cc

  none_is : (a : ℕ) → Some a ≡ None → ⊥
  none_is a h = cc

  codes_push : IsTrue (fits code (pos (length (map row ks)))) → HasCodes code (map row (ks ++ k ∷ []))
  codes_push f i l = elim (cases_lt i (length (map row ks))) [
    | inl h ↦ has i h
    | inr h ↦ (let long = length-map (ks ++ k ∷ []) row in let short = length-map ks row in let more = length-append ks (k ∷ []) in let same : length (map row ks) ≡ i = omega (arith, l, h, long, short, more) in subst (λ n. IsTrue (fits code (pos n))) same f)
  ]

  pub codes_more : (ks' : List K) → ks' ≡ cond (not over) (with_key same ks k) ks → HasCodes code (map row ks')
  codes_more ks' e = rw e (by over refl (place_of same k ks))
    where
      by : (o : Bool) → over ≡ o → (p : Option ℕ) → HasCodes code (map row (cond (not o) (cond (is_some p) ks (ks ++ k ∷ [])) ks))
      by true h p = has
      by false h None = codes_push (fit h)
      by false h (Some i) = has

  pub code_fits : (place : ℕ) → Some place ≡ cond (not over) (Some (code_in same ks k)) (place_of same k ks) → IsTrue (fits code (pos place))
  code_fits place e = by over refl (place_of same k ks) refl e
    where
      found : (i : ℕ) → place_of same k ks ≡ Some i → Some place ≡ Some i → IsTrue (fits code (pos place))
      found i p h = let below = place_below same k ks i p in let one = some_is place i h in has place (let short = length-map ks row in omega (arith, below, one, short))

      by : (o : Bool) → over ≡ o → (p : Option ℕ) → place_of same k ks ≡ p → Some place ≡ cond (not o) (Some (unwrap_or p (length ks))) p → IsTrue (fits code (pos place))
      by true h None p f = absurd (none_is place f)
      by true h (Some i) p f = found i p f
      by false h None p f = subst (λ n. IsTrue (fits code (pos n))) (length-map ks row ∙ sym (some_is place (length ks) f)) (fit h)
      by false h (Some i) p f = found i p f

module _ (ks : List Key) (k : Key) (over : Bool) (count : ℕ) (c : count ≡ sum_by counted (map bytes_or_null ks)) where
  abbrev rows : List Row
  rows = map bytes_or_null ks

  apart_eq : (a b : ℕ) → a < b → (a == b) ≡ false
  apart_eq a b l = by (a == b) refl
    where
      by : (x : Bool) → (a == b) ≡ x → x ≡ false
      by true e = absurd (let same = eqb-true a b e in omega (arith, same, l))
      by false e = refl

  place_is : (a b : ℕ) → Some a ≡ Some b → a ≡ b
  place_is a b h = cc

  no_place : (a : ℕ) → Some a ≡ None → ⊥
  no_place a h = cc

  -- the count with a key that has got a place
  pub count_more : (ks' : List Key) (place count' : ℕ) → ks' ≡ cond (not over) (with_key same_key ks k) ks → Some place ≡ cond (not over) (Some (code_in same_key ks k)) (place_of same_key k ks) → count' ≡ cond (place == length ks) (count + counted (bytes_or_null k)) count → count' ≡ sum_by counted (map bytes_or_null ks')
  count_more ks' place count' e f n = n ∙ by over (place_of same_key k ks) refl e f
    where
      here : (i : ℕ) → place_of same_key k ks ≡ Some i → Some place ≡ Some i → cond (place == length ks) (count + counted (bytes_or_null k)) count ≡ sum_by counted rows
      here i p h = ap (λ b. cond b (count + counted (bytes_or_null k)) count) (apart_eq place (length ks) (let below = place_below same_key k ks i p in let one = place_is place i h in omega (arith, below, one))) ∙ c

      by : (o : Bool) (p : Option ℕ) → place_of same_key k ks ≡ p → ks' ≡ cond (not o) (cond (is_some p) ks (ks ++ k ∷ [])) ks → Some place ≡ cond (not o) (Some (unwrap_or p (length ks))) p → cond (place == length ks) (count + counted (bytes_or_null k)) count ≡ sum_by counted (map bytes_or_null ks')
      by true None q g h = absurd (no_place place h)
      by true (Some i) q g h = here i q h ∙ ap (λ xs. sum_by counted (map bytes_or_null xs)) (sym g)
      by false None q g h =
          let one = place_is place (length ks) h in
          ap (λ b. cond b (count + counted (bytes_or_null k)) count) (eq-eqb place (length ks) one) ∙ (let all = ap (λ xs. sum_by counted (map bytes_or_null xs)) g ∙ ap (sum_by counted) (map-append bytes_or_null ks (k ∷ [])) ∙ sum_by-append counted rows (bytes_or_null k ∷ []) in let last = sum_by-cons counted (bytes_or_null k) [] in omega (arith, all, last, c))
      by false (Some i) q g h = here i q h ∙ ap (λ xs. sum_by counted (map bytes_or_null xs)) (sym g)

-- whether a key is over a limit, by the values
pub over_is : (code : Format) (limits : DictConstraints) (ks : List Key) (k : Key) (b : Bool) (len count : ℕ) → b ≡ over_by code limits len count (bytes_or_null k) → len ≡ length ks → count ≡ sum_by counted (map bytes_or_null ks) → b ≡ bytes_over code limits (map bytes_or_null ks) (bytes_or_null k)
over_is code limits ks k b len count e l c = e ∙ ap (λ n. over_by code limits n count (bytes_or_null k)) (l ∙ sym (length-map ks bytes_or_null)) ∙ ap (λ n. over_by code limits (length (map bytes_or_null ks)) n (bytes_or_null k)) c

-- a place that is within the limits has a code
pub bytes_fit : (code : Format) (limits : DictConstraints) (values : List Row) (r : Row) → bytes_over code limits values r ≡ false → IsTrue (fits code (pos (length values)))
bytes_fit code limits values r e = by (fits code (pos (length values))) (nat_le limits.max_len (length values)) (not (is_null r) && nat_lt limits.max_bytes (sum_by counted values + counted r)) e
  where
    by : (b c d : Bool) → not b || c || d ≡ false → b ≡ true
    by true c d h = refl
    by false c d h = absurd (true≢false h)
