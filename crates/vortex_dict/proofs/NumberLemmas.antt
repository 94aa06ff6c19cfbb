-- Values and their places, with one value more.
use Rattle.std.proofs.Common.{◌≡◌, ℕ, ◌+◌, ◌^◌, ◌<◌, inl, inr, Bool, true, false, true≢false, not}
use Rattle.std.proofs.Common.{◌||◌, nat_le, ◌*◌, map, pos, ℤ, IsTrue, cond, Option, Some, None}
use Rattle.std.proofs.Common.{List, [], ◌∷◌, ◌++◌, length, take, get_or, refl, ap, sym, subst, ◌∙◌}
use Rattle.std.proofs.Common.{arith, mul-suc, Ok, Err, ◌≤◌}
use Rattle.std.specs.Bool.{Decides}
use Rattle.std.specs.Option.{option_eq, unwrap_or, is_some}
use Rattle.std.proofs.lemmas.Bool.{cases_lt}
use Rattle.std.proofs.lemmas.List.{length-map, length-append, length-take-le, get_or_append_left}
use Rattle.std.proofs.lemmas.List.{get_or-take, take_more}
use Rattle.std.proofs.lemmas.Option.{slice_get-get_or}
use Rattle.std.proofs.Math.Seq.{get_or-append_seam}
use Rattle.std.specs.declared.cmp.Ordering.{Ordering}
use Rattle.std.specs.HashMap.{HashMap}
use Rattle.std.specs.BTreeMap.{BTreeMap, get}
use Rattle.vortex_codes.specs.Places.{place_of, with_key, code_in}
use Rattle.vortex_codes.proofs.PlaceLemmas.{place_of-push, unplaced_in, none_in}
use Rattle.std.specs.List.{sum_by}
use Rattle.std.proofs.lemmas.List.Sums.{sum_by-cons}
use Rattle.vortex_number.specs.Format.{Format, fits}
use Rattle.vortex_terms.specs.Row.{Row}
use Rattle.vortex_dict.specs.declared.constraints.DictConstraints.{DictConstraints}
use Rattle.vortex_dict.specs.KeyRows.{number_or_null}
use Rattle.vortex_dict.specs.Limits.{most_values, numbers_over}
use Rattle.vortex_dict.specs.inner.Numbers.{place_in, place_found, HasPlaces}
use Rattle.vortex_dict.proofs.ValueLemmas.{option_eq-Decides}

abbrev Apart : {T : Type 0} → List (Option T) → Type 0
Apart values = (c d : ℕ) → c < length values → d < length values → get_or values c None ≡ get_or values d None → c ≡ d

ok_err : {X E : Type 0} (x : X) (e : E) → Ok x ≡ Err e → ⊥
ok_err x e h = cc

module _ {T : Type 0} (eq : T → T → Bool) (law : (x y : T) → Decides (eq x y) (x ≡ y)) where
  abbrev same : Option T → Option T → Bool
  same = option_eq eq

  pub apart_more : (values : List (Option T)) (v : Option T) → Apart values → place_of same v values ≡ None → Apart (values ++ v ∷ [])
  apart_more values v a none c d l u e =
      let long = length-append values (v ∷ []) in
      let before = λ (i : ℕ) (h : i < length values). get_or_append_left values (v ∷ []) None i h in
      let at_end = get_or-append_seam values v [] None in
      let gone = none_in same (option_eq-Decides eq law) values None v none in
      elim (cases_lt c (length values)) [
        | inl h ↦ elim (cases_lt d (length values)) [ inl k ↦ a c d h k (sym (before c h) ∙ e ∙ before d k) | inr k ↦ absurd (let i : d ≡ length values = omega (arith, long) in gone c h (sym (before c h) ∙ e ∙ ap (λ n. get_or (values ++ v ∷ []) n None) i ∙ at_end)) ]
        | inr h ↦ elim (cases_lt d (length values)) [ inl k ↦ absurd (let i : c ≡ length values = omega (arith, long) in gone d k (sym (before d k) ∙ sym e ∙ ap (λ n. get_or (values ++ v ∷ []) n None) i ∙ at_end)) | inr k ↦ omega (arith, long) ]
      ]

  module _ {S : Type 0} (cmp : T → T → Ordering) (width : ℕ) (values values' : List (Option T)) (codes codes' : HashMap T ℕ S) (ordered ordered' : Option (BTreeMap T ℕ)) (null null' : Option ℕ) where
    pub places_more : (v : Option T) (place : ℕ) → HasPlaces eq cmp width values codes ordered null → place_of same v values ≡ None → values' ≡ values ++ v ∷ [] → place ≡ length values → place + 1 < 2 ^ 32 → width * (place + 1) < 2 ^ 32
        → ((q : Option T) → place_found eq cmp codes' ordered' null' q ≡ cond (same v q) (Some place) (place_found eq cmp codes ordered null q)) → HasPlaces eq cmp width values' codes' ordered' null'
    places_more v place h none e p f w i = rw e (record {
      found = λ q. i q ∙ ap (cond (same v q) (Some place)) (h.found q) ∙ ap (λ n. cond (same v q) (Some n) (place_of same q values)) p ∙ sym (place_of-push same (option_eq-Decides eq law) values v q none);
      apart = apart_more values v h.apart none;
      few = omega (arith, length-append values (v ∷ []), p, f);
      small = (let count : place + 1 ≡ length (values ++ v ∷ []) = omega (arith, length-append values (v ∷ []), p) in subst (λ n. width * n < 2 ^ 32) count w);
    })

    pub places_stay : HasPlaces eq cmp width values codes ordered null → values' ≡ values → ((q : Option T) → place_found eq cmp codes' ordered' null' q ≡ place_found eq cmp codes ordered null q) → HasPlaces eq cmp width values' codes' ordered' null'
    places_stay h e i = rw e (record { found = λ q. i q ∙ h.found q; apart = h.apart; few = h.few; small = h.small })

    -- values found by their order from here on
    pub places_ordered : (m : BTreeMap T ℕ) → HasPlaces eq cmp width values codes ordered null → ((q : T) → get cmp m q ≡ place_of same (Some q) values) → HasPlaces eq cmp width values codes (Some m) null
    places_ordered m h i = record {
      found = λ q. by q;
      apart = h.apart;
      few = h.few;
      small = h.small;
    }
      where
        by : (q : Option T) → place_found eq cmp codes (Some m) null q ≡ place_of same q values
        by None = h.found None
        by (Some q) = i q

  -- a look that left the map as it was
  pub places_looked : {S : Type 0} (cmp : T → T → Ordering) (width : ℕ) (values : List (Option T)) (codes : HashMap T ℕ S) (ordered : Option (BTreeMap T ℕ)) (null : Option ℕ) → HasPlaces eq cmp width values codes ordered null → (values' : List (Option T)) (codes' : HashMap T ℕ S) → values' ≡ values
      → ((q : T) → place_in eq cmp codes' None q ≡ place_in eq cmp codes None q) → HasPlaces eq cmp width values' codes' ordered null
  places_looked cmp width values codes ordered null h values' codes' s i = places_stay cmp width values values' codes codes' ordered ordered null null h s (by ordered)
    where
      by : (o : Option (BTreeMap T ℕ)) → (q : Option T) → place_found eq cmp codes' o null q ≡ place_found eq cmp codes o null q
      by o None = refl
      by None (Some q) = i q
      by (Some m) (Some q) = refl

  -- a look that finds a value or adds it
  module _ {S : Type 0} (cmp : T → T → Ordering) (width : ℕ) (values : List (Option T)) (codes : HashMap T ℕ S) (ordered : Option (BTreeMap T ℕ)) (null : Option ℕ) (v : T) (h : HasPlaces eq cmp width values codes ordered null) (by_hash : ordered ≡ None) where
    looked : place_in eq cmp codes None v ≡ place_of same (Some v) values
    looked = ap (λ o. place_found eq cmp codes o null (Some v)) (sym by_hash) ∙ h.found (Some v)

    abbrev keep : Option ℕ → List (Option T)
    keep o = cond (is_some o) values (values ++ Some v ∷ [])

    abbrev seen : T → Option ℕ
    seen q = place_in eq cmp codes None q

    module _ (place : ℕ) (e : place ≡ unwrap_or (place_in eq cmp codes None v) (length values)) (values' : List (Option T)) (s : values' ≡ cond (is_some (place_in eq cmp codes None v)) values (values ++ Some v ∷ [])) (may : Bool)
        (new : place_in eq cmp codes None v ≡ None → (may ≡ true) × (width * (length values + 1) < 2 ^ 32) × (length values + 1 < 2 ^ 32)) where
      pub one_value : Some place ≡ cond may (Some (code_in same values (Some v))) (place_of same (Some v) values)
      one_value = by (seen v) refl
        where
          code : place ≡ code_in same values (Some v)
          code = e ∙ ap (λ o. unwrap_or o (length values)) looked

          kept : (c : ℕ) → place_of same (Some v) values ≡ Some c → (b : Bool) → Some place ≡ cond b (Some (code_in same values (Some v))) (place_of same (Some v) values)
          kept c f true = ap (λ n. Some n) code
          kept c f false = ap (λ n. Some n) (code ∙ ap (λ o. unwrap_or o (length values)) f) ∙ sym f

          by : (o : Option ℕ) → seen v ≡ o → Some place ≡ cond may (Some (code_in same values (Some v))) (place_of same (Some v) values)
          by None f = ap (λ n. Some n) code ∙ sym (ap (λ b. cond b (Some (code_in same values (Some v))) (place_of same (Some v) values)) (new f).0)
          by (Some c) f = kept c (sym looked ∙ f) may

      pub one_values : values' ≡ cond may (with_key same values (Some v)) values
      one_values = by (seen v) refl
        where
          kept : (c : ℕ) → place_of same (Some v) values ≡ Some c → (b : Bool) → values ≡ cond b (with_key same values (Some v)) values
          kept c f true = sym (ap keep f)
          kept c f false = refl

          by : (o : Option ℕ) → seen v ≡ o → values' ≡ cond may (with_key same values (Some v)) values
          by None f = s ∙ ap keep f ∙ sym (ap (λ b. cond b (with_key same values (Some v)) values) (new f).0 ∙ ap keep (sym looked ∙ f))
          by (Some c) f = s ∙ ap keep f ∙ kept c (sym looked ∙ f) may

      pub one_too_large : {X E : Type 0} (x : X) (error : E) → (Ok x ≡ Err error → IsTrue may × (place_of same (Some v) values ≡ None) × (2 ^ 32 ≤ width * (length values + 1))) × (IsTrue may × (place_of same (Some v) values ≡ None) × (2 ^ 32 ≤ width * (length values + 1)) → Ok x ≡ Err error)
      one_too_large x error = (λ h. absurd (ok_err x error h), λ p. absurd (let few = (new (looked ∙ p.1)).1 in let most = p.2 in omega (arith, few, most)))

      pub one_places : (codes' : HashMap T ℕ S) → ((q : T) → place_in eq cmp codes' None q ≡ cond (eq v q) (Some (unwrap_or (place_in eq cmp codes None v) (length values))) (place_in eq cmp codes None q)) → HasPlaces eq cmp width values' codes' ordered null
      one_places codes' i = by (seen v) refl
        where
          stays : (c : ℕ) → seen v ≡ Some c → (q : T) → (b : Bool) → eq v q ≡ b → cond (eq v q) (Some (unwrap_or (place_in eq cmp codes None v) (length values))) (place_in eq cmp codes None q) ≡ place_in eq cmp codes None q
          stays c f q true t = ap (λ b. cond b (Some (unwrap_or (seen v) (length values))) (seen q)) t ∙ ap (λ o. Some (unwrap_or o (length values))) f ∙ sym f ∙ ap seen ((law v q).0 t)
          stays c f q false t = ap (λ b. cond b (Some (unwrap_or (seen v) (length values))) (seen q)) t

          old_found : (c : ℕ) → seen v ≡ Some c → (q : Option T) → place_found eq cmp codes' ordered null q ≡ place_found eq cmp codes ordered null q
          old_found c f None = refl
          old_found c f (Some q) = rw by_hash (i q ∙ stays c f q (eq v q) refl)

          new_found : (q : Option T) → place_found eq cmp codes' ordered null q ≡ cond (same (Some v) q) (Some place) (place_found eq cmp codes ordered null q)
          new_found None = refl
          new_found (Some q) = rw by_hash (i q ∙ ap (λ n. cond (eq v q) (Some n) (place_in eq cmp codes None q)) (sym e))

          by : (o : Option ℕ) → seen v ≡ o → HasPlaces eq cmp width values' codes' ordered null
          by None f =
              let last : place ≡ length values = e ∙ ap (λ o. unwrap_or o (length values)) f in
              let room = new f in
              places_more cmp width values values' codes codes' ordered ordered null null (Some v) place h (sym looked ∙ f) (s ∙ ap keep f) last (rw last room.2) (rw last room.1) new_found
          by (Some c) f = places_stay cmp width values values' codes codes' ordered ordered null null h (s ∙ ap keep f) (old_found c f)

  some_is : (a b : Option T) → Some a ≡ Some b → a ≡ b
  some_is a b h = cc

  -- a map that has the places of the first values, with one more
  pub found_more : (values : List (Option T)) (i : ℕ) (old new : T → Option ℕ) (x : Option T) (place : ℕ) → Apart values → i < length values → get_or values i x ≡ x → place ≡ i
      → ((v : T) → old v ≡ place_of same (Some v) (take i values)) → ((v : T) → new v ≡ cond (same x (Some v)) (Some place) (old v)) → (v : T) → new v ≡ place_of same (Some v) (take (i + 1) values)
  found_more values i old new x place a l d p o n v =
      let e : get_or values i None ≡ x = some_is (get_or values i None) (get_or values i x) (sym (slice_get-get_or values i None l) ∙ slice_get-get_or values i x l) ∙ d in
      let first = take i values in
      let count : length first ≡ i = length-take-le i values (omega arith) in
      let absent : place_of same x first ≡ None = sym (unplaced_in same (option_eq-Decides eq law) first None x (λ j u f. let below : j < i = omega (arith, u, count) in let one = a j i (omega (arith, below, l)) l (sym (get_or-take i values j None below) ∙ f ∙ sym e) in omega (arith, below, one))) in
      n v ∙ ap (λ q. cond (same x (Some v)) (Some place) q) (o v) ∙ ap (λ q. cond (same x (Some v)) (Some q) (place_of same (Some v) first)) (p ∙ sym count) ∙ sym (place_of-push same (option_eq-Decides eq law) first x (Some v) absent) ∙ ap (place_of same (Some v)) (ap (λ q. first ++ q ∷ []) (sym e) ∙ sym (take_more values i None l))

-- whether a value is over a limit, by the values
pub full_is : {T : Type 0} (number : T → ℤ) (code : Format) (width : ℕ) (limits : DictConstraints) (ks : List (Option T)) (r : Row) (b : Bool) (len : ℕ) → b ≡ (not (fits code (pos len)) || nat_le (most_values width limits) len) → len ≡ length ks → b ≡ numbers_over code width limits (map (number_or_null number) ks) r
full_is number code width limits ks r b len e l = e ∙ ap (λ n. not (fits code (pos n)) || nat_le (most_values width limits) n) (l ∙ sym (length-map ks (number_or_null number)))

-- a place that is within the limits has a code
pub numbers_fit : (code : Format) (width : ℕ) (limits : DictConstraints) (values : List Row) (r : Row) → numbers_over code width limits values r ≡ false → IsTrue (fits code (pos (length values)))
numbers_fit code width limits values r e = by (fits code (pos (length values))) (nat_le (most_values width limits) (length values)) e
  where
    by : (b c : Bool) → not b || c ≡ false → b ≡ true
    by true c h = refl
    by false c h = absurd (true≢false h)

-- the bytes of so many values
pub sum_widths : (w : ℕ) (rows : List Row) → sum_by (λ r. w) rows ≡ w * length rows
sum_widths w [] = omega arith
sum_widths w (r ∷ rows) = sum_by-cons (λ q. w) r rows ∙ ap (λ n. w + n) (sum_widths w rows) ∙ (let one = mul-suc w (length rows) in omega (arith, one))
