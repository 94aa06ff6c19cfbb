-- Rows as values and codes, one row on and at the end.
use Rattle.std.proofs.Common.{◌≡◌, ℕ, ◌+◌, ◌-◌, ◌^◌, ◌<◌, ◌≤◌, inl, inr, Bool, true, false, not, ◌&&◌}
use Rattle.std.proofs.Common.{◌||◌, cond, true≢false, Some, None, List, [], ◌∷◌, ◌++◌, length, take}
use Rattle.std.proofs.Common.{get_or, refl, ap, sym, ◌∙◌, subst, arith}
use Rattle.std.specs.List.{sum_by}
use Rattle.std.proofs.lemmas.Bool.{cases_lt}
use Rattle.std.proofs.lemmas.List.{append-nil, append_assoc, length-append, take_more}
use Rattle.std.proofs.lemmas.List.Sums.{sum_by-cons, sum_by-append}
use Rattle.vortex_terms.specs.Row.{Row, null_row}
use Rattle.vortex_terms.specs.Distinct.{distinct, first_place, codes_of}
use Rattle.vortex_terms.specs.DistinctLaws.{distinct-push, distinct-stands, codes_of-push}
use Rattle.vortex_dict.specs.Encoding.{stands, is_stop, stops_at, Encodes, EncodesPart, IsFull}
use Rattle.vortex_dict.specs.inner.Step.{EncodesValue}
use Rattle.vortex_dict.proofs.SizeLemmas.{full_from}

module _ (over : List Row → Row → Bool) (held rows : List Row) where
  -- what is known after the first i rows
  pub record After (i : ℕ) (values : List Row) (codes : List ℕ) : Type 0 where
    pub counted : length codes ≡ i
    pub within : (j : ℕ) → j < i → stops_at over held rows j ≡ false
    pub values_are : values ≡ distinct (held ++ take i rows)
    pub codes_are : codes_of held ++ codes ≡ codes_of (held ++ take i rows)

  pub start : distinct held ≡ held → After 0 held []
  start own = record {
    counted = refl;
    within = λ j l. absurd (omega arith);
    values_are = sym (ap distinct (append-nil held) ∙ own);
    codes_are = append-nil (codes_of held) ∙ ap codes_of (sym (append-nil held));
  }

  module _ (i : ℕ) (values : List Row) (codes : List ℕ) (a : After i values codes) where
    abbrev before : List Row
    before = held ++ take i rows

    stands_before : (r : Row) → stands r values ≡ stands r before
    stands_before r = ap (stands r) a.values_are ∙ distinct-stands r before

    -- whether the next row stops is told by the values
    stop_is : (r : Row) → get_or rows i null_row ≡ r → stops_at over held rows i ≡ not (stands r values) && over values r
    stop_is r e = ap (is_stop over before) e ∙ ap (λ b. not b && over (distinct before) r) (sym (stands_before r)) ∙ ap (λ vs. not (stands r values) && over vs r) (sym a.values_are)

    one_more : (r : Row) → get_or rows i null_row ≡ r → i < length rows → held ++ take (i + 1) rows ≡ before ++ r ∷ []
    one_more r e l = ap (λ rs. held ++ rs) (take_more rows i null_row l ∙ ap (λ q. take i rows ++ q ∷ []) e) ∙ sym (append_assoc held (take i rows) (r ∷ []))

    distinct_more : (r : Row) → get_or rows i null_row ≡ r → i < length rows → distinct (held ++ take (i + 1) rows) ≡ cond (stands r values) values (values ++ r ∷ [])
    distinct_more r e l = ap distinct (one_more r e l) ∙ distinct-push before r ∙ ap (λ b. cond b (distinct before) (distinct before ++ r ∷ [])) (sym (stands_before r)) ∙ ap (λ vs. cond (stands r values) vs (vs ++ r ∷ [])) (sym a.values_are)

    within_more : stops_at over held rows i ≡ false → (j : ℕ) → j < i + 1 → stops_at over held rows j ≡ false
    within_more s j u = elim (cases_lt j i) [ inl h ↦ a.within j h | inr h ↦ (let same : i ≡ j = omega (arith, u, h) in subst (λ k. stops_at over held rows k ≡ false) same s) ]

    pub more : (r : Row) (values' : List Row) (code : ℕ) → get_or rows i null_row ≡ r → i < length rows → values' ≡ cond (stands r values || over values r) values (values ++ r ∷ []) → not (stands r values) && over values r ≡ false → code ≡ first_place r values → After (i + 1) values' (codes ++ code ∷ [])
    more r values' code e l v s c = record {
      counted = omega (arith, length-append codes (code ∷ []), a.counted);
      within = within_more (stop_is r e ∙ s);
      values_are = v ∙ by (stands r values) (over values r) s ∙ sym (distinct_more r e l);
      codes_are = sym (append_assoc (codes_of held) codes (code ∷ [])) ∙ ap (λ cs. cs ++ code ∷ []) a.codes_are ∙ ap (λ n. codes_of before ++ n ∷ []) (c ∙ ap (first_place r) a.values_are) ∙ sym (codes_of-push before r) ∙ ap codes_of (sym (one_more r e l));
    }
      where
        by : (b o : Bool) → not b && o ≡ false → cond (b || o) values (values ++ r ∷ []) ≡ cond b values (values ++ r ∷ [])
        by true o h = refl
        by false true h = absurd (true≢false h)
        by false false h = refl

    -- the rows end, or the next one stops
    pub ends : length rows ≤ i → i ≤ length rows → Encodes over held rows values codes
    ends l u = record {
      count = omega (arith, a.counted, u);
      within = λ j h. a.within j (omega (arith, h, a.counted));
      stops = λ h. absurd (omega (arith, h, l, a.counted));
      values_are = a.values_are ∙ ap (λ n. distinct (held ++ take n rows)) (sym a.counted);
      codes_are = a.codes_are ∙ ap (λ n. codes_of (held ++ take n rows)) (sym a.counted);
    }

    pub stops : (r : Row) (values' : List Row) → get_or rows i null_row ≡ r → i < length rows → values' ≡ cond (stands r values || over values r) values (values ++ r ∷ []) → not (stands r values) && over values r ≡ true → Encodes over held rows values' codes
    stops r values' e l v s = record {
      count = omega (arith, a.counted, l);
      within = λ j h. a.within j (omega (arith, h, a.counted));
      stops = λ h. ap (stops_at over held rows) a.counted ∙ stop_is r e ∙ s;
      values_are = v ∙ by (stands r values) (over values r) s ∙ a.values_are ∙ ap (λ n. distinct (held ++ take n rows)) (sym a.counted);
      codes_are = a.codes_are ∙ ap (λ n. codes_of (held ++ take n rows)) (sym a.counted);
    }
      where
        by : (b o : Bool) → not b && o ≡ true → cond (b || o) values (values ++ r ∷ []) ≡ values
        by true o h = refl
        by false true h = refl
        by false false h = absurd (true≢false (sym h))

    pub part : (values' : List Row) → values' ≡ values → i ≤ length rows → EncodesPart over held rows values'
    part values' e l = record { rows_in = i; count = l; within = a.within; values_are = e ∙ a.values_are }

    pub too_large : (size : Row → ℕ) (r : Row) → get_or rows i null_row ≡ r → i < length rows → stands r values ≡ false → over values r ≡ false → 2 ^ 32 ≤ sum_by size values + size r → IsFull over size held rows
    too_large size r e l s o p =
        let all = ap (sum_by size) (distinct_more r e l ∙ ap (λ b. cond b values (values ++ r ∷ [])) s) ∙ sum_by-append size values (r ∷ []) in
        let one = sum_by-cons size r [] in
        full_from size over held rows (length rows - (i + 1)) (i + 1) (omega (arith, l)) (within_more (stop_is r e ∙ ap (λ b. not b && over values r) s ∙ o)) (omega (arith, all, one, p))

    -- one row more, as encoding a value tells it
    module _ (r : Row) (values' : List Row) (e : get_or rows i null_row ≡ r) (l : i < length rows) where
      some_is : {a b : ℕ} → Some a ≡ Some b → a ≡ b
      some_is h = cc

      some_none : {a : ℕ} → Some a ≡ None → ⊥
      some_none h = cc

      pub more_by : (code : ℕ) → EncodesValue over values r values' (Some code) → After (i + 1) values' (codes ++ code ∷ [])
      more_by code v = by (not (stands r values) && over values r) refl v.code_is
        where
          by : (b : Bool) → not (stands r values) && over values r ≡ b → Some code ≡ cond b None (Some (first_place r values)) → After (i + 1) values' (codes ++ code ∷ [])
          by true s h = absurd (some_none h)
          by false s h = more r values' code e l v.values_are s (some_is h)

      pub stops_by : EncodesValue over values r values' None → Encodes over held rows values' codes
      stops_by v = by (not (stands r values) && over values r) refl v.code_is
        where
          by : (b : Bool) → not (stands r values) && over values r ≡ b → None ≡ cond b None (Some (first_place r values)) → Encodes over held rows values' codes
          by true s h = stops r values' e l v.values_are s
          by false s h = absurd (some_none (sym h))

      pub part_by : (code : ℕ) → EncodesValue over values r values' (Some code) → EncodesPart over held rows values'
      part_by code v = let a' = more_by code v in record { rows_in = i + 1; count = omega (arith, l); within = a'.within; values_are = a'.values_are }
