-- What the distinct rows sum to, with more rows.
use Rattle.std.proofs.Common.{◌≡◌, ℕ, zero, suc, ◌+◌, ◌-◌, ◌^◌, ◌<◌, ◌≤◌, inl, inr, Bool, true}
use Rattle.std.proofs.Common.{false, cond, true≢false, List, [], ◌∷◌, ◌++◌, length, take, get_or}
use Rattle.std.proofs.Common.{refl, ap, sym, subst, ◌∙◌, arith}
use Rattle.std.specs.List.{list_any, sum_by}
use Rattle.std.proofs.lemmas.Bool.{cases_lt}
use Rattle.std.proofs.lemmas.List.{append_assoc, take_all, take_more}
use Rattle.std.proofs.lemmas.List.Sums.{sum_by-append}
use Rattle.vortex_terms.specs.Row.{Row, null_row}
use Rattle.vortex_terms.specs.Order.{row_eq}
use Rattle.vortex_terms.specs.Distinct.{distinct}
use Rattle.vortex_terms.specs.DistinctLaws.{distinct-push}
use Rattle.vortex_dict.specs.Encoding.{stops_at, Encodes, IsFull}

module _ (size : Row → ℕ) where
  sum_more : (rows : List Row) (r : Row)
      → sum_by size (distinct rows) ≤ sum_by size (distinct (rows ++ r ∷ []))
  sum_more rows r =
      let all = ap (sum_by size) (distinct-push rows r) in
      let most = by (list_any (row_eq r) rows) in
      omega (arith, all, most)
    where
      by : (b : Bool) → sum_by size (distinct rows)
          ≤ sum_by size (cond b (distinct rows) (distinct rows ++ r ∷ []))
      by true = omega arith
      by false = let all = sum_by-append size (distinct rows) (r ∷ []) in omega (arith, all)

  sum_first : (held rows : List Row) (i k n : ℕ) → n ≡ i + k → n ≤ length rows
      → sum_by size (distinct (held ++ take i rows)) ≤ sum_by size (distinct (held ++ take n rows))
  sum_first held rows i zero n e l =
      let same : i ≡ n = omega (arith, e) in
      let sums = ap (λ m. sum_by size (distinct (held ++ take m rows))) same in
      omega (arith, sums)
  sum_first held rows i (suc k) n e l =
      let before = i + k in
      let next : n ≡ before + 1 = omega (arith, e) in
      let rest = sum_first held rows i k before refl (omega (arith, next, l)) in
      let r = get_or rows before null_row in
      let one = ap (λ j. held ++ take j rows) next
      ∙ ap (λ rs. held ++ rs) (take_more rows before null_row (omega (arith, next, l)))
      ∙ sym (append_assoc held (take before rows) (r ∷ [])) in
      let sums = ap (λ rs. sum_by size (distinct rs)) one in
      let more = sum_more (held ++ take before rows) r in
      omega (arith, rest, sums, more)

  -- where some of these first rows have values of so many bytes, so have all of them
  pub full_from : (over : List Row → Row → Bool) (held rows : List Row) (left n : ℕ)
      → n + left ≡ length rows → ((i : ℕ) → i < n → stops_at over held rows i ≡ false)
      → 2 ^ 32 ≤ sum_by size (distinct (held ++ take n rows)) → IsFull over size held rows
  full_from over held rows zero n e w b = record {
    rows_in = n;
    count = omega (arith, e);
    within = w;
    stops = λ l. absurd (omega (arith, l, e));
    bytes = b;
  }
  full_from over held rows (suc left) n e w b =
      by (stops_at over held rows n) refl
      (λ s. full_from over held rows left (n + 1) (omega (arith, e)) (next s)
      (let more = sum_first held rows n 1 (n + 1) (omega arith) (omega (arith, e)) in
      omega (arith, more, b)))
    where
      next : stops_at over held rows n ≡ false
          → (i : ℕ) → i < n + 1 → stops_at over held rows i ≡ false
      next s i l = elim (cases_lt i n) [
        | inl h ↦ w i h
        | inr h ↦ (let same : n ≡ i = omega (arith, l, h) in
            subst (λ k. stops_at over held rows k ≡ false) same s)
      ]

      by : (x : Bool) → stops_at over held rows n ≡ x
          → (stops_at over held rows n ≡ false → IsFull over size held rows)
          → IsFull over size held rows
      by true s rest = record {
        rows_in = n;
        count = omega (arith, e);
        within = w;
        stops = λ l. s;
        bytes = b;
      }
      by false s rest = rest s

  pub not_too_large : (over : List Row → Row → Bool) (held rows values : List Row) (codes : List ℕ)
      → Encodes over held rows values codes → sum_by size values < 2 ^ 32
      → IsFull over size held rows → ⊥
  not_too_large over held rows values codes e s p = elim (cases_lt (length codes) p.rows_in) [
    | inl l ↦ true≢false (sym (e.stops (omega (arith, l, p.count))) ∙ p.within (length codes) l)
    | inr g ↦ (let n = p.rows_in in
        let most = sum_first held rows n (length codes - n) (length codes) (omega (arith, g)) e.count in
        let same = ap (sum_by size) e.values_are in
        omega (arith, most, same, s, p.bytes))
  ]

  pub all_too_large : (over : List Row → Row → Bool) (rows : List Row)
      → IsFull over size [] rows → 2 ^ 32 ≤ sum_by size (distinct rows)
  all_too_large over rows p =
      let n = p.rows_in in
      let whole = length rows in
      let most = sum_first [] rows n (whole - n) whole (omega (arith, p.count)) (omega arith) in
      let all = take_all whole rows (omega arith) in
      let same = ap (λ rs. sum_by size (distinct rs)) all in
      omega (arith, most, same, p.bytes)
