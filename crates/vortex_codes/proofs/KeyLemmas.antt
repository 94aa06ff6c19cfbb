-- Keys in a buffer, and one more at its end.
use Rattle.std.proofs.Common.{◌≡◌, ◌≢◌, ◌==◌, ℕ, suc, ◌+◌, ◌-◌, ◌^◌, ◌<◌, ◌≤◌, ◌⊎◌, inl, inr, Bool}
use Rattle.std.proofs.Common.{true, false, true≢false, Some, None, List, [], ◌∷◌, ◌++◌, map, length}
use Rattle.std.proofs.Common.{get_or, take, drop, refl, ap, sym, ◌∙◌, arith}
use Rattle.std.specs.Bool.{Decides}
use Rattle.std.specs.List.{slice_range, range_with_len, sum_by}
use Rattle.std.proofs.lemmas.Bool.{cases_lt, eqb-true, eq-eqb}
use Rattle.std.proofs.lemmas.List.{length-append, length-drop, get_or_append_left, drop-append-le}
use Rattle.std.proofs.lemmas.List.{take-append-le, drop_at, take_all}
use Rattle.std.proofs.lemmas.List.FromFn.{length-map-range_with_len, get_or-map-range_with_len}
use Rattle.std.proofs.lemmas.List.FromFn.{map-range_with_len_more, fill_by_all}
use Rattle.std.proofs.lemmas.List.Sums.{sum_by-append, sum_by-cons}
use Rattle.std.proofs.Math.Seq.{get_or-append_seam}
use Rattle.std.proofs.lemmas.Slice.Eq.{bytes_eq-Decides}
use Rattle.vortex_codes.specs.Keys.{Key, same_key, key_bytes, key_size, null_after, key_at, keys_of}
use Rattle.vortex_codes.specs.Table.{IsParted, IsApart}

pub same_key-Decides : (a b : Key) → Decides (same_key a b) (a ≡ b)
same_key-Decides None None = (λ e. refl, λ e. refl)
same_key-Decides None (Some y) = (λ e. absurd (true≢false (sym e)), λ e. cc)
same_key-Decides (Some x) None = (λ e. absurd (true≢false (sym e)), λ e. cc)
same_key-Decides (Some x) (Some y) = (λ e. ap (λ z. Some z) ((bytes_eq-Decides x y).0 e), λ e. (bytes_eq-Decides x y).1 cc)

-- ---- a key more

eqb_apart : (a b : ℕ) → a ≢ b → (a == b) ≡ false
eqb_apart a b h = by (a == b) refl
  where
    by : (x : Bool) → (a == b) ≡ x → (a == b) ≡ false
    by true e = absurd (h (eqb-true a b e))
    by false e = e

module _ (bytes offsets : List ℕ) (null : ℕ) (p : IsParted bytes offsets null) (key : Key) where
  abbrev piece : List ℕ
  piece = key_bytes key

  abbrev bytes' : List ℕ
  bytes' = bytes ++ piece

  abbrev offsets' : List ℕ
  offsets' = offsets ++ (length bytes + length piece) ∷ []

  before : (i : ℕ) → i < length offsets → get_or offsets' i 0 ≡ get_or offsets i 0
  before i l = get_or_append_left offsets ((length bytes + length piece) ∷ []) 0 i l

  at_end : get_or offsets' (length offsets) 0 ≡ length bytes + length piece
  at_end = get_or-append_seam offsets (length bytes + length piece) [] 0

  longer : length offsets' ≡ length offsets + 1
  longer = length-append offsets ((length bytes + length piece) ∷ [])

  slice_before : (c : ℕ) → suc c < length offsets → slice_range bytes' (get_or offsets' c 0) (get_or offsets' (suc c) 0) ≡ slice_range bytes (get_or offsets c 0) (get_or offsets (suc c) 0)
  slice_before c l =
      let k = p.parted c l in
      let a = get_or offsets c 0 in
      let b = get_or offsets (suc c) 0 in
      let far : a ≤ length bytes = omega (arith, k.rises, k.ends) in
      let fits : b - a ≤ length (drop a bytes) = omega (arith, length-drop a bytes, k.ends) in
      rw (before c (omega arith), before (suc c) l) (ap (take (b - a)) (drop-append-le a bytes piece far) ∙ take-append-le (b - a) (drop a bytes) piece fits)

  slice_end : (c : ℕ) → suc c ≡ length offsets → slice_range bytes' (get_or offsets' c 0) (get_or offsets' (suc c) 0) ≡ piece
  slice_end c l =
      let one : length offsets - 1 ≡ c = omega arith in
      let first : get_or offsets' c 0 ≡ length bytes = before c (omega arith) ∙ ap (λ i. get_or offsets i 0) (sym one) ∙ p.last in
      let second : get_or offsets' (suc c) 0 ≡ length bytes + length piece = ap (λ i. get_or offsets' i 0) l ∙ at_end in
      rw (first, second, drop_at bytes piece (length bytes) refl) (take_all (length bytes + length piece - length bytes) piece (omega arith))

  abbrev null' : ℕ
  null' = null_after key null (length offsets - 1)

  after : ((key ≡ Some piece) × (null' ≡ null)) ⊎ ((key ≡ None) × (null' ≡ length offsets - 1))
  after = by key
    where
      by : (k : Key) → ((k ≡ Some (key_bytes k)) × (null_after k null (length offsets - 1) ≡ null)) ⊎ ((k ≡ None) × (null_after k null (length offsets - 1) ≡ length offsets - 1))
      by None = inr (refl, refl)
      by (Some bs) = inl (refl, refl)

  module _ (absent : (c : ℕ) → c < length offsets - 1 → key_at bytes offsets null c ≡ key → ⊥) where
    null_none : (c : ℕ) → key_at bytes offsets c c ≡ None
    null_none c = rw (eq-eqb c c refl) refl

    same_null : (c : ℕ) → c < length offsets - 1 → (c == null') ≡ (c == null)
    same_null c l = elim after [
      | inl h ↦ ap (λ k. c == k) h.1
      | inr h ↦ (elim p.null_code [ inl u ↦ absurd (absent null (omega arith) (null_none null ∙ sym h.0)) | inr u ↦ eqb_apart c null' (λ e. omega (arith, e, h.1)) ∙ sym (eqb_apart c null (λ e. omega (arith, e, u, p.few))) ])
    ]

    pub key_before : (c : ℕ) → c < length offsets - 1 → key_at bytes' offsets' null' c ≡ key_at bytes offsets null c
    key_before c l = rw (same_null c l, slice_before c (omega arith)) refl

    pub key_end : (c : ℕ) → suc c ≡ length offsets → key_at bytes' offsets' null' c ≡ key
    key_end c l = elim after [
      | inl h ↦ (let apart : c ≢ null' = λ e. elim p.null_code [ inl u ↦ omega (arith, u, e, h.1) | inr u ↦ omega (arith, u, e, h.1, p.few) ] in rw (eqb_apart c null' apart, slice_end c l) (sym h.0))
      | inr h ↦ (let same : c ≡ null' = omega (arith, h.1) in rw (eq-eqb c null' same) (sym h.0))
    ]

    pub count' : length offsets' - 1 ≡ (length offsets - 1) + 1
    count' = omega (arith, longer, p.some)

    pub keys_more : keys_of bytes' offsets' null' ≡ keys_of bytes offsets null ++ key ∷ []
    keys_more =
        let m = length offsets - 1 in
        ap (λ k. map (key_at bytes' offsets' null') (range_with_len 0 k)) count' ∙ map-range_with_len_more (key_at bytes' offsets' null') 0 m m (omega arith)
        ∙ ap (λ k. map (key_at bytes' offsets' null') (range_with_len 0 m) ++ k ∷ []) (key_end m (omega (arith, p.some)))
        ∙ ap (λ ks. ks ++ key ∷ []) (fill_by_all (key_at bytes offsets null) (map (key_at bytes' offsets' null') (range_with_len 0 m)) m key (length-map-range_with_len (key_at bytes' offsets' null') 0 m)
        (λ k l. get_or-map-range_with_len (key_at bytes' offsets' null') 0 m k k key l (omega arith) ∙ key_before k l))

    pub parted_more : length bytes + length piece < 2 ^ 32 → length offsets + 1 < 2 ^ 32 → IsParted bytes' offsets' null'
    parted_more s f = record {
      some = omega (arith, longer);
      parted = λ c l. elim (cases_lt (suc c) (length offsets)) [
        | inl u ↦ (let k = p.parted c u in record {
          within = l;
          rises = rw (before c (omega arith), before (suc c) u) k.rises;
          ends = rw (before (suc c) u) (omega (arith, k.ends, length-append bytes piece));
        })
        | inr u ↦ (let e : suc c ≡ length offsets = omega (arith, l, longer) in
            let first : get_or offsets' c 0 ≡ length bytes = before c (omega arith) ∙ ap (λ i. get_or offsets i 0) (let one : c ≡ length offsets - 1 = omega arith in one) ∙ p.last in
            let second : get_or offsets' (suc c) 0 ≡ length bytes + length piece = ap (λ i. get_or offsets' i 0) e ∙ at_end in
            record { within = l; rises = omega (arith, first, second); ends = omega (arith, second, length-append bytes piece) })
      ];
      last = (let e : length offsets' - 1 ≡ length offsets = omega (arith, longer) in ap (λ i. get_or offsets' i 0) e ∙ at_end ∙ sym (length-append bytes piece));
      small = omega (arith, length-append bytes piece);
      few = omega (arith, longer);
      null_code = elim after [
        | inl h ↦ elim p.null_code [ inl u ↦ inl (omega (arith, u, h.1, longer)) | inr u ↦ inr (h.1 ∙ u) ]
        | inr h ↦ inl (omega (arith, h.1, longer, p.some))
      ];
      size = ap (sum_by key_size) keys_more ∙ sum_by-append key_size (keys_of bytes offsets null) (key ∷ []) ∙ (let one = sum_by-cons key_size key [] in let whole = length-append bytes piece in omega (arith, p.size, one, whole));
    }

    pub apart_more : IsApart (key_at bytes offsets null) (length offsets - 1) → IsApart (key_at bytes' offsets' null') (length offsets' - 1)
    apart_more a c d l u e = elim (cases_lt c (length offsets - 1)) [
      | inl h ↦ elim (cases_lt d (length offsets - 1)) [
        | inl k ↦ a c d h k (sym (key_before c h) ∙ e ∙ key_before d k)
        | inr k ↦ absurd (absent c h (sym (key_before c h) ∙ e ∙ key_end d (omega (arith, longer))))
      ]
      | inr h ↦ elim (cases_lt d (length offsets - 1)) [
        | inl k ↦ absurd (absent d k (sym (key_before d k) ∙ sym e ∙ key_end c (omega (arith, longer))))
        | inr k ↦ omega (arith, longer)
      ]
    ]

pub length-keys_of : (bytes offsets : List ℕ) (null : ℕ) → length (keys_of bytes offsets null) ≡ length offsets - 1
length-keys_of bytes offsets null = length-map-range_with_len (key_at bytes offsets null) 0 (length offsets - 1)
