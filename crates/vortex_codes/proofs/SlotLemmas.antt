-- Walks round slots.
use Rattle.std.proofs.Common.{◌≡◌, ◌≢◌, ℕ, zero, suc, ◌+◌, ◌-◌, ◌<◌, ◌≤◌, ◌⊎◌, inl, inr, Bool, true}
use Rattle.std.proofs.Common.{false, List, [], ◌∷◌, length, get_or, set, refl, ap, sym, ◌∙◌, arith}
use Rattle.std.proofs.Common.{true≢false, get_or-set_same, get_or-set_other}
use Rattle.std.proofs.lemmas.Bool.{cases_eq, cases_lt, cases_order}
use Rattle.std.proofs.lemmas.List.{length-set}
use Rattle.std.proofs.lemmas.List.Sums.{sum_by-cons, sum_by-set}
use Rattle.vortex_codes.specs.Slots.{Passed, Walked, Taken, IsPlaced, IsFilled, free_one}
use Rattle.vortex_codes.specs.Slots.{free_count}

pub passed_more : (finds : ℕ → Bool) (slots : List ℕ) (a b s : ℕ) → Passed finds slots a b → s ≡ get_or slots b 0 → s ≢ 0 → finds (s - 1) ≡ false → Passed finds slots a (b + 1)
passed_more finds slots a b zero p e h m q l u = absurd (h refl)
passed_more finds slots a b (suc s) p e h m q l u = elim (cases_eq q b) [ inl i ↦ (s, ap (λ k. get_or slots k 0) i ∙ sym e, let one : s ≡ suc s - 1 = omega arith in ap finds one ∙ m) | inr n ↦ p q l (omega arith) ]

free_none : (slots : List ℕ) → ((q : ℕ) → q < length slots → (c : ℕ) × (get_or slots q 0 ≡ suc c)) → free_count slots ≡ 0
free_none [] h = refl
free_none (s ∷ slots) h = sum_by-cons free_one s slots ∙ (let first = ap free_one (h 0 (omega arith)).1 in let rest = free_none slots (λ q l. h (suc q) (omega arith)) in omega (arith, first, rest))

-- a walk that seeks nothing stops at a free slot, if there is one
pub stops_free : (slots : List ℕ) (start at : ℕ) → 0 < free_count slots → at ≤ length slots → Walked (λ c. false) slots start at → at < length slots
stops_free slots start at f w (inl p) = p.1
stops_free slots start at f w (inr p) = elim (cases_lt at (length slots)) [ inl l ↦ l | inr g ↦ absurd (let none = free_none slots (λ q l. let k = p.1 q (omega arith) (omega arith) in (k.0, k.1)) in omega (arith, none, f)) ]

pub is_free : (s : ℕ) → ((c : ℕ) → s ≡ suc c → false ≡ true) → s ≡ 0
is_free zero h = refl
is_free (suc c) h = absurd (true≢false (sym (h c refl)))

only_code : (slots : List ℕ) (at code q c : ℕ) → at < length slots → get_or (set slots at (suc code)) q 0 ≡ suc c → (get_or slots q 0 ≡ suc c) ⊎ (c ≡ code)
only_code slots at code q c w e = elim (cases_eq q at) [ inl i ↦ inr (let here = get_or-set_same slots at (suc code) 0 w in let there = ap (λ k. get_or (set slots at (suc code)) k 0) i in omega (arith, e, here, there)) | inr n ↦ inl (sym (get_or-set_other slots at q (suc code) 0 n) ∙ e) ]

pub filled : (slots : List ℕ) (at code : ℕ) → get_or slots at 0 ≡ 0 → at < length slots → IsFilled slots (set slots at (suc code)) code
filled slots at code z w = record {
  same_length = length-set slots at (suc code);
  keeps = λ q c e. let apart : q ≢ at = λ i. absurd (omega (arith, e, z, ap (λ k. get_or slots k 0) i)) in rw get_or-set_other e;
  only = λ q c e. only_code slots at code q c w e;
}

still_taken : (old new : List ℕ) (code a b : ℕ) → IsFilled old new code → ((q : ℕ) → a ≤ q → q < b → (c : ℕ) × (get_or old q 0 ≡ suc c)) → Taken new a b
still_taken old new code a b f t q l u z = let k = t q l u in let kept = f.keeps q k.0 k.1 in omega (arith, kept, z)

pub placed : (slots : List ℕ) (start at code : ℕ) → get_or slots at 0 ≡ 0 → at < length slots → Walked (λ c. false) slots start at → IsPlaced (set slots at (suc code)) start code
placed slots start at code z w p =
    let f = filled slots at code z w in
    let by = λ (a b : ℕ) (h : Passed (λ c. false) slots a b). still_taken slots (set slots at (suc code)) code a b f (λ q l u. ((h q l u).0, (h q l u).1)) in
    record {
      at = at;
      within = rw f.same_length w;
      holds = get_or-set_same slots at (suc code) 0 w;
      reached = elim p [ inl h ↦ inl (h.0, by start at h.2) | inr h ↦ inr (rw f.same_length (by start (length slots) h.0), by 0 at h.1) ];
    }

pub one_less : (slots : List ℕ) (at code : ℕ) → get_or slots at 0 ≡ 0 → at < length slots → free_count (set slots at (suc code)) + 1 ≡ free_count slots
one_less slots at code z w = let put = sum_by-set free_one slots at (suc code) 0 w in let was = ap free_one z in omega (arith, put, was)

pub passed_all : (finds : ℕ → Bool) (slots : List ℕ) (start a b : ℕ) → length slots ≤ a → start ≤ b → Passed finds slots start a → Passed finds slots 0 b → Walked finds slots start (length slots)
passed_all finds slots start a b l m p r = inr (λ q k u. p q k (omega arith), λ q k u. elim (cases_lt q b) [ inl h ↦ r q k h | inr h ↦ p q (omega arith) (omega arith) ])

-- a walk that stops at no free slot or what is sought has passed each code but what it found
pub missed : (finds : ℕ → Bool) (slots : List ℕ) (start at code : ℕ) → Walked finds slots start at → (at < length slots → get_or slots at 0 ≡ 0) → IsPlaced slots start code → finds code ≡ false
missed finds slots start at code w z p = by w p.reached
  where
    here : (a b : ℕ) → a ≤ p.at → p.at < b → Passed finds slots a b → finds code ≡ false
    here a b l u h = let k = h p.at l u in let same : k.0 ≡ code = omega (arith, k.1, p.holds) in ap finds (sym same) ∙ k.2

    none : p.at ≡ at → finds code ≡ false
    none i = absurd (let free = z (omega (arith, p.within)) in let there = ap (λ k. get_or slots k 0) i in omega (arith, free, there, p.holds))

    ahead : (a : ℕ) → a ≤ at → at < length slots → at < p.at → Taken slots a p.at → finds code ≡ false
    ahead a l m u t = absurd (t at l u (z m))

    by : Walked finds slots start at → ((start ≤ p.at) × Taken slots start p.at) ⊎ (Taken slots start (length slots) × Taken slots 0 p.at) → finds code ≡ false
    by (inl v) (inl r) = elim (cases_order p.at at) [ inl i ↦ none i | inr (inl l) ↦ here start at r.0 l v.2 | inr (inr g) ↦ ahead start v.0 v.1 g r.1 ]
    by (inl v) (inr r) = absurd (r.0 at v.0 v.1 (z v.1))
    by (inr v) (inl r) = here start (length slots) r.0 p.within v.0
    by (inr v) (inr r) = elim (cases_order p.at at) [ inl i ↦ none i | inr (inl l) ↦ here 0 at (omega arith) l v.1 | inr (inr g) ↦ ahead 0 (omega arith) (omega (arith, p.within)) g r.1 ]
