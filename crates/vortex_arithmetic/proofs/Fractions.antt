-- Fractions of whole numbers: when they are whole, and how they are rounded.
use Rattle.std.proofs.lemmas.Option.{none-some}
use Rattle.std.proofs.Common.{◌≡◌, ◌⊎◌, inl, inr, subst, ℕ, zero, suc, ◌+◌, ◌-◌, ◌*◌, ◌/◌, ◌%◌, ◌^◌, ◌<◌, ◌≤◌, min, ℤ, pos, negsuc, neg_ℤ, ◌+ℤ◌, ◌*ℤ◌, Bool, true, false, Option, Some, None, leb, ltb, refl, sym, ◌∙◌, ap, true≢false, arith, int_div, int_rem, mod-lt, div-add-mod', le_of_mul-le-mul_right, lt_of_mul-lt-mul_right, mul-le-mul_right}
use Rattle.std.specs.Prelude.{FitsSigned}
use Rattle.std.specs.Bool.{if◌then◌else◌}
use Rattle.std.specs.Prelude.{int_le, ◌&&◌}
use Rattle.std.specs.Int.{w128, int_gap, int_signum}
use Rattle.std.specs.Ordering.{int_eq}
use Rattle.std.proofs.Math.Nat.{mod-one, div-one, mod-le, le-mul_of_pos_right}
use Rattle.std.proofs.Common.{to_z, of_z}
use Rattle.std.proofs.lemmas.Int.{to_z-of_z}
use Rattle.vortex_value.specs.declared.pvalue.PValue.{PValue}
use Rattle.std.proofs.Math.Facts.{yes_ltb}
use Rattle.std.specs.Cmp.{both_ways}
use Rattle.std.specs.Option.{option_map}
use Rattle.std.proofs.lemmas.Bool.{ltb-true, leb-true, leb-false, lt-ltb, le-leb}
use Rattle.std.proofs.lemmas.Nat.{pow_pos}
use Rattle.std.proofs.lemmas.Int.{ints, quot_fits}
use Rattle.vortex_number.specs.Format.{signed, fits, magnitude_bits}
use Rattle.vortex_number.specs.inner.FormatLaws.{fit_signed}
use Rattle.vortex_number.specs.PType.{format_of, is_signed}
use Rattle.vortex_number.specs.declared.ptype.PType.{PType}
use Rattle.vortex_arithmetic.specs.Operated.{within}
use Rattle.vortex_arithmetic.specs.Scaled.{tens, whole, rescaled, rounded, whole_of}
use Rattle.vortex_arithmetic.proofs.Ranges.{within_some, within_none, is_within, not_within, narrow}

-- ---- division by one

times_one : (z : ℤ) → z *ℤ pos 1 ≡ z
times_one z = omega (arith, ints)

over_one : (z : ℤ) → int_div z (pos 1) ≡ z
over_one (pos n) = ap pos (div-one n)
over_one (negsuc n) = ap (λ m. neg_ℤ (pos m)) (div-one (suc n))

rest_of_one : (z : ℤ) → int_rem z (pos 1) ≡ pos 0
rest_of_one (pos n) = ap pos (mod-one n)
rest_of_one (negsuc n) = ap (λ m. neg_ℤ (pos m)) (mod-one (suc n))

-- of two scales one is not above the other
apart : (a b : ℤ) → (int_gap a b ≡ 0) ⊎ (int_gap b a ≡ 0)
apart (pos a) (pos b) = by (leb a b) refl
  where
    by : (t : Bool) → leb a b ≡ t → (b - a ≡ 0) ⊎ (a - b ≡ 0)
    by true e = let h = leb-true a b e in inr (omega arith)
    by false e = let h = leb-false a b e in inl (omega arith)
apart (pos a) (negsuc b) = inl refl
apart (negsuc a) (pos b) = inr refl
apart (negsuc a) (negsuc b) = by (leb a b) refl
  where
    by : (t : Bool) → leb a b ≡ t → (a - b ≡ 0) ⊎ (b - a ≡ 0)
    by true e = let h = leb-true a b e in inl (omega arith)
    by false e = let h = leb-false a b e in inr (omega arith)

-- ---- whole quotients

pub zero_is : (z : ℤ) → z ≡ pos 0 → int_eq z (pos 0) ≡ true
zero_is z e = ap (λ x. int_eq x (pos 0)) e

whole_by_one : (t : ℤ) → whole t 1 ≡ within (signed w128) (Some t)
whole_by_one t = rw (zero_is (int_rem t (pos 1)) (rest_of_one t)) (ap (λ x. within (signed w128) (Some x)) (over_one t))

pub rescaled_none : (z old new : ℤ) → FitsSigned w128 z → within (signed w128) (Some (z *ℤ pos (10 ^ int_gap old new))) ≡ None → rescaled z old new ≡ None
unfolding rescaled
rescaled_none z old new f e = by (apart old new)
  where
    by : (int_gap old new ≡ 0) ⊎ (int_gap new old ≡ 0) → whole (z *ℤ pos (tens old new)) (tens new old) ≡ None
    by (inl same) =
        let there : fits (signed w128) (z *ℤ pos (10 ^ int_gap old new)) ≡ true =
        rw same (rw (times_one z) (fit_signed w128 z f)) in
        absurd (true≢false (sym there ∙ within_none (signed w128) (z *ℤ pos (10 ^ int_gap old new)) e))
    by (inr same) = rw same (whole_by_one (z *ℤ pos (tens old new)) ∙ e)

pub rescaled_some : (z old new t : ℤ) → within (signed w128) (Some (z *ℤ pos (10 ^ int_gap old new))) ≡ Some t → whole t (10 ^ int_gap new old) ≡ rescaled z old new
unfolding rescaled
rescaled_some z old new t e = ap (λ x. whole x (10 ^ int_gap new old)) (within_some (signed w128) (z *ℤ pos (10 ^ int_gap old new)) t e).1

-- ---- rounding

-- the rest is left out, or counted as one more
ceiling_at_most : (q r p n g : ℕ) → q * p + r ≡ n → 0 < p → n ≤ g * p → q + min r 1 ≤ g
ceiling_at_most q zero p n g e some h =
    let under : q * p ≤ g * p = omega arith in
    let most : q ≤ g = le_of_mul-le-mul_right under some in
    omega arith
ceiling_at_most q (suc r) p n g e some h =
    let under : q * p < g * p = omega arith in
    let most : q < g = lt_of_mul-lt-mul_right p under in
    omega arith

at_most_ceiling : (q r p n g : ℕ) → q * p + r ≡ n → r < p → q + min r 1 ≤ g → n ≤ g * p
at_most_ceiling q zero p n g e left h =
    let most : q ≤ g = omega arith in
    omega (arith, mul-le-mul_right p most)
at_most_ceiling q (suc r) p n g e left h =
    let most : q + 1 ≤ g = omega arith in
    let more : (q + 1) * p ≡ q * p + p = omega arith in
    omega (arith, mul-le-mul_right p most)

ceiling_some : (q r p n : ℕ) → q * p + r ≡ suc n → 0 < q + min r 1
ceiling_some zero zero p n e = absurd (omega arith)
ceiling_some zero (suc r) p n e = omega arith
ceiling_some (suc q) r p n e = omega arith

-- whether a number lies in a range, by its sign
abbrev inside : Bool → ℕ → ℤ → Bool
inside s m (pos n) = ltb n m
inside s m (negsuc n) = s && ltb n m

abbrev low : Bool → ℕ → ℤ
low s m = if s then neg_ℤ (pos m) else pos 0

abbrev between : Bool → ℕ → ℤ → ℕ → Bool
between s m t p = int_le (low s m *ℤ pos p) t && int_le t (pos ((m - 1) * p))

abbrev pub away : ℤ → ℕ → ℤ
away t p = int_div t (pos p) +ℤ int_signum (int_rem t (pos p))

and_all : (b : Bool) → (b && true) ≡ b
and_all true = refl
and_all false = refl

negated_times : (m p : ℕ) → neg_ℤ (pos m) *ℤ pos p ≡ neg_ℤ (pos (m * p))
negated_times zero p = omega (arith, ints)
negated_times (suc m) p = refl

negated_at_most : (c n : ℕ) → int_le (neg_ℤ (pos c)) (pos n) ≡ true
negated_at_most zero n = le-leb 0 n (omega arith)
negated_at_most (suc c) n = refl

low_at_most : (s : Bool) (m p n : ℕ) → int_le (low s m *ℤ pos p) (pos n) ≡ true
low_at_most true m p n = ap (λ z. int_le z (pos n)) (negated_times m p) ∙ negated_at_most (m * p) n
low_at_most false m p n = le-leb (0 * p) n (omega arith)

sum_below : (q r : ℕ) → neg_ℤ (pos q) +ℤ int_signum (neg_ℤ (pos r)) ≡ neg_ℤ (pos (q + min r 1))
sum_below zero zero = refl
sum_below zero (suc r) = omega (arith, ints)
sum_below (suc q) zero = omega (arith, ints)
sum_below (suc q) (suc r) = omega (arith, ints)

below_negated : (c n : ℕ) → int_le (neg_ℤ (pos c)) (negsuc n) ≡ true → suc n ≤ c
below_negated zero n e = absurd (true≢false (sym e))
below_negated (suc c) n e = let h = leb-true n c e in omega arith

negated_below : (c n : ℕ) → suc n ≤ c → int_le (neg_ℤ (pos c)) (negsuc n) ≡ true
negated_below zero n h = absurd (omega arith)
negated_below (suc c) n h = le-leb n c (omega arith)

below_low : (s : Bool) (m p n c : ℕ) → 0 < c → (suc n ≤ m * p → c ≤ m) → (c ≤ m → suc n ≤ m * p)
    → int_le (low s m *ℤ pos p) (negsuc n) ≡ inside s m (neg_ℤ (pos c))
below_low s m p n zero some to from = absurd (omega arith)
below_low false m p n (suc c) some to from = refl
below_low true m p n (suc c) some to from =
    ap (λ z. int_le z (negsuc n)) (negated_times m p)
    ∙ both_ways (int_le (neg_ℤ (pos (m * p))) (negsuc n)) (ltb c m)
    (λ e. let k = to (below_negated (m * p) n e) in lt-ltb c m (omega arith))
    (λ e. let h = ltb-true c m e in negated_below (m * p) n (from (omega arith)))

between_is_inside : (s : Bool) (m : ℕ) (t : ℤ) (p : ℕ) → 0 < m → 0 < p → between s m t p ≡ inside s m (away t p)
between_is_inside s m (pos n) p some there =
    ap (λ b. b && leb n ((m - 1) * p)) (low_at_most s m p n)
    ∙ both_ways (leb n ((m - 1) * p)) (ltb (n / p + min (n % p) 1) m)
    (λ e. let h = ceiling_at_most (n / p) (n % p) p n (m - 1) (div-add-mod' n p) there (leb-true n ((m - 1) * p) e) in lt-ltb _ _ (omega arith))
    (λ e. let h = ltb-true (n / p + min (n % p) 1) m e in le-leb _ _ (at_most_ceiling (n / p) (n % p) p n (m - 1) (div-add-mod' n p) (mod-lt n there) (omega arith)))
between_is_inside s m (negsuc n) p some there =
    and_all (int_le (low s m *ℤ pos p) (negsuc n))
    ∙ below_low s m p n (suc n / p + min (suc n % p) 1)
    (ceiling_some (suc n / p) (suc n % p) p n (div-add-mod' (suc n) p))
    (ceiling_at_most (suc n / p) (suc n % p) p (suc n) m (div-add-mod' (suc n) p) there)
    (at_most_ceiling (suc n / p) (suc n % p) p (suc n) m (div-add-mod' (suc n) p) (mod-lt (suc n) there))
    ∙ ap (inside s m) (sym (sum_below (suc n / p) (suc n % p)))

-- the number nearer to 0 lies in the range too
nearer_below : (s : Bool) (m c q : ℕ) → 0 < m → q ≤ c → inside s m (neg_ℤ (pos c)) ≡ true → inside s m (neg_ℤ (pos q)) ≡ true
nearer_below s m c zero some h e = lt-ltb 0 m some
nearer_below s m zero (suc q) some h e = absurd (omega arith)
nearer_below false m (suc c) (suc q) some h e = e
nearer_below true m (suc c) (suc q) some h e = let k = ltb-true c m e in lt-ltb q m (omega arith)

nearer : (s : Bool) (m : ℕ) (t : ℤ) (p : ℕ) → 0 < m → inside s m (away t p) ≡ true → inside s m (int_div t (pos p)) ≡ true
nearer s m (pos n) p some e = let k = ltb-true (n / p + min (n % p) 1) m e in lt-ltb (n / p) m (omega arith)
nearer s m (negsuc n) p some e =
    nearer_below s m (suc n / p + min (suc n % p) 1) (suc n / p) some (omega arith)
    (sym (ap (inside s m) (sum_below (suc n / p) (suc n % p))) ∙ e)

fits_is_inside : (k : PType) (z : ℤ) → fits (format_of k) z ≡ inside (is_signed k) (2 ^ magnitude_bits (format_of k)) z
fits_is_inside k (pos n) = refl
fits_is_inside k (negsuc n) = refl

condition : (k : PType) (t : ℤ) (p : ℕ) → 0 < p → between (is_signed k) (2 ^ magnitude_bits (format_of k)) t p ≡ fits (format_of k) (away t p)
condition k t p some =
    between_is_inside (is_signed k) (2 ^ magnitude_bits (format_of k)) t p (pow_pos (magnitude_bits (format_of k))) some
    ∙ sym (fits_is_inside k (away t p))

pub rounded_none : (k : PType) (t : ℤ) (p : ℕ) → 0 < p → within (format_of k) (Some (away t p)) ≡ None → rounded k t p ≡ None
rounded_none k t p some e =
    ap (λ b. if b then Some (int_div t (pos p)) else None) (condition k t p some ∙ within_none (format_of k) (away t p) e)

pub rounded_some : (k : PType) (t : ℤ) (p : ℕ) (x : ℤ) → 0 < p → within (format_of k) (Some (away t p)) ≡ Some x → within (format_of k) (Some (int_div t (pos p))) ≡ rounded k t p
rounded_some k t p x some e =
    let there = (within_some (format_of k) (away t p) x e).0 in
    let near = nearer (is_signed k) (2 ^ magnitude_bits (format_of k)) t p (pow_pos (magnitude_bits (format_of k))) (sym (fits_is_inside k (away t p)) ∙ there) in
    is_within (format_of k) (int_div t (pos p)) (fits_is_inside k (int_div t (pos p)) ∙ near)
    ∙ sym (ap (λ b. if b then Some (int_div t (pos p)) else None) (condition k t p some ∙ there))

-- a fraction over 1
rounded_by_one : (k : PType) (t : ℤ) → fits (format_of k) t ≡ false → rounded k t 1 ≡ None
rounded_by_one k t h =
    let same : away t 1 ≡ t = ap (λ x. x +ℤ int_signum (int_rem t (pos 1))) (over_one t) ∙ ap (λ x. t +ℤ int_signum x) (rest_of_one t) ∙ omega (arith, ints) in
    rounded_none k t 1 (omega arith) (not_within (format_of k) (away t 1) (ap (fits (format_of k)) same ∙ h))

pub whole_none : (k : PType) (z s : ℤ) → FitsSigned w128 z → within (signed w128) (Some (z *ℤ pos (10 ^ int_gap s (pos 0)))) ≡ None → whole_of z s k ≡ None
unfolding whole_of
whole_none k z s f e = by (apart s (pos 0))
  where
    by : (int_gap s (pos 0) ≡ 0) ⊎ (int_gap (pos 0) s ≡ 0) → rounded k (z *ℤ pos (tens s (pos 0))) (tens (pos 0) s) ≡ None
    by (inl same) =
        let there : fits (signed w128) (z *ℤ pos (10 ^ int_gap s (pos 0))) ≡ true =
        rw same (rw (times_one z) (fit_signed w128 z f)) in
        absurd (true≢false (sym there ∙ within_none (signed w128) (z *ℤ pos (10 ^ int_gap s (pos 0))) e))
    by (inr same) =
        rw same (rounded_by_one k (z *ℤ pos (tens s (pos 0))) (narrow k (z *ℤ pos (tens s (pos 0))) (within_none (signed w128) (z *ℤ pos (tens s (pos 0))) e)))

pub whole_some : (k : PType) (z s t : ℤ) → within (signed w128) (Some (z *ℤ pos (10 ^ int_gap s (pos 0)))) ≡ Some t → rounded k t (10 ^ int_gap (pos 0) s) ≡ whole_of z s k
unfolding whole_of
whole_some k z s t e = ap (λ x. rounded k x (10 ^ int_gap (pos 0) s)) (within_some (signed w128) (z *ℤ pos (10 ^ int_gap s (pos 0))) t e).1

-- ---- 128 bits have room for the number farther from 0

negated_fits : (m n : ℕ) → m ≤ suc n → n < 2 ^ 127 → FitsSigned w128 (neg_ℤ (pos m))
negated_fits zero n h some = record { sfits = omega arith }
negated_fits (suc m) n h some = record { sfits = omega arith }

rest_fits : (t : ℤ) (p : ℕ) → FitsSigned w128 t → FitsSigned w128 (int_rem t (pos p))
rest_fits (pos n) p f = record { sfits = omega (arith, mod-le n p, f.sfits) }
rest_fits (negsuc n) p f = negated_fits (suc n % p) n (mod-le (suc n) p) f.sfits

signum_fits : (z : ℤ) → FitsSigned w128 (int_signum z)
signum_fits (pos n) = record { sfits = omega arith }
signum_fits (negsuc n) = record { sfits = omega arith }

away_fits : (t : ℤ) (p : ℕ) → 0 < p → FitsSigned w128 t → FitsSigned w128 (away t p)
away_fits (pos n) p some f =
    let most = ceiling_at_most (n / p) (n % p) p n n (div-add-mod' n p) some (le-mul_of_pos_right n some) in
    record { sfits = omega (arith, most, f.sfits) }
away_fits (negsuc n) p some f =
    let most = ceiling_at_most (suc n / p) (suc n % p) p (suc n) (suc n) (div-add-mod' (suc n) p) some (le-mul_of_pos_right (suc n) some) in
    subst (FitsSigned w128) (sym (sum_below (suc n / p) (suc n % p)))
    (negated_fits (suc n / p + min (suc n % p) 1) n most f.sfits)

over_fits : (t : ℤ) (p : ℕ) → 0 < p → FitsSigned w128 t → FitsSigned w128 (int_div t (pos p))
over_fits t p some f = quot_fits w128 t (pos p) f (record { lt = yes_ltb some })

-- the sum of a quotient and the sign of its rest, as machine words
pub sum_is_away : (t q r s : ℤ) (p : ℕ) → 0 < p → FitsSigned w128 t
    → q ≡ int_div t (pos p) → r ≡ int_rem t (pos p) → s ≡ int_signum (to_z w128 (of_z w128 r))
    → to_z w128 (of_z w128 (to_z w128 (of_z w128 q) +ℤ to_z w128 (of_z w128 s))) ≡ away t p
sum_is_away t q r s p some f eq er es =
    let rest : to_z w128 (of_z w128 r) ≡ int_rem t (pos p) =
    ap (λ x. to_z w128 (of_z w128 x)) er ∙ to_z-of_z w128 (int_rem t (pos p)) (rest_fits t p f) in
    let sign : to_z w128 (of_z w128 s) ≡ int_signum (int_rem t (pos p)) =
    ap (λ x. to_z w128 (of_z w128 x)) (es ∙ ap int_signum rest)
    ∙ to_z-of_z w128 (int_signum (int_rem t (pos p))) (signum_fits (int_rem t (pos p))) in
    let over : to_z w128 (of_z w128 q) ≡ int_div t (pos p) =
    ap (λ x. to_z w128 (of_z w128 x)) eq ∙ to_z-of_z w128 (int_div t (pos p)) (over_fits t p some f) in
    ap (λ x. to_z w128 (of_z w128 (x +ℤ to_z w128 (of_z w128 s)))) over
    ∙ ap (λ x. to_z w128 (of_z w128 (int_div t (pos p) +ℤ x))) sign
    ∙ to_z-of_z w128 (away t p) (away_fits t p some f)

pub quotient_word : (t q : ℤ) (p : ℕ) → 0 < p → FitsSigned w128 t → q ≡ int_div t (pos p) → to_z w128 (of_z w128 q) ≡ int_div t (pos p)
quotient_word t q p some f e =
    ap (λ x. to_z w128 (of_z w128 x)) e ∙ to_z-of_z w128 (int_div t (pos p)) (over_fits t p some f)

pub mapped_none : (f : ℤ → PValue) (o : Option ℤ) → option_map f o ≡ None → o ≡ None
mapped_none f None e = refl
mapped_none f (Some x) e = absurd (none-some (f x) (sym e))

pub mapped_some : (f : ℤ → PValue) (o : Option ℤ) (v : PValue) → option_map f o ≡ Some v → (x : ℤ) × (o ≡ Some x)
mapped_some f (Some x) v e = (x, refl)
mapped_some f None v e = absurd (none-some v e)
