-- Powers of ten: up to the 38th they have a place in 128 bits, and above no product with one has.
use Rattle.std.proofs.Common.{◌≡◌, ℕ, zero, suc, ◌+◌, ◌*◌, ◌/◌, ◌^◌, ◌<◌, ◌≤◌, ℤ, pos, negsuc, ◌*ℤ◌, Bool, true, false, Some, None, ltb, refl, sym, ap, subst, arith, ◌<ℤ◌, to_z, of_z, lit<, int_div, int_rem, mod-eq_of_lt, neg_ℤ}
use Rattle.std.specs.Int.{w128}
use Rattle.std.proofs.Math.Nat.{pow-le-pow_right, div-eq_of_lt-le}
use Rattle.std.proofs.lemmas.Bool.{ltb-true}
use Rattle.std.proofs.Math.Facts.{yes_ltb}
use Rattle.std.specs.Prelude.{FitsSigned}
use Rattle.std.proofs.lemmas.Int.{to_z-of_z, quot_fits}
use Rattle.vortex_number.specs.Format.{signed, fits}
use Rattle.vortex_arithmetic.specs.Operated.{within}
use Rattle.vortex_arithmetic.proofs.Ranges.{not_within}

pub power_fits : (e : ℕ) → e ≤ 38 → FitsSigned w128 (pos (10 ^ e))
power_fits e h =
    let most : 10 ^ e ≤ 10 ^ 38 = pow-le-pow_right (lit< tt) h in
    let limit : 10 ^ 38 < 2 ^ 127 = lit< tt in
    record { sfits = omega arith }

pub power_above : (e : ℕ) → 38 < e → 2 ^ 127 < 10 ^ e
power_above e h =
    let least : 10 ^ 39 ≤ 10 ^ e = pow-le-pow_right (lit< tt) h in
    let limit : 2 ^ 127 < 10 ^ 39 = lit< tt in
    omega arith

pub power_pos : (e : ℕ) → 0 < 10 ^ e
power_pos e =
    let any : 0 ≤ e = omega arith in
    let least : 10 ^ 0 ≤ 10 ^ e = pow-le-pow_right (lit< tt) any in
    omega arith

not-below : (a b : ℕ) → b ≤ a → ltb a b ≡ false
not-below a b h = by (ltb a b) refl
  where
    by : (t : Bool) → ltb a b ≡ t → ltb a b ≡ false
    by true e = let low = ltb-true a b e in absurd (omega arith)
    by false e = e

above_negated : (m : ℕ) → 2 ^ 127 < m → fits (signed w128) (neg_ℤ (pos m)) ≡ false
above_negated zero h = absurd (omega arith)
above_negated (suc m) h = not-below m (2 ^ 127) (omega arith)

product_above : (n p : ℕ) → 2 ^ 127 < p → 2 ^ 127 < suc n * p
product_above n p h =
    let more : suc n * p ≡ n * p + p = omega arith in
    omega arith

-- a number other than 0 times such a power has no place
pub too_large : (z : ℤ) (e : ℕ) → 38 < e → (z ≡ pos 0 → ⊥) → within (signed w128) (Some (z *ℤ pos (10 ^ e))) ≡ None
too_large (pos zero) e h ne = absurd (ne refl)
too_large (pos (suc n)) e h ne =
    let large = product_above n (10 ^ e) (power_above e h) in
    not_within (signed w128) (pos (suc n) *ℤ pos (10 ^ e)) (not-below (suc n * 10 ^ e) (2 ^ 127) (omega arith))
too_large (negsuc n) e h ne =
    not_within (signed w128) (negsuc n *ℤ pos (10 ^ e)) (above_negated (suc n * 10 ^ e) (product_above n (10 ^ e) (power_above e h)))

below_quotient : (n p : ℕ) → n < p → n / p ≡ 0
below_quotient n p h = div-eq_of_lt-le p (omega arith) (omega arith)

-- a number of 128 bits divided by such a power is 0, and all of it is left
pub small_quotient : (z : ℤ) (e : ℕ) → 38 < e → FitsSigned w128 z → pos 0 ≡ int_div z (pos (10 ^ e))
small_quotient (pos n) e h f =
    let large = power_above e h in
    let low = f.sfits in
    ap pos (sym (below_quotient n (10 ^ e) (omega arith)))
small_quotient (negsuc n) e h f =
    let large = power_above e h in
    let low = f.sfits in
    ap (λ m. neg_ℤ (pos m)) (sym (below_quotient (suc n) (10 ^ e) (omega arith)))

pub small_rest : (z : ℤ) (e : ℕ) → 38 < e → FitsSigned w128 z → z ≡ int_rem z (pos (10 ^ e))
small_rest (pos n) e h f =
    let large = power_above e h in
    let low = f.sfits in
    let under : n < 10 ^ e = omega arith in
    ap pos (sym (mod-eq_of_lt under))
small_rest (negsuc n) e h f =
    let large = power_above e h in
    let low = f.sfits in
    let under : suc n < 10 ^ e = omega arith in
    ap (λ m. neg_ℤ (pos m)) (sym (mod-eq_of_lt under))

pub can_divide : (z w : ℤ) (e : ℕ) → FitsSigned w128 z → (e ≤ 38) × (w ≡ pos (10 ^ e))
    → (0 < of_z w128 w) × FitsSigned w128 (int_div (to_z w128 (of_z w128 z)) (to_z w128 (of_z w128 w)))
can_divide z w e f both =
    let h = both.1 in
    let g : FitsSigned w128 w = subst (FitsSigned w128) (sym h) (power_fits e both.0) in
    let some : pos 0 <ℤ w = subst (λ x. pos 0 <ℤ x) (sym h) (record { lt = yes_ltb (power_pos e) }) in
    (subst (λ x. 0 < of_z w128 x) (sym h) (power_pos e), rw (to_z-of_z w128 z f) (rw (to_z-of_z w128 w g) (quot_fits w128 z w f some)))
