-- A whole quotient is the one number whose product with the divisor is the dividend.
use Rattle.std.proofs.lemmas.Option.{none-some}
use Rattle.vortex_arithmetic.proofs.Fractions.{zero_is}
use Rattle.std.proofs.Common.{◌≡◌, ◌↔◌, ltb, subst, ℕ, zero, suc, ◌*◌, ◌/◌, ◌%◌, ◌<◌, ℤ, pos, negsuc, neg_ℤ, ◌+ℤ◌, ◌*ℤ◌, Bool, true, false, Option, Some, None, refl, sym, ◌∙◌, ap, true≢false, arith, int_div, int_rem}
use Rattle.std.specs.Prelude.{FitsSigned}
use Rattle.std.specs.Bool.{if◌then◌else◌}
use Rattle.std.specs.Int.{w128}
use Rattle.std.specs.Ordering.{int_eq}
use Rattle.std.proofs.Math.Nat.{mul-div_cancel, mul-mod_left}
use Rattle.std.proofs.lemmas.Bool.{lt-ltb}
use Rattle.std.proofs.lemmas.Int.{ints, quot-rem}
use Rattle.vortex_number.specs.Format.{signed}
use Rattle.vortex_number.specs.inner.FormatLaws.{fit_signed}
use Rattle.vortex_arithmetic.specs.Operated.{within}
use Rattle.vortex_arithmetic.specs.Scaled.{tens, whole, rescaled}
use Rattle.vortex_arithmetic.proofs.Ranges.{fits_within, within_some, is_within}
use Rattle.vortex_arithmetic.proofs.Powers.{power_pos}

-- a test of order against 0
zero_from : (z : ℤ) → int_eq z (pos 0) ≡ true → z ≡ pos 0
zero_from (pos zero) e = refl
zero_from (pos (suc n)) e = absurd (true≢false (sym e ∙ above (suc n) (lt-ltb 0 (suc n) (omega arith))))
  where
    above : (m : ℕ) → ltb 0 m ≡ true → int_eq (pos m) (pos 0) ≡ false
    above m h = by (ltb m 0) refl
      where
        by : (b : Bool) → ltb m 0 ≡ b → int_eq (pos m) (pos 0) ≡ false
        by true f = rw f refl
        by false f = rw f (rw h refl)
zero_from (negsuc n) e = absurd (true≢false (sym e))

found_where : (b : Bool) (o : Option ℤ) (w : ℤ) → (if b then o else None) ≡ Some w → (b ≡ true) × (o ≡ Some w)
found_where true o w e = (refl, e)
found_where false o w e = absurd (none-some w e)

product_of : (t w : ℤ) (p : ℕ) → whole t p ≡ Some w → FitsSigned w128 w × (w *ℤ pos p ≡ t)
product_of t w p e =
    let both = found_where (int_eq (int_rem t (pos p)) (pos 0)) (within (signed w128) (Some (int_div t (pos p)))) w e in
    let rest : int_rem t (pos p) ≡ pos 0 = zero_from (int_rem t (pos p)) both.0 in
    let over : w ≡ int_div t (pos p) = (within_some (signed w128) (int_div t (pos p)) w both.1).1 in
    let all : int_div t (pos p) *ℤ pos p +ℤ int_rem t (pos p) ≡ t = quot-rem t (pos p) in
    let same : w *ℤ pos p +ℤ pos 0 ≡ t = ap (λ x. x *ℤ pos p +ℤ pos 0) over ∙ ap (λ r. int_div t (pos p) *ℤ pos p +ℤ r) (sym rest) ∙ all in
    (fits_within (Some (int_div t (pos p))) w both.1, no_more (w *ℤ pos p) ∙ same)
  where
    no_more : (z : ℤ) → z ≡ z +ℤ pos 0
    no_more z = omega (arith, ints)

quotient_of_product : (w : ℤ) (p : ℕ) → 0 < p → int_div (w *ℤ pos p) (pos p) ≡ w
quotient_of_product (pos n) p some = ap pos (mul-div_cancel n some)
quotient_of_product (negsuc n) zero some = absurd (omega arith)
quotient_of_product (negsuc n) (suc p) some = over (suc n * suc p) (omega arith) ∙ ap (λ m. neg_ℤ (pos m)) (mul-div_cancel (suc n) some)
  where
    over : (m : ℕ) → 0 < m → int_div (neg_ℤ (pos m)) (pos (suc p)) ≡ neg_ℤ (pos (m / suc p))
    over zero h = absurd (omega arith)
    over (suc m) h = refl

rest_of_product : (w : ℤ) (p : ℕ) → int_rem (w *ℤ pos p) (pos p) ≡ pos 0
rest_of_product (pos n) p = ap pos (mul-mod_left n p)
rest_of_product (negsuc n) p = left (suc n * p) (mul-mod_left (suc n) p)
  where
    left : (m : ℕ) → m % p ≡ 0 → int_rem (neg_ℤ (pos m)) (pos p) ≡ pos 0
    left zero e = ap pos e
    left (suc m) e = ap (λ r. neg_ℤ (pos r)) e

of_product : (t w : ℤ) (p : ℕ) → 0 < p → FitsSigned w128 w × (w *ℤ pos p ≡ t) → whole t p ≡ Some w
of_product t w p some both =
    subst (λ x. whole x p ≡ Some w) both.1
    (ap (λ b. if b then within (signed w128) (Some (int_div (w *ℤ pos p) (pos p))) else None)
    (zero_is (int_rem (w *ℤ pos p) (pos p)) (rest_of_product w p))
    ∙ ap (λ x. within (signed w128) (Some x)) (quotient_of_product w p some)
    ∙ is_within (signed w128) w (fit_signed w128 w both.0))

pub exact : (z old new w : ℤ) → (rescaled z old new ≡ Some w) ↔ (FitsSigned w128 w × (w *ℤ pos (tens new old) ≡ z *ℤ pos (tens old new)))
unfolding rescaled
exact z old new w = (product_of (z *ℤ pos (tens old new)) w (tens new old), of_product (z *ℤ pos (tens old new)) w (tens new old) (power_pos _))
