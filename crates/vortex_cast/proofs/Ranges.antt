-- The numbers that a cast finds lie in the range of the target.
use Rattle.std.proofs.Common.{◌≡◌, ℕ, ℤ, pos, negsuc, true, Option, Some, None, refl, sym, ◌∙◌}
use Rattle.std.specs.Prelude.{FitsSigned, int_div}
use Rattle.std.specs.Int.{w128}
use Rattle.std.proofs.lemmas.Option.{none-some}
use Rattle.vortex_number.specs.PType.{in_range}
use Rattle.vortex_number.specs.WholeKind.{ptype_of}
use Rattle.vortex_number.specs.declared.ptype.PType.{PType}
use Rattle.vortex_terms.specs.Term.{WholeKind, unsigned_8, unsigned_16, unsigned_32, unsigned_64, signed_8, signed_16, signed_32, signed_64}
use Rattle.vortex_terms.specs.Tests.{is_in_range}
use Rattle.vortex_arithmetic.specs.Scaled.{rescaled, whole_of, tens}
use Rattle.vortex_arithmetic.proofs.Exact.{exact}
use Rattle.vortex_arithmetic.proofs.Fractions.{away, rounded_none, rounded_some}
use Rattle.vortex_arithmetic.proofs.Powers.{power_pos}
use Rattle.vortex_arithmetic.proofs.Ranges.{within_some}
use Rattle.vortex_arithmetic.specs.Operated.{within}
use Rattle.vortex_arithmetic.specs.Scaled.{rounded}
use Rattle.vortex_number.specs.PType.{format_of}
use Rattle.vortex_number.specs.Format.{fits}
use Rattle.std.proofs.Common.{subst, ◌*ℤ◌, ◌<◌}

-- the two tests are one
pub same_range : (l : WholeKind) (z : ℤ) → in_range (ptype_of l) z ≡ is_in_range l z
same_range unsigned_8 (pos n) = refl
same_range unsigned_16 (pos n) = refl
same_range unsigned_32 (pos n) = refl
same_range unsigned_64 (pos n) = refl
same_range signed_8 (pos n) = refl
same_range signed_16 (pos n) = refl
same_range signed_32 (pos n) = refl
same_range signed_64 (pos n) = refl
same_range unsigned_8 (negsuc n) = refl
same_range unsigned_16 (negsuc n) = refl
same_range unsigned_32 (negsuc n) = refl
same_range unsigned_64 (negsuc n) = refl
same_range signed_8 (negsuc n) = refl
same_range signed_16 (negsuc n) = refl
same_range signed_32 (negsuc n) = refl
same_range signed_64 (negsuc n) = refl

pub rescaled_fits : (z s o w : ℤ) → rescaled z s o ≡ Some w → FitsSigned w128 w
rescaled_fits z s o w e = ((exact z s o w).0 e).0

rounded_in_range : (k : PType) (t : ℤ) (p : ℕ) (w : ℤ) → 0 < p → rounded k t p ≡ Some w → in_range k w ≡ true
rounded_in_range k t p w some e = by (within (format_of k) (Some (away t p))) refl
  where
    by : (o : Option ℤ) → within (format_of k) (Some (away t p)) ≡ o → in_range k w ≡ true
    by None f = absurd (none-some w (sym (rounded_none k t p some f) ∙ e))
    by (Some x) f =
        let both = within_some (format_of k) (int_div t (pos p)) w (rounded_some k t p x some f ∙ e) in
        subst (λ y. fits (format_of k) y ≡ true) (sym both.1) both.0

pub whole_in_range : (k : PType) (z s w : ℤ) → whole_of z s k ≡ Some w → in_range k w ≡ true
unfolding whole_of
whole_in_range k z s w e = rounded_in_range k (z *ℤ pos (tens s (pos 0))) (tens (pos 0) s) w (power_pos _) e

-- the number as a value of the kind of a target
pub in_range_of : (l : WholeKind) (z s w : ℤ) → whole_of z s (ptype_of l) ≡ Some w → is_in_range l w ≡ true
in_range_of l z s w e = sym (same_range l w) ∙ whole_in_range (ptype_of l) z s w e
