-- The numbers of each kind have a place in 128 bits.
use Rattle.std.proofs.lemmas.Option.{none-some, same_Some}
use Rattle.std.proofs.Common.{◌≡◌, subst, ℕ, ◌^◌, ℤ, pos, negsuc, Bool, true, false, Option, Some, None, ltb, leb, refl, sym, ◌∙◌, ap, true≢false, arith, FitsSigned}
use Rattle.std.specs.Bool.{if◌then◌else◌}
use Rattle.std.specs.Int.{w128}
use Rattle.std.proofs.lemmas.Bool.{ltb-true, lt-ltb, leb-true}
use Rattle.vortex_number.specs.Format.{Format, signed, fits}
use Rattle.vortex_number.specs.inner.FormatLaws.{signed_fit}
use Rattle.vortex_number.specs.PType.{format_of}
use Rattle.vortex_number.specs.declared.ptype.PType.{PType}
use Rattle.vortex_number.specs.declared.ptype.PType.TheVariants.{U8, U16, U32, U64, I8, I16, I32, I64}
use Rattle.vortex_arithmetic.specs.Operated.{within}

wider : (a b n : ℕ) → leb a b ≡ true → ltb n a ≡ true → ltb n b ≡ true
wider a b n e h =
    let up = leb-true a b e in
    let low = ltb-true n a h in
    lt-ltb n b (omega arith)

pub wide : (k : PType) (z : ℤ) → fits (format_of k) z ≡ true → fits (signed w128) z ≡ true
wide U8 (pos n) h = wider (2 ^ 8) (2 ^ 127) n refl h
wide U16 (pos n) h = wider (2 ^ 16) (2 ^ 127) n refl h
wide U32 (pos n) h = wider (2 ^ 32) (2 ^ 127) n refl h
wide U64 (pos n) h = wider (2 ^ 64) (2 ^ 127) n refl h
wide I8 (pos n) h = wider (2 ^ 7) (2 ^ 127) n refl h
wide I16 (pos n) h = wider (2 ^ 15) (2 ^ 127) n refl h
wide I32 (pos n) h = wider (2 ^ 31) (2 ^ 127) n refl h
wide I64 (pos n) h = wider (2 ^ 63) (2 ^ 127) n refl h
wide U8 (negsuc n) h = absurd (true≢false (sym h))
wide U16 (negsuc n) h = absurd (true≢false (sym h))
wide U32 (negsuc n) h = absurd (true≢false (sym h))
wide U64 (negsuc n) h = absurd (true≢false (sym h))
wide I8 (negsuc n) h = wider (2 ^ 7) (2 ^ 127) n refl h
wide I16 (negsuc n) h = wider (2 ^ 15) (2 ^ 127) n refl h
wide I32 (negsuc n) h = wider (2 ^ 31) (2 ^ 127) n refl h
wide I64 (negsuc n) h = wider (2 ^ 63) (2 ^ 127) n refl h

-- what is found has a place, and is the number
chosen : (b : Bool) (z t : ℤ) → (if b then Some z else None) ≡ Some t → (b ≡ true) × (t ≡ z)
chosen true z t e = (refl, sym (same_Some z t e))
chosen false z t e = absurd (none-some t e)

pub within_some : (f : Format) (z t : ℤ) → within f (Some z) ≡ Some t → (fits f z ≡ true) × (t ≡ z)
within_some f z t e = chosen (fits f z) z t e

not_chosen : (b : Bool) (z : ℤ) → (if b then Some z else None) ≡ None → b ≡ false
not_chosen true z e = absurd (none-some z (sym e))
not_chosen false z e = refl

pub within_none : (f : Format) (z : ℤ) → within f (Some z) ≡ None → fits f z ≡ false
within_none f z e = not_chosen (fits f z) z e

pub is_within : (f : Format) (z : ℤ) → fits f z ≡ true → within f (Some z) ≡ Some z
is_within f z h = ap (λ b. if b then Some z else None) h

pub not_within : (f : Format) (z : ℤ) → fits f z ≡ false → within f (Some z) ≡ None
not_within f z h = ap (λ b. if b then Some z else None) h

-- what has no place in 128 bits is in the range of no kind
pub narrow : (k : PType) (z : ℤ) → fits (signed w128) z ≡ false → fits (format_of k) z ≡ false
narrow k z h = by (fits (format_of k) z) refl
  where
    by : (b : Bool) → fits (format_of k) z ≡ b → fits (format_of k) z ≡ false
    by true e = absurd (true≢false (sym (wide k z e) ∙ h))
    by false e = e

pub within_narrow : (k : PType) (o : Option ℤ) → within (signed w128) o ≡ None → within (format_of k) o ≡ None
within_narrow k None e = refl
within_narrow k (Some z) e = not_within (format_of k) z (narrow k z (within_none (signed w128) z e))

pub within_wide : (k : PType) (o : Option ℤ) (t : ℤ) → within (signed w128) o ≡ Some t → within (format_of k) (Some t) ≡ within (format_of k) o
within_wide k None t e = absurd (none-some t e)
within_wide k (Some z) t e = ap (λ x. within (format_of k) (Some x)) (within_some (signed w128) z t e).1

pub fits_within : (o : Option ℤ) (t : ℤ) → within (signed w128) o ≡ Some t → FitsSigned w128 t
fits_within None t e = absurd (none-some t e)
fits_within (Some z) t e =
    let both = within_some (signed w128) z t e in
    signed_fit w128 t (subst (λ x. fits (signed w128) x ≡ true) (sym both.1) both.0)
