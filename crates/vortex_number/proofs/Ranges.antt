-- The range of a kind is that of the kind of a term.
use Rattle.std.proofs.Common.{◌≡◌, ◌↔◌, ℤ, pos, negsuc, IsTrue, sym, refl, true≢false, arith}
use Rattle.std.specs.Int.{FitsUnsigned, Width, w8, w16, w32, w64}
use Rattle.std.proofs.lemmas.Bool.{ltb-true, lt-ltb}
use Rattle.std.proofs.Math.Facts.{ltb_yes, yes_ltb, yes_leb}
use Rattle.vortex_terms.specs.Term.{WholeKind}
use Rattle.vortex_terms.specs.Term as term
use Rattle.vortex_terms.specs.Fits.{InRange}
use Rattle.vortex_number.specs.Format.{unsigned, fits}
use Rattle.vortex_number.specs.inner.FormatLaws.{signed_fit, fit_signed}
use Rattle.vortex_number.specs.PType.{in_range}
use Rattle.vortex_number.specs.WholeKind.{whole_kind, ptype_of}
use Rattle.vortex_number.specs.declared.ptype.PType.{PType}
use Rattle.vortex_number.specs.declared.ptype.PType.TheVariants.{U8, U16, U32, U64, I8, I16, I32, I64}

unsigned_fit : (w : Width) (z : ℤ) → IsTrue (fits (unsigned w) z) → FitsUnsigned w z
unsigned_fit w (pos n) h = (record { le = yes_leb (omega arith) }, record { lt = yes_ltb (ltb-true _ _ h) })
unsigned_fit w (negsuc n) h = absurd (true≢false (sym h))

fit_unsigned : (w : Width) (z : ℤ) → FitsUnsigned w z → IsTrue (fits (unsigned w) z)
fit_unsigned w (pos n) h = lt-ltb _ _ (ltb_yes h.1.lt)
fit_unsigned w (negsuc n) h = absurd h.0.le

pub there : (p : PType) → ptype_of (whole_kind p) ≡ p
there U8 = refl
there U16 = refl
there U32 = refl
there U64 = refl
there I8 = refl
there I16 = refl
there I32 = refl
there I64 = refl

pub back : (k : WholeKind) → whole_kind (ptype_of k) ≡ k
back term.unsigned_8 = refl
back term.unsigned_16 = refl
back term.unsigned_32 = refl
back term.unsigned_64 = refl
back term.signed_8 = refl
back term.signed_16 = refl
back term.signed_32 = refl
back term.signed_64 = refl

pub same_range : (p : PType) (z : ℤ) → IsTrue (in_range p z) ↔ InRange (whole_kind p) z
same_range U8 z = (unsigned_fit w8 z, fit_unsigned w8 z)
same_range U16 z = (unsigned_fit w16 z, fit_unsigned w16 z)
same_range U32 z = (unsigned_fit w32 z, fit_unsigned w32 z)
same_range U64 z = (unsigned_fit w64 z, fit_unsigned w64 z)
same_range I8 z = (signed_fit w8 z, fit_signed w8 z)
same_range I16 z = (signed_fit w16 z, fit_signed w16 z)
same_range I32 z = (signed_fit w32 z, fit_signed w32 z)
same_range I64 z = (signed_fit w64 z, fit_signed w64 z)
