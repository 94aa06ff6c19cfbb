-- How a type is stored, so that a struct's model may be one.
--     coded_whole_kind, coded_term, coded_fields      the codes
use Rattle.std.specs.Prelude.{◌≡◌, ℕ, List, Option, refl}
use Rattle.std.specs.Coded.{Coded, coded_ℕ, coded_ℤ, coded_bool, coded_list, coded_option}
use Rattle.std.proofs.Common.{ap, arith}
use base.Stored.{Gv, gnil, gnum, gcons, num}
use Rattle.vortex_terms.specs.Term.{WholeKind, unsigned_8, unsigned_16, unsigned_32, unsigned_64, signed_8, signed_16, signed_32, signed_64, Term, null, boolean, primitive, decimal, utf8, binary, structure, list, extension, fixed_size_list, Fields, no_fields, field}

-- the number of the kind, in the order of the kinds
abbrev pub kind_number : WholeKind → ℕ
kind_number unsigned_8 = 0
kind_number unsigned_16 = 1
kind_number unsigned_32 = 2
kind_number unsigned_64 = 3
kind_number signed_8 = 4
kind_number signed_16 = 5
kind_number signed_32 = 6
kind_number signed_64 = 7

pub kind_number-inj : (k l : WholeKind) → kind_number k ≡ kind_number l → k ≡ l
kind_number-inj unsigned_8 unsigned_8 e = refl
kind_number-inj unsigned_16 unsigned_16 e = refl
kind_number-inj unsigned_32 unsigned_32 e = refl
kind_number-inj unsigned_64 unsigned_64 e = refl
kind_number-inj signed_8 signed_8 e = refl
kind_number-inj signed_16 signed_16 e = refl
kind_number-inj signed_32 signed_32 e = refl
kind_number-inj signed_64 signed_64 e = refl
kind_number-inj _ _ e = absurd (omega arith)

abbrev pub coded_whole_kind : Coded WholeKind
coded_whole_kind = record
    { code = λ k. gnum (kind_number k); inj = λ k l e. kind_number-inj k l (ap num e) }

abbrev coded_text : Coded (List ℕ)
coded_text = coded_list coded_ℕ

abbrev coded_metadata : Coded (Option (List ℕ))
coded_metadata = coded_option coded_text

abbrev mutual
  pub term_code : Term → Gv
  term_code null = gcons (gnum 0) gnil
  term_code (boolean n) = gcons (gnum 1) (coded_bool.code n)
  term_code (primitive k n) = gcons (gnum 2) (gcons (coded_whole_kind.code k) (coded_bool.code n))
  term_code (decimal p s n) =
      gcons (gnum 3) (gcons (gnum p) (gcons (coded_ℤ.code s) (coded_bool.code n)))
  term_code (utf8 n) = gcons (gnum 4) (coded_bool.code n)
  term_code (binary n) = gcons (gnum 5) (coded_bool.code n)
  term_code (structure fs n) = gcons (gnum 6) (gcons (fields_code fs) (coded_bool.code n))
  term_code (list t n) = gcons (gnum 7) (gcons (term_code t) (coded_bool.code n))
  term_code (extension id t m) =
      gcons (gnum 8) (gcons (coded_text.code id) (gcons (term_code t) (coded_metadata.code m)))
  term_code (fixed_size_list t k n) =
      gcons (gnum 9) (gcons (term_code t) (gcons (gnum k) (coded_bool.code n)))

  pub fields_code : Fields → Gv
  fields_code no_fields = gnil
  fields_code (field x t fs) = gcons (coded_text.code x) (gcons (term_code t) (fields_code fs))

abbrev pub head : Gv → Gv
head gnil = gnil
head (gnum n) = gnil
head (gcons a b) = a

abbrev pub tail : Gv → Gv
tail gnil = gnil
tail (gnum n) = gnil
tail (gcons a b) = b

mutual
  pub term_code-inj : (t u : Term) → term_code t ≡ term_code u → t ≡ u
  term_code-inj null null e = refl
  term_code-inj (boolean n) (boolean m) e = λ i. boolean (coded_bool.inj n m (ap tail e) i)
  term_code-inj (primitive k n) (primitive l m) e =
      λ i. primitive (coded_whole_kind.inj k l (ap (λ g. head (tail g)) e) i)
      (coded_bool.inj n m (ap (λ g. tail (tail g)) e) i)
  term_code-inj (decimal p s n) (decimal q r m) e =
      λ i. decimal (coded_ℕ.inj p q (ap (λ g. head (tail g)) e) i)
      (coded_ℤ.inj s r (ap (λ g. head (tail (tail g))) e) i)
      (coded_bool.inj n m (ap (λ g. tail (tail (tail g))) e) i)
  term_code-inj (utf8 n) (utf8 m) e = λ i. utf8 (coded_bool.inj n m (ap tail e) i)
  term_code-inj (binary n) (binary m) e = λ i. binary (coded_bool.inj n m (ap tail e) i)
  term_code-inj (structure fs n) (structure gs m) e =
      λ i. structure (fields_code-inj fs gs (ap (λ g. head (tail g)) e) i)
      (coded_bool.inj n m (ap (λ g. tail (tail g)) e) i)
  term_code-inj (list t n) (list u m) e =
      λ i. list (term_code-inj t u (ap (λ g. head (tail g)) e) i)
      (coded_bool.inj n m (ap (λ g. tail (tail g)) e) i)
  term_code-inj (extension id t m) (extension jd u l) e =
      λ i. extension (coded_text.inj id jd (ap (λ g. head (tail g)) e) i)
      (term_code-inj t u (ap (λ g. head (tail (tail g))) e) i)
      (coded_metadata.inj m l (ap (λ g. tail (tail (tail g))) e) i)
  term_code-inj (fixed_size_list t k n) (fixed_size_list u l m) e =
      λ i. fixed_size_list (term_code-inj t u (ap (λ g. head (tail g)) e) i)
      (coded_ℕ.inj k l (ap (λ g. head (tail (tail g))) e) i)
      (coded_bool.inj n m (ap (λ g. tail (tail (tail g))) e) i)
  term_code-inj _ _ e = absurd (omega (arith, ap (λ g. num (head g)) e))

  pub fields_code-inj : (fs gs : Fields) → fields_code fs ≡ fields_code gs → fs ≡ gs
  fields_code-inj no_fields no_fields e = refl
  fields_code-inj (field x t fs) (field y u gs) e =
      λ i. field (coded_text.inj x y (ap head e) i)
      (term_code-inj t u (ap (λ g. head (tail g)) e) i)
      (fields_code-inj fs gs (ap (λ g. tail (tail g)) e) i)
  fields_code-inj _ _ e = absurd (cc)

abbrev pub coded_term : Coded Term
coded_term = record { code = term_code; inj = term_code-inj }

abbrev pub coded_fields : Coded Fields
coded_fields = record { code = fields_code; inj = fields_code-inj }
