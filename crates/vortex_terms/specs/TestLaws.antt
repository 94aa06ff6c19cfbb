-- The tests of Tests.antt are true exactly where what they test holds.
use Rattle.std.specs.Prelude.{◌≡◌, ◌≤◌, ◌<◌, ◌^◌, ℕ, ℤ, pos, negsuc, ◌≤ℤ◌, Bool, true, false, not, ◌&&◌, nat_lt, nat_le, int_le, List, Option, Some, None, IfSome, FitsSigned, refl}
use Rattle.std.specs.Int.{Width, w8, w16, w32, w64, w128, FitsUnsigned}
use Rattle.std.specs.Bool.{Decides, passes}
use Rattle.std.specs.Option.{option_map_or}
use Rattle.std.specs.Str.{IsUtf8, is_utf8}
use Rattle.std.proofs.lemmas.Bool.{leb-true, le-leb}
use Rattle.std.proofs.lemmas.Bool.Decides.{Decides-ltb, Decides-eqb, Decides-and, Decides-by_and}
use Rattle.std.proofs.lemmas.Str.{IsUtf8-from_is_utf8, is_utf8-from_IsUtf8}
use lib.Dec.{T}
use mir.Val.{bits, hbits}
use Rattle.std.proofs.Common.{arith, sym, true≢false}
use Rattle.vortex_terms.specs.Term.{WholeKind, unsigned_8, unsigned_16, unsigned_32, unsigned_64, signed_8, signed_16, signed_32, signed_64, Term, null, boolean, primitive, decimal, utf8, binary, structure, list, extension, fixed_size_list, Fields, no_fields, field}
use Rattle.vortex_terms.specs.Types.{IsBytes, IsDecimal, is_extension, Legal, LegalFields, Bounded, is_within}
use Rattle.vortex_terms.specs.Row.{Row, null_row, truth_row, whole_row, bytes_row, list_row, Rows, no_rows, row, row_count, AllRows}
use Rattle.vortex_terms.specs.Fits.{InRange, Fits, FitsFields}
use Rattle.vortex_terms.specs.Tests.{are_bytes, is_decimal, is_legal, are_legal, is_bounded, is_signed, is_unsigned, is_in_range, rows_all, is_fitting, are_fitting}
use Rattle.vortex_terms.specs.TermLaws.{is_within-Decides}

always : Decides true (Unit {0})
always = (λ _. tt, λ _. refl)

never : Decides false ⊥
never = (λ e. true≢false (sym e), λ h. absurd h)

itself : (b : Bool) → Decides b (b ≡ true)
itself b = (λ e. e, λ e. e)

below_or_at : (a b : ℕ) → Decides (nat_le a b) (a ≤ b)
below_or_at a b = (leb-true a b, le-leb a b)

said : (b : Bool) → T b → b ≡ true
said true h = refl
said false h = absurd h

three : (a b c : Bool) → {P Q R : Type 0} → Decides a P → Decides b Q → Decides c R
    → Decides (a && b && c) (P × Q × R)
three a b c p q r =
    let both = Decides-and (a && b) c (Decides-and a b p q) r in
    (λ e. let h = both.0 e in (h.0.0, h.0.1, h.1), λ h. both.1 ((h.0, h.1), h.2))

four : (a b c d : Bool) → {P Q R S : Type 0} → Decides a P → Decides b Q → Decides c R → Decides d S
    → Decides (a && b && c && d) (P × Q × R × S)
four a b c d p q r s =
    let both = Decides-and (a && b && c) d (three a b c p q r) s in
    (λ e. let h = both.0 e in (h.0.0, h.0.1, h.0.2, h.1), λ h. both.1 ((h.0, h.1, h.2), h.3))

int_le-Decides : (a b : ℤ) → Decides (int_le a b) (a ≤ℤ b)
int_le-Decides a b = (λ e. record { le = passes (int_le a b) e }, λ h. said (int_le a b) h.le)

-- ---- bytes and text

pub are_bytes-Decides : (bs : List ℕ) → Decides (are_bytes bs) (IsBytes bs)
are_bytes-Decides bs =
    Decides-by_and (λ b. nat_lt b 256) (λ b. b < 256) are_bytes (λ b. Decides-ltb b 256) refl
    (λ x xs. refl) bs

text-Decides : (bs : List ℕ) → Decides (is_utf8 bs) (IsUtf8 bs)
text-Decides bs = (IsUtf8-from_is_utf8 bs, is_utf8-from_IsUtf8 bs)

metadata-Decides : (m : Option (List ℕ))
    → Decides (option_map_or are_bytes m true) (IfSome m IsBytes)
metadata-Decides None = always
metadata-Decides (Some bs) = are_bytes-Decides bs

-- ---- types

pub is_decimal-Decides : (p : ℕ) (s : ℤ) → Decides (is_decimal p s) (IsDecimal p s)
is_decimal-Decides p s =
    four _ _ _ _ (below_or_at 1 p) (below_or_at p 76) (int_le-Decides (negsuc 127) s)
    (int_le-Decides s (pos p))

is_no-Decides : (b : Bool) → Decides (not b) (b ≡ false)
is_no-Decides true = (λ e. absurd (true≢false (sym e)), λ e. absurd (true≢false e))
is_no-Decides false = (λ _. refl, λ _. refl)

mutual
  pub is_legal-Decides : (t : Term) → Decides (is_legal t) (Legal t)
  is_legal-Decides null = always
  is_legal-Decides (boolean n) = always
  is_legal-Decides (primitive k n) = always
  is_legal-Decides (decimal p s n) = is_decimal-Decides p s
  is_legal-Decides (utf8 n) = always
  is_legal-Decides (binary n) = always
  is_legal-Decides (structure fs n) = are_legal-Decides fs
  is_legal-Decides (list t n) = is_legal-Decides t
  is_legal-Decides (extension id t m) =
      four _ _ _ _ (text-Decides id) (metadata-Decides m) (is_no-Decides (is_extension t))
      (is_legal-Decides t)
  is_legal-Decides (fixed_size_list t k n) =
      Decides-and _ _ (Decides-ltb k (2 ^ 32)) (is_legal-Decides t)

  pub are_legal-Decides : (fs : Fields) → Decides (are_legal fs) (LegalFields fs)
  are_legal-Decides no_fields = always
  are_legal-Decides (field x t fs) =
      three _ _ _ (text-Decides x) (is_legal-Decides t) (are_legal-Decides fs)

pub is_bounded-Decides : (t : Term) → Decides (is_bounded t) (Bounded t)
is_bounded-Decides t = by (is_legal t) (is_within t) (is_legal-Decides t) (is_within-Decides t)
  where
    by : (a b : Bool) → Decides a (Legal t) → (Legal t → Decides b (Bounded t))
        → Decides (a && b) (Bounded t)
    by true b legal within = within (legal.0 refl)
    by false b legal within = (λ e. absurd (true≢false (sym e)), λ h. legal.1 h.legal)

-- ---- rows

is_signed-Decides : (w : Width) (z : ℤ) → Decides (is_signed w z) (FitsSigned w z)
is_signed-Decides w (pos n) = (
  λ e. record { sfits = (Decides-ltb n (2 ^ hbits w)).0 e },
  λ h. (Decides-ltb n (2 ^ hbits w)).1 h.sfits,
)
is_signed-Decides w (negsuc n) = (
  λ e. record { sfits = (Decides-ltb n (2 ^ hbits w)).0 e },
  λ h. (Decides-ltb n (2 ^ hbits w)).1 h.sfits,
)

is_unsigned-Decides : (w : Width) (z : ℤ) → Decides (is_unsigned w z) (FitsUnsigned w z)
is_unsigned-Decides w (pos n) = (
  λ e. (
    record { le = passes (int_le (pos 0) (pos n)) (le-leb 0 n (omega arith)) },
    record { lt = passes (nat_lt n (2 ^ bits w)) e },
  ),
  λ h. said (nat_lt n (2 ^ bits w)) h.1.lt,
)
is_unsigned-Decides w (negsuc n) = (λ e. absurd (true≢false (sym e)), λ h. absurd h.0.le)

pub is_in_range-Decides : (k : WholeKind) (z : ℤ) → Decides (is_in_range k z) (InRange k z)
is_in_range-Decides unsigned_8 z = is_unsigned-Decides w8 z
is_in_range-Decides unsigned_16 z = is_unsigned-Decides w16 z
is_in_range-Decides unsigned_32 z = is_unsigned-Decides w32 z
is_in_range-Decides unsigned_64 z = is_unsigned-Decides w64 z
is_in_range-Decides signed_8 z = is_signed-Decides w8 z
is_in_range-Decides signed_16 z = is_signed-Decides w16 z
is_in_range-Decides signed_32 z = is_signed-Decides w32 z
is_in_range-Decides signed_64 z = is_signed-Decides w64 z

pub rows_all-Decides : (p : Row → Bool) (P : Row → Type 0) → ((r : Row) → Decides (p r) (P r))
    → (rs : Rows) → Decides (rows_all p rs) (AllRows P rs)
rows_all-Decides p P each no_rows = always
rows_all-Decides p P each (row r rs) = Decides-and _ _ (each r) (rows_all-Decides p P each rs)

mutual
  pub is_fitting-Decides : (t : Term) (r : Row) → Decides (is_fitting t r) (Fits t r)
  is_fitting-Decides null null_row = always
  is_fitting-Decides (boolean n) null_row = itself n
  is_fitting-Decides (boolean n) (truth_row b) = always
  is_fitting-Decides (primitive k n) null_row = itself n
  is_fitting-Decides (primitive k n) (whole_row z) = is_in_range-Decides k z
  is_fitting-Decides (decimal p s n) null_row = itself n
  is_fitting-Decides (decimal p s n) (whole_row z) = is_signed-Decides w128 z
  is_fitting-Decides (utf8 n) null_row = itself n
  is_fitting-Decides (utf8 n) (bytes_row bs) = text-Decides bs
  is_fitting-Decides (binary n) null_row = itself n
  is_fitting-Decides (binary n) (bytes_row bs) = are_bytes-Decides bs
  is_fitting-Decides (structure fs n) null_row = itself n
  is_fitting-Decides (structure fs n) (list_row rs) = are_fitting-Decides fs rs
  is_fitting-Decides (list t n) null_row = itself n
  is_fitting-Decides (list t n) (list_row rs) =
      rows_all-Decides (is_fitting t) (Fits t) (is_fitting-Decides t) rs
  is_fitting-Decides (extension id t m) r = is_fitting-Decides t r
  is_fitting-Decides (fixed_size_list t k n) null_row = itself n
  is_fitting-Decides (fixed_size_list t k n) (list_row rs) =
      Decides-and _ _ (Decides-eqb (row_count rs) k)
      (rows_all-Decides (is_fitting t) (Fits t) (is_fitting-Decides t) rs)
  is_fitting-Decides _ _ = never

  pub are_fitting-Decides : (fs : Fields) (rs : Rows)
      → Decides (are_fitting fs rs) (FitsFields fs rs)
  are_fitting-Decides no_fields no_rows = always
  are_fitting-Decides (field x t fs) (row r rs) =
      Decides-and _ _ (is_fitting-Decides t r) (are_fitting-Decides fs rs)
  are_fitting-Decides _ _ = never
