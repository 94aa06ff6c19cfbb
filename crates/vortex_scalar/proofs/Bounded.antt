-- Bounds of scalars.
use Rattle.std.proofs.Common.{◌≡◌, ℕ, ◌≤◌, true, List, length, Option, Some, None, IsTrue, IsUtf8, refl, sym, subst, arith}
use Rattle.std.specs.Option.{IsSome, option_map}
use Rattle.std.specs.declared.cmp.Ordering.{Ordering}
use Rattle.std.specs.declared.cmp.Ordering.TheVariants.{Less, Equal, Greater}
use Rattle.std.specs.Ordering.{is_le, is_eq, nat_cmp}
use Rattle.std.specs.Cmp.Lexicographic.{slice_cmp}
use Rattle.std.proofs.lemmas.Bool.{false≢true}
use Rattle.std.proofs.lemmas.Option.{none-some, same_Some}
use Rattle.vortex_terms.specs.Term.{Term, utf8, binary}
use Rattle.vortex_terms.specs.Types.{IsBytes}
use Rattle.vortex_terms.specs.Row.{Row, null_row, truth_row, whole_row, bytes_row, list_row}
use Rattle.vortex_terms.specs.Fits.{Fits}
use Rattle.vortex_terms.specs.Parts.{byte_count}
use Rattle.vortex_terms.specs.Order.{row_cmp}
use Rattle.vortex_terms.specs.OrderLaws.{row_eq-Decides}
use Rattle.vortex_types.specs.Predicates.{is_utf8, is_binary}
use Rattle.vortex_scalar_value.specs.Value.{ValueTerm, bytes_value, text_value}
use Rattle.vortex_value_rows.specs.RowOf.{fitting_row}
use Rattle.vortex_scalar.specs.ScalarTerm.{ScalarTerm}
use Rattle.vortex_scalar.specs.Made.{typed, scalar_of}
use Rattle.vortex_scalar.specs.Bounds.{lower_row, upper_row, lower_scalar, upper_scalar, IsLowerBound, IsUpperBound}
use Rattle.vortex_scalar.proofs.Rows.{fits_as, made_as}

-- ---- what is made of a text or of bytes

pub text_fits : (t : Term) (v : ValueTerm) (bs : List ℕ) → IsTrue (is_utf8 t) → v ≡ text_value bs → IsUtf8 bs → IsSome (fitting_row t v)
text_fits (utf8 n) v bs k e u = fits_as (utf8 n) v (text_value bs) (bytes_row bs) e refl u
text_fits _ v bs k e u = absurd (false≢true k)

pub text_is : (t : Term) (v : ValueTerm) (bs : List ℕ) → IsTrue (is_utf8 t) → v ≡ text_value bs → IsUtf8 bs → scalar_of t v ≡ typed t (bytes_row bs)
text_is (utf8 n) v bs k e u = made_as (utf8 n) v (text_value bs) (bytes_row bs) (scalar_of (utf8 n) v) e refl u refl
text_is _ v bs k e u = absurd (false≢true k)

pub bytes_fit : (t : Term) (v : ValueTerm) (bs : List ℕ) → IsTrue (is_binary t) → v ≡ bytes_value bs → IsBytes bs → IsSome (fitting_row t v)
bytes_fit (binary n) v bs k e u = fits_as (binary n) v (bytes_value bs) (bytes_row bs) e refl u
bytes_fit _ v bs k e u = absurd (false≢true k)

pub bytes_are : (t : Term) (v : ValueTerm) (bs : List ℕ) → IsTrue (is_binary t) → v ≡ bytes_value bs → IsBytes bs → scalar_of t v ≡ typed t (bytes_row bs)
bytes_are (binary n) v bs k e u = made_as (binary n) v (bytes_value bs) (bytes_row bs) (scalar_of (binary n) v) e refl u refl
bytes_are _ v bs k e u = absurd (false≢true k)

text_of : (t : Term) (r : Row) (bs : List ℕ) → IsTrue (is_utf8 t) → Fits t r → r ≡ bytes_row bs → IsUtf8 bs
text_of (utf8 n) r bs k f e = subst (λ q. Fits (utf8 n) q) e f
text_of _ r bs k f e = absurd (false≢true k)

-- ---- bounds lie below and above

le_of_eq : (o : Ordering) → is_eq o ≡ true → IsTrue (is_le o)
le_of_eq Equal e = refl
le_of_eq Less e = refl
le_of_eq Greater e = absurd (false≢true e)

le_itself : (r : Row) → IsTrue (is_le (row_cmp r r))
le_itself r = le_of_eq (row_cmp r r) ((row_eq-Decides r r).1 refl)

no_bytes : (n : ℕ) → 0 ≤ n
no_bytes n = omega arith

pub lower_bound : (n : ℕ) (s : ScalarTerm) (lower : List ℕ → List ℕ)
    → ((bs : List ℕ) → s.row ≡ bytes_row bs → IsTrue (is_le (slice_cmp nat_cmp (lower bs) bs)))
    → ((bs : List ℕ) → length (lower bs) ≤ n) → IsLowerBound n s (lower_scalar lower s)
lower_bound n s lower below short = by s.dtype s.row below
  where
    by : (t : Term) (r : Row) → ((bs : List ℕ) → r ≡ bytes_row bs → IsTrue (is_le (slice_cmp nat_cmp (lower bs) bs)))
        → IsLowerBound n (typed t r) (typed t (lower_row lower r))
    by t (bytes_row bs) below = (refl, below bs refl, short bs)
    by t null_row below = (refl, le_itself null_row, no_bytes n)
    by t (truth_row b) below = (refl, le_itself (truth_row b), no_bytes n)
    by t (whole_row z) below = (refl, le_itself (whole_row z), no_bytes n)
    by t (list_row rs) below = (refl, le_itself (list_row rs), no_bytes n)

module _ (n : ℕ) (upper : List ℕ → Option (List ℕ)) (t : Term) where
  raised : (bs : List ℕ) (b : ScalarTerm) (o : Option (List ℕ))
      → ((bound : List ℕ) → o ≡ Some bound → IsTrue (is_le (slice_cmp nat_cmp bs bound)))
      → ((bound : List ℕ) → o ≡ Some bound → length bound ≤ n)
      → option_map (typed t) (option_map bytes_row o) ≡ Some b → IsUpperBound n (typed t (bytes_row bs)) b
  raised bs b None above short e = absurd (none-some b e)
  raised bs b (Some bound) above short e =
      subst (IsUpperBound n (typed t (bytes_row bs))) (same_Some (typed t (bytes_row bound)) b e) (refl, above bound refl, short bound refl)

  same : (r : Row) (b : ScalarTerm) → byte_count r ≡ 0 → Some (typed t r) ≡ Some b → IsUpperBound n (typed t r) b
  same r b z e = subst (IsUpperBound n (typed t r)) (same_Some (typed t r) b e) (refl, le_itself r, subst (λ k. k ≤ n) (sym z) (no_bytes n))

  above_of : (r : Row) (b : ScalarTerm)
      → ((bs bound : List ℕ) → r ≡ bytes_row bs → upper bs ≡ Some bound → IsTrue (is_le (slice_cmp nat_cmp bs bound)))
      → ((bs bound : List ℕ) → upper bs ≡ Some bound → length bound ≤ n)
      → option_map (typed t) (upper_row upper r) ≡ Some b → IsUpperBound n (typed t r) b
  above_of (bytes_row bs) b above short e = raised bs b (upper bs) (λ bound h. above bs bound refl h) (λ bound h. short bs bound h) e
  above_of null_row b above short e = same null_row b refl e
  above_of (truth_row x) b above short e = same (truth_row x) b refl e
  above_of (whole_row z) b above short e = same (whole_row z) b refl e
  above_of (list_row rs) b above short e = same (list_row rs) b refl e

pub upper_bound : (n : ℕ) (s b : ScalarTerm) (upper : List ℕ → Option (List ℕ))
    → ((bs bound : List ℕ) → s.row ≡ bytes_row bs → upper bs ≡ Some bound → IsTrue (is_le (slice_cmp nat_cmp bs bound)))
    → ((bs bound : List ℕ) → upper bs ≡ Some bound → length bound ≤ n)
    → upper_scalar upper s ≡ Some b → IsUpperBound n s b
upper_bound n s b upper above short e = above_of n upper s.dtype s.row b above short e

pub text_in_row : (s : ScalarTerm) (bs : List ℕ) → IsTrue (is_utf8 s.dtype) → Fits s.dtype s.row → s.row ≡ bytes_row bs → IsUtf8 bs
text_in_row s bs k f e = text_of s.dtype s.row bs k f e
