-- Numbers in a buffer: as many as asked for, and each fits where the buffer is one of bytes.
use Rattle.std.proofs.Common.{◌≡◌, ◌<◌, ◌≤◌, ℕ, zero, suc, ◌*◌, ◌^◌, ℤ, pos, negsuc, List, [], ◌∷◌, Bool, true, IsTrue, FitsSigned, Some, None, map, length, take, drop, refl, sym, ap, ◌∙◌, subst, arith}
use Rattle.std.specs.Prelude.{slice_index, option_and_then, if◌then◌else◌, ◌==◌}
use Rattle.std.specs.List.{AllByRecursion}
use Rattle.std.specs.Int.{Width, w8, w16, w32, w64, w128, byte_len}
use Rattle.std.specs.Simd.{first_chunks}
use Rattle.std.proofs.lemmas.List.{length-map}
use Rattle.std.proofs.lemmas.Bool.{leb-true}
use mir.Val.{hbits}
use Rattle.std.proofs.lemmas.List.Elements.{All-take, All-drop}
use Rattle.vortex_number.specs.Format.{Format, signed, unsigned, fits, number_with_bytes}
use Rattle.vortex_number.specs.inner.FormatLaws.{fits-number_with_bytes, signed_fit}
use Rattle.vortex_terms.specs.Term.{WholeKind, unsigned_8, unsigned_16, unsigned_32, unsigned_64, signed_8, signed_16, signed_32, signed_64, primitive, decimal}
use Rattle.vortex_terms.specs.Types.{IsBytes}
use Rattle.vortex_terms.specs.Row.{Row, whole_row}
use Rattle.vortex_terms.specs.Fits.{Fits, InRange}
use Rattle.vortex_terms.specs.Tests.{is_signed, is_unsigned}
use Rattle.vortex_terms.specs.TestLaws.{is_in_range-Decides}
use Rattle.vortex_wire.specs.Metadata.{decimal_metadata_of}
use Rattle.vortex_node_rows.specs.Buffers.{one_buffer}
use Rattle.vortex_node_rows.specs.Leaves.{numbers_in, numbers_of, kind_format, value_type_format, decimals_of}
use Rattle.vortex_node_rows.proofs.Options.{some_same, none_some, bind_some, guarded}

pub length-first_chunks : {A : Type 0} (w n : ℕ) (xs : List A) → length (first_chunks w n xs) ≡ n
length-first_chunks w zero xs = refl
length-first_chunks w (suc n) xs = ap suc (length-first_chunks w n (drop w xs))

-- one buffer is among the buffers
pub one_of : (bs : List (List ℕ)) (b : List ℕ) → AllByRecursion IsBytes bs → one_buffer bs ≡ Some b → IsBytes b
unfolding one_buffer
one_of [] b h e = absurd (none_some b e)
one_of (c ∷ []) b h e = subst IsBytes (some_same c b e) h.0
one_of (c ∷ (d ∷ bs)) b h e = absurd (none_some b e)

-- ---- any format

numbers_found : (f : Format) (n : ℕ) (bs : List (List ℕ)) (rs : List Row) → numbers_of f n bs ≡ Some rs
    → (b : List ℕ) × (one_buffer bs ≡ Some b) × (numbers_in f n b ≡ rs)
unfolding numbers_of
numbers_found f n bs rs e =
    let b = bind_some (one_buffer bs)
    (λ b. if length b == n * byte_len f.width then Some (numbers_in f n b) else None) rs e in
    (b.0, b.1, (guarded (length b.0 == n * byte_len f.width) (numbers_in f n b.0) rs b.2).1)

pub numbers_count : (f : Format) (n : ℕ) (bs : List (List ℕ)) (rs : List Row) → numbers_of f n bs ≡ Some rs
    → length rs ≡ n
numbers_count f n bs rs e =
    let b = numbers_found f n bs rs e in
    ap length (sym b.2) ∙ length-map (first_chunks (byte_len f.width) n b.0) _
    ∙ length-first_chunks (byte_len f.width) n b.0

-- each byte is below 256, and so is 0 past the end
bytes_below : (bs : List ℕ) → IsBytes bs → (i : ℕ) → slice_index bs i < 256
bytes_below [] h i = omega arith
bytes_below (b ∷ bs) h zero = h 0 0 (omega arith)
bytes_below (b ∷ bs) h (suc i) = bytes_below bs (λ k d l. h (suc k) d (omega arith)) i

chunks_fit : (P : Row → Type 0) (f : Format) (w n : ℕ) (bs : List ℕ)
    → ((z : ℤ) → IsTrue (fits f z) → P (whole_row z)) → IsBytes bs
    → AllByRecursion P (map (λ c. whole_row (number_with_bytes f c)) (first_chunks w n bs))
chunks_fit P f w zero bs each h = tt
chunks_fit P f w (suc n) bs each h = (
  each (number_with_bytes f (take w bs))
      (fits-number_with_bytes f (take w bs) (bytes_below (take w bs) (All-take (λ b. b < 256) w bs h))),
  chunks_fit P f w n (drop w bs) each (All-drop (λ b. b < 256) w bs h),
)

numbers_fit : (P : Row → Type 0) (f : Format) (n : ℕ) (bs : List (List ℕ)) (rs : List Row)
    → ((z : ℤ) → IsTrue (fits f z) → P (whole_row z)) → AllByRecursion IsBytes bs → numbers_of f n bs ≡ Some rs
    → AllByRecursion P rs
numbers_fit P f n bs rs each h e =
    let b = numbers_found f n bs rs e in
    subst (AllByRecursion P) b.2 (chunks_fit P f (byte_len f.width) n b.0 each (one_of bs b.0 h b.1))

-- ---- kinds

unsigned_tested : (w : Width) (z : ℤ) → IsTrue (fits (unsigned w) z) → is_unsigned w z ≡ true
unsigned_tested w (pos n) h = h
unsigned_tested w (negsuc n) h = h

signed_tested : (w : Width) (z : ℤ) → IsTrue (fits (signed w) z) → is_signed w z ≡ true
signed_tested w (pos n) h = h
signed_tested w (negsuc n) h = h

in_range : (k : WholeKind) (z : ℤ) → IsTrue (fits (kind_format k) z) → InRange k z
in_range unsigned_8 z h = (is_in_range-Decides unsigned_8 z).0 (unsigned_tested w8 z h)
in_range unsigned_16 z h = (is_in_range-Decides unsigned_16 z).0 (unsigned_tested w16 z h)
in_range unsigned_32 z h = (is_in_range-Decides unsigned_32 z).0 (unsigned_tested w32 z h)
in_range unsigned_64 z h = (is_in_range-Decides unsigned_64 z).0 (unsigned_tested w64 z h)
in_range signed_8 z h = (is_in_range-Decides signed_8 z).0 (signed_tested w8 z h)
in_range signed_16 z h = (is_in_range-Decides signed_16 z).0 (signed_tested w16 z h)
in_range signed_32 z h = (is_in_range-Decides signed_32 z).0 (signed_tested w32 z h)
in_range signed_64 z h = (is_in_range-Decides signed_64 z).0 (signed_tested w64 z h)

pub kinds_fit : (k : WholeKind) (nl : Bool) (n : ℕ) (bs : List (List ℕ)) (rs : List Row) → AllByRecursion IsBytes bs
    → numbers_of (kind_format k) n bs ≡ Some rs → AllByRecursion (Fits (primitive k nl)) rs
kinds_fit k nl n bs rs h e = numbers_fit (Fits (primitive k nl)) (kind_format k) n bs rs (in_range k) h e

-- ---- decimals

below : (a b c : ℕ) → a < b → b ≤ c → a < c
below a b c h k = omega arith

-- no width is above 128 bits
at_most_128 : (w : Width) → 2 ^ hbits w ≤ 2 ^ hbits w128
at_most_128 w8 = leb-true _ _ refl
at_most_128 w16 = leb-true _ _ refl
at_most_128 w32 = leb-true _ _ refl
at_most_128 w64 = leb-true _ _ refl
at_most_128 w128 = leb-true _ _ refl

wide : (w : Width) (z : ℤ) → IsTrue (fits (signed w) z) → FitsSigned w128 z
wide w z h = record { sfits = below _ (2 ^ hbits w) (2 ^ hbits w128) (signed_fit w z h).sfits (at_most_128 w) }

-- the format of a value type is a signed one
signed_format : (n : ℕ) (f : Format) → value_type_format n ≡ Some f → (w : Width) × (signed w ≡ f)
signed_format zero f e = (w8, some_same (signed w8) f e)
signed_format (suc zero) f e = (w16, some_same (signed w16) f e)
signed_format (suc (suc zero)) f e = (w32, some_same (signed w32) f e)
signed_format (suc (suc (suc zero))) f e = (w64, some_same (signed w64) f e)
signed_format (suc (suc (suc (suc zero)))) f e = (w128, some_same (signed w128) f e)
signed_format (suc (suc (suc (suc (suc n))))) f e = absurd (none_some f e)

decimals_found : (m : List ℕ) (n : ℕ) (bs : List (List ℕ)) (rs : List Row) → decimals_of m n bs ≡ Some rs
    → (w : Width) × (numbers_of (signed w) n bs ≡ Some rs)
unfolding decimals_of
decimals_found m n bs rs e =
    let d = bind_some (decimal_metadata_of m)
    (λ d. option_and_then (λ f. numbers_of f n bs) (value_type_format d.value_type)) rs e in
    let f = bind_some (value_type_format d.0.value_type) (λ f. numbers_of f n bs) rs d.2 in
    let w = signed_format d.0.value_type f.0 f.1 in
    (w.0, subst (λ g. numbers_of g n bs ≡ Some rs) (sym w.1) f.2)

pub decimals_count : (m : List ℕ) (n : ℕ) (bs : List (List ℕ)) (rs : List Row) → decimals_of m n bs ≡ Some rs
    → length rs ≡ n
decimals_count m n bs rs e =
    let w = decimals_found m n bs rs e in
    numbers_count (signed w.0) n bs rs w.1

pub decimals_fit : (p : ℕ) (s : ℤ) (nl : Bool) (m : List ℕ) (n : ℕ) (bs : List (List ℕ)) (rs : List Row)
    → AllByRecursion IsBytes bs → decimals_of m n bs ≡ Some rs → AllByRecursion (Fits (decimal p s nl)) rs
decimals_fit p s nl m n bs rs h e =
    let w = decimals_found m n bs rs e in
    numbers_fit (Fits (decimal p s nl)) (signed w.0) n bs rs (wide w.0) h w.1
