-- Laws of formats: a number that is written is read again, and what is read fits.
use Rattle.std.proofs.Common.{◌≡◌, ℕ, zero, suc, ◌+◌, ◌*◌, ◌/◌, ◌%◌, ◌^◌, ◌<◌, ◌≤◌, ℤ, pos, negsuc}
use Rattle.std.proofs.Common.{Bool, true, false, List, length, slice_index, IsTrue, unsigned_abs}
use Rattle.std.proofs.Common.{FitsSigned, refl, sym, ◌∙◌, ap, true≢false, arith, lit<, add_comm}
use Rattle.std.proofs.Common.{mul_comm, pow-suc, mod-eq_of_lt, mul-le-mul_right}
use Rattle.std.specs.Int.{Width, w8, w16, w32, w64, w128, byte_at, byte_worth, byte_len}
use Rattle.std.specs.Int.{sum_through, cast_signed, cast_unsigned}
use Rattle.std.proofs.Math.Arith.{mod-mul}
use Rattle.std.proofs.lemmas.Bool.{ltb-true, lt-ltb}
use Rattle.std.proofs.lemmas.Int.{to_z-of_z}
use Rattle.std.proofs.lemmas.Nat.{pow_pos}
use Rattle.std.proofs.Math.Facts.{sfits_to_z}
use Rattle.vortex_number.specs.Format.{Format, signed, unsigned, fits, bits_of, number_with_bits}
use Rattle.vortex_number.specs.Format.{le_bytes, number_of_le_bytes, bytes_of, number_with_bytes}
use mir.Val.{bits, hbits}

-- ---- bytes without a sign

256_pow_pos : (k : ℕ) → 0 < 256 ^ k
256_pow_pos zero = lit< tt
256_pow_pos (suc k) = rw pow-suc (omega (arith, 256_pow_pos k))

-- the low bytes of a number, each at its worth, are what is left of it
worth_of_bytes : (n k : ℕ) → sum_through (λ i. byte_worth i (byte_at i n)) k ≡ n % 256 ^ suc k
worth_of_bytes n zero = refl
worth_of_bytes n (suc k) =
    ap (λ s. s + n / 256 ^ suc k % 256 * 256 ^ suc k) (worth_of_bytes n k)
    ∙ add_comm (n % 256 ^ suc k) (n / 256 ^ suc k % 256 * 256 ^ suc k)
    ∙ sym (mod-mul n {m = 256} {c = 256 ^ suc k} (lit< tt) (256_pow_pos (suc k)))
    ∙ ap (λ p. n % p) (mul_comm 256 (256 ^ suc k) ∙ sym (pow-suc 256 (suc k)))

-- a number without a sign is read from the bytes that were written of it
pub number_of_le_bytes-le_bytes : (w : Width) (n : ℕ) → n < 2 ^ bits w
    → number_of_le_bytes w (le_bytes w n) ≡ n
unfolding number_of_le_bytes le_bytes
number_of_le_bytes-le_bytes w8 n h = worth_of_bytes n 0 ∙ mod-eq_of_lt h
number_of_le_bytes-le_bytes w16 n h = worth_of_bytes n 1 ∙ mod-eq_of_lt h
number_of_le_bytes-le_bytes w32 n h = worth_of_bytes n 3 ∙ mod-eq_of_lt h
number_of_le_bytes-le_bytes w64 n h = worth_of_bytes n 7 ∙ mod-eq_of_lt h
number_of_le_bytes-le_bytes w128 n h = worth_of_bytes n 15 ∙ mod-eq_of_lt h

-- a number has as many bytes as its width
pub length-le_bytes : (w : Width) (n : ℕ) → length (le_bytes w n) ≡ byte_len w
unfolding le_bytes
length-le_bytes w8 n = refl
length-le_bytes w16 n = refl
length-le_bytes w32 n = refl
length-le_bytes w64 n = refl
length-le_bytes w128 n = refl

-- the two halves of the numbers of a width
two_halves : (w : Width) → 2 ^ bits w ≡ 2 ^ hbits w + 2 ^ hbits w
two_halves w8 = refl
two_halves w16 = refl
two_halves w32 = refl
two_halves w64 = refl
two_halves w128 = refl

one_more_byte : (p s b : ℕ) → s < p → b < 256 → s + b * p < p * 256
one_more_byte p s b small byte =
    let most : b ≤ 255 = omega arith in
    omega (arith, mul-le-mul_right p most)

-- bytes at their worth stay below the next power
worth_below : (f : ℕ → ℕ) (k : ℕ) → ((i : ℕ) → f i < 256)
    → sum_through (λ i. byte_worth i (f i)) k < 256 ^ suc k
worth_below f zero h = h 0
worth_below f (suc k) h =
    rw (pow-suc 256 (suc k))
    (one_more_byte (256 ^ suc k) _ (f (suc k)) (worth_below f k h) (h (suc k)))

-- what bytes stand for is below the power of their width
pub number_of_le_bytes_below : (w : Width) (bs : List ℕ) → ((i : ℕ) → slice_index bs i < 256)
    → number_of_le_bytes w bs < 2 ^ bits w
unfolding number_of_le_bytes
number_of_le_bytes_below w8 bs h = worth_below (slice_index bs) 0 h
number_of_le_bytes_below w16 bs h = worth_below (slice_index bs) 1 h
number_of_le_bytes_below w32 bs h = worth_below (slice_index bs) 3 h
number_of_le_bytes_below w64 bs h = worth_below (slice_index bs) 7 h
number_of_le_bytes_below w128 bs h = worth_below (slice_index bs) 15 h

-- ---- formats

-- a number that fits without its sign, by cases on the sign
pub signed_fit : (w : Width) (z : ℤ) → IsTrue (fits (signed w) z) → FitsSigned w z
signed_fit w (pos n) h = record { sfits = ltb-true _ _ h }
signed_fit w (negsuc n) h = record { sfits = ltb-true _ _ h }

pub fit_signed : (w : Width) (z : ℤ) → FitsSigned w z → IsTrue (fits (signed w) z)
fit_signed w (pos n) h = lt-ltb _ _ h.sfits
fit_signed w (negsuc n) h = lt-ltb _ _ h.sfits

-- the bits of a number that fits are as many as the width has
bits_below : (w : Width) (s : Bool) (z : ℤ)
    → IsTrue (fits (record { width = w; signed = s }) z) → cast_unsigned w z < 2 ^ bits w
bits_below w false (pos n) h = ltb-true _ _ h
bits_below w false (negsuc n) h = absurd (true≢false (sym h))
bits_below w true (pos n) h =
    let half : n < 2 ^ hbits w = ltb-true _ _ h in
    let whole : 2 ^ bits w ≡ 2 ^ hbits w + 2 ^ hbits w = two_halves w in
    omega arith
bits_below w true (negsuc n) h =
    let some : 0 < 2 ^ bits w = pow_pos (bits w) in
    omega arith

-- a number that fits is the one that has its bits
by_sign : (w : Width) (s : Bool) (z : ℤ) → IsTrue (fits (record { width = w; signed = s }) z)
    → number_with_bits (record { width = w; signed = s }) (cast_unsigned w z) ≡ z
by_sign w true z h = to_z-of_z w z (signed_fit w z h)
by_sign w false (pos n) h = refl
by_sign w false (negsuc n) h = absurd (true≢false (sym h))

pub number_with_bits-bits_of : (f : Format) (z : ℤ) → IsTrue (fits f z)
    → number_with_bits f (bits_of f z) ≡ z
number_with_bits-bits_of f z h = by_sign f.width f.signed z h

-- what bits stand for fits
fit_by_sign : (w : Width) (s : Bool) (n : ℕ) → n < 2 ^ bits w
    → IsTrue (fits (record { width = w; signed = s })
    (number_with_bits (record { width = w; signed = s }) n))
fit_by_sign w true n h = fit_signed w (cast_signed w n) (sfits_to_z (record { fits = h }))
fit_by_sign w false n h = lt-ltb _ _ h

pub fits-number_with_bits : (f : Format) (n : ℕ) → n < 2 ^ bits f.width
    → IsTrue (fits f (number_with_bits f n))
fits-number_with_bits f n h = fit_by_sign f.width f.signed n h

-- a number that fits is read from the bytes that were written of it
pub number_with_bytes-bytes_of : (f : Format) (z : ℤ) → IsTrue (fits f z)
    → number_with_bytes f (bytes_of f z) ≡ z
number_with_bytes-bytes_of f z h =
    ap (number_with_bits f)
    (number_of_le_bytes-le_bytes f.width (bits_of f z) (bits_below f.width f.signed z h))
    ∙ number_with_bits-bits_of f z h

-- what is read from bytes fits
pub fits-number_with_bytes : (f : Format) (bs : List ℕ) → ((i : ℕ) → slice_index bs i < 256)
    → IsTrue (fits f (number_with_bytes f bs))
fits-number_with_bytes f bs h =
    fits-number_with_bits f (number_of_le_bytes f.width bs) (number_of_le_bytes_below f.width bs h)

-- a number that fits without a sign is none below 0
pub unsigned_number_law : (w : Width) (z : ℤ) → IsTrue (fits (unsigned w) z)
    → pos (unsigned_abs z) ≡ z
unsigned_number_law w (pos n) h = refl
unsigned_number_law w (negsuc n) h = absurd (true≢false (sym h))
