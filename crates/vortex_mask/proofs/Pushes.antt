-- One more truth value in a byte.
use Rattle.std.proofs.Common.{◌≡◌, ℕ, zero, suc, ◌+◌, ◌*◌, ◌/◌, ◌%◌, ◌^◌, ◌<◌, ◌≤◌, Bool, true, false, List, [], ◌∷◌, ◌++◌, length, take, ◌==◌, bit_or, arith, refl, sym, ap, ◌∙◌}
use Rattle.std.proofs.lemmas.List.{append-nil, append_assoc}
use Rattle.std.proofs.lemmas.List.Concat.{flat_map-append}
use Rattle.std.proofs.lemmas.Nat.{or_shifted, or_comm, shl_whole}
use Rattle.std.proofs.Math.Nat.{pow-suc}
use Rattle.std.proofs.Math.Numerals.{add-one}
use Rattle.std.proofs.Math.Seq.{take-append-add}
use Rattle.std.specs.List.{flat_map}
use Rattle.vortex_mask.specs.Bits.{bits_of_byte, truths_in}
use Rattle.vortex_mask.proofs.Places.{length_of_bits}
use mir.Val.{bool_byte}

abbrev pub low_bits : ℕ → ℕ → List Bool
low_bits zero x = []
low_bits (suc n) x = (x % 2 == 1) ∷ low_bits n (x / 2)

pub bits_low : (x : ℕ) → low_bits 8 x ≡ bits_of_byte x
bits_low x =
    let e1 : x / 1 ≡ x = omega arith in
    let e4 : x / 2 / 2 ≡ x / 4 = omega arith in
    let e8 : x / 4 / 2 ≡ x / 8 = omega arith in
    let e16 : x / 8 / 2 ≡ x / 16 = omega arith in
    let e32 : x / 16 / 2 ≡ x / 32 = omega arith in
    let e64 : x / 32 / 2 ≡ x / 64 = omega arith in
    let e128 : x / 64 / 2 ≡ x / 128 = omega arith in
    rw (e1, e4, e8, e16, e32, e64, e128) refl

take_low : (n k x : ℕ) → n ≤ k → take n (low_bits k x) ≡ low_bits n x
take_low zero k x h = refl
take_low (suc n) zero x h = absurd (omega arith)
take_low (suc n) (suc k) x h = ap (λ (m : List Bool). (x % 2 == 1) ∷ m) (take_low n k (x / 2) (omega arith))

low_push : (n x v : ℕ) → x < 2 ^ n → v < 2 → low_bits (suc n) (x + v * 2 ^ n) ≡ low_bits n x ++ (v == 1) ∷ []
low_push zero x v h l =
    let e : (x + v * 1) % 2 ≡ v = omega arith in
    rw e refl
low_push (suc n) x v h l =
    let p : v * 2 ^ suc n ≡ 2 * (v * 2 ^ n) = rw (pow-suc 2 n) (omega arith) in
    let q : x / 2 < 2 ^ n = omega (arith, pow-suc 2 n) in
    let e : (x + 2 * (v * 2 ^ n)) % 2 ≡ x % 2 = omega arith in
    let f : (x + 2 * (v * 2 ^ n)) / 2 ≡ x / 2 + v * 2 ^ n = omega arith in
    rw (p, e, f) (ap (λ (m : List Bool). (x % 2 == 1) ∷ m) (low_push n (x / 2) v q l))

pub take_bits : (n x : ℕ) → n ≤ 8 → take n (bits_of_byte x) ≡ low_bits n x
take_bits n x h = ap (take n) (sym (bits_low x)) ∙ take_low n 8 x h

bits_push : (n x v : ℕ) → n < 8 → x < 2 ^ n → v < 2 → take (n + 1) (bits_of_byte (x + v * 2 ^ n)) ≡ take n (bits_of_byte x) ++ (v == 1) ∷ []
bits_push n x v k h l = rw (add-one n, take_bits (suc n) (x + v * 2 ^ n) (omega arith), take_bits n x (omega arith)) (low_push n x v h l)

bit_of : (value : Bool) → (bool_byte value == 1) ≡ value
bit_of true = refl
bit_of false = refl

bit_below : (value : Bool) → bool_byte value < 2
bit_below true = omega arith
bit_below false = omega arith

-- what the code computes
ored : (n x v : ℕ) → n < 8 → x < 2 ^ n → v < 2 → bit_or x (v * 2 ^ n % 256) ≡ x + v * 2 ^ n
ored n x v k h l =
    let s : v * 2 ^ n % 256 ≡ v * 2 ^ n = shl_whole v 1 n 8 l (omega arith) in
    rw s (or_comm x (v * 2 ^ n) ∙ or_shifted v n x h ∙ omega arith)

below : (n x v : ℕ) → x < 2 ^ n → v < 2 → x + v * 2 ^ n < 2 ^ (n + 1)
below n x zero h l = rw (add-one n) (omega (arith, pow-suc 2 n))
below n x (suc zero) h l = rw (add-one n) (omega (arith, pow-suc 2 n))
below n x (suc (suc v)) h l = absurd (omega arith)

pub part_below : (n x : ℕ) (value : Bool) → n < 8 → x < 2 ^ n → bit_or x (bool_byte value * 2 ^ n % 256) < 2 ^ (n + 1)
part_below n x value k h =
    rw (ored n x (bool_byte value) k h (bit_below value)) (below n x (bool_byte value) h (bit_below value))

part_more : (n x : ℕ) (value : Bool) → n < 8 → x < 2 ^ n → take (n + 1) (bits_of_byte (bit_or x (bool_byte value * 2 ^ n % 256))) ≡ take n (bits_of_byte x) ++ value ∷ []
part_more n x value k h =
    ap (λ (y : ℕ). take (n + 1) (bits_of_byte y)) (ored n x (bool_byte value) k h (bit_below value))
    ∙ bits_push n x (bool_byte value) k h (bit_below value)
    ∙ ap (λ (b : Bool). take n (bits_of_byte x) ++ b ∷ []) (bit_of value)

-- one more in the part
pub view_more : (bytes : List ℕ) (n x : ℕ) (value : Bool) (m : List Bool) → flat_map bits_of_byte bytes ++ take n (bits_of_byte x) ≡ m → n < 8 → x < 2 ^ n → flat_map bits_of_byte bytes ++ take (n + 1) (bits_of_byte (bit_or x (bool_byte value * 2 ^ n % 256))) ≡ m ++ value ∷ []
view_more bytes n x value m e k h =
    ap (λ (ys : List Bool). flat_map bits_of_byte bytes ++ ys) (part_more n x value k h)
    ∙ sym (append_assoc (flat_map bits_of_byte bytes) (take n (bits_of_byte x)) (value ∷ []))
    ∙ ap (λ (ys : List Bool). ys ++ value ∷ []) e

-- one more, which fills a byte
pub view_full : (bytes new : List ℕ) (n x : ℕ) (value : Bool) (m : List Bool) → flat_map bits_of_byte bytes ++ take n (bits_of_byte x) ≡ m → n ≡ 7 → x < 2 ^ n → new ≡ bytes ++ bit_or x (bool_byte value * 2 ^ n % 256) ∷ [] → flat_map bits_of_byte new ++ [] ≡ m ++ value ∷ []
view_full bytes new n x value m e k h f =
    let whole : flat_map bits_of_byte new ≡ flat_map bits_of_byte bytes ++ take (n + 1) (bits_of_byte (bit_or x (bool_byte value * 2 ^ n % 256))) =
    ap (flat_map bits_of_byte) f
    ∙ flat_map-append bits_of_byte bytes (bit_or x (bool_byte value * 2 ^ n % 256) ∷ [])
    ∙ ap (λ (j : ℕ). flat_map bits_of_byte bytes ++ take (j + 1) (bits_of_byte (bit_or x (bool_byte value * 2 ^ n % 256)))) (sym k) in
    append-nil (flat_map bits_of_byte new) ∙ whole ∙ view_more bytes n x value m e (omega arith) h

-- the part is put behind the bytes
pub view_finished : (bytes new : List ℕ) (n x l : ℕ) (m : List Bool) → flat_map bits_of_byte bytes ++ take n (bits_of_byte x) ≡ m → n < 8 → l ≡ length bytes → new ≡ bytes ++ x ∷ [] → truths_in (8 * l + n) new ≡ m
view_finished bytes new n x l m e k g f =
    let c : 8 * l + n ≡ length (flat_map bits_of_byte bytes) + n = omega (arith, length_of_bits bytes) in
    ap (λ (j : ℕ). take j (flat_map bits_of_byte new)) c
    ∙ ap (take (length (flat_map bits_of_byte bytes) + n)) (ap (flat_map bits_of_byte) f ∙ flat_map-append bits_of_byte bytes (x ∷ []))
    ∙ take-append-add (flat_map bits_of_byte bytes) (bits_of_byte x) n
    ∙ e
