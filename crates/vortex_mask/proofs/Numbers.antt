-- Truth values as numbers, the lowest bit first.
use Rattle.std.proofs.Common.{◌≡◌, ℕ, zero, suc, ◌+◌, ◌*◌, ◌/◌, ◌%◌, ◌^◌, ◌<◌, Bool, true, false, List, [], ◌∷◌, ◌++◌, length, take, drop, ◌==◌, if◌then◌else◌, arith, refl, sym, ◌∙◌}
use Rattle.std.proofs.lemmas.Nat.{shr-shr, mod-pow-add}
use Rattle.std.proofs.lemmas.Bool.Decides.{nat_tests}
use Rattle.std.proofs.Math.Nat.{pow-suc, zero-div, zero-mod}
use Rattle.vortex_mask.specs.Bits.{bits_of_byte}
use Rattle.vortex_mask.specs.Truths.{number_of}

pub number-append : (m n : List Bool) → number_of (m ++ n) ≡ number_of m + 2 ^ length m * number_of n
number-append [] n = omega arith
number-append (b ∷ m) n = rw (number-append m n, pow-suc 2 (length m)) (omega arith)

pub bit_is : (n : ℕ) → (if n % 2 == 1 then 1 else 0) ≡ n % 2
bit_is n = grind (arith, nat_tests)

pub bit_small : (b : Bool) → (if b then 1 else 0) < 2
bit_small true = omega arith
bit_small false = omega arith

pub number_of_byte : (b : ℕ) → b < 256 → number_of (bits_of_byte b) ≡ b
number_of_byte b h = simp bit_is (omega arith)

halved : (x n k : ℕ) → x < 2 → n / 2 ^ k ≡ (x + 2 * n) / 2 ^ suc k
halved x n k h =
    let e : (x + 2 * n) / 2 ^ 1 ≡ n = omega arith in
    let f : suc k ≡ 1 + k = omega arith in
    rw (f, ← (shr-shr (x + 2 * n) 1 k), e) refl

lowest_kept : (x n k : ℕ) → x < 2 → x + 2 * (n % 2 ^ k) ≡ (x + 2 * n) % 2 ^ suc k
lowest_kept x n k h =
    let e : (x + 2 * n) / 2 ^ 1 ≡ n = omega arith in
    let f : suc k ≡ k + 1 = omega arith in
    rw (f, mod-pow-add (x + 2 * n) k 1, e) (omega arith)

pub number-drop : (k : ℕ) (m : List Bool) → number_of (drop k m) ≡ number_of m / 2 ^ k
number-drop zero m = omega arith
number-drop (suc k) [] = sym (zero-div (2 ^ suc k))
number-drop (suc k) (b ∷ m) =
    number-drop k m ∙ halved (if b then 1 else 0) (number_of m) k (bit_small b)

pub number-take : (k : ℕ) (m : List Bool) → number_of (take k m) ≡ number_of m % 2 ^ k
number-take zero m = omega arith
number-take (suc k) [] = sym (zero-mod (2 ^ suc k))
number-take (suc k) (b ∷ m) =
    rw (number-take k m) (lowest_kept (if b then 1 else 0) (number_of m) k (bit_small b))
