-- Eight places of a list at a time.
use Rattle.std.proofs.Common.{◌≡◌, ℕ, ◌+◌, ◌-◌, ◌*◌, ◌≤◌, min, Bool, List, [], ◌∷◌, take, drop, cond, true, false, arith, refl, sym, ap, ◌∙◌, inl, inr}
use Rattle.std.proofs.lemmas.Bool.{cases_lt}
use Rattle.std.proofs.lemmas.List.{take-take, take_all, length-take, drop-take, drop-drop, map-id}
use Rattle.std.proofs.lemmas.List.Sums.{sum_by-append, count_by-le-length}
use Rattle.std.proofs.lemmas.Simd.{ones-mask_l}
use Rattle.std.proofs.Math.Seq.{take-add}
use Rattle.std.specs.Int.Count.{ones}
use Rattle.std.specs.List.{flat_map, count_by}
use lib.Lanes.{mask_l}
use Rattle.vortex_mask.specs.Bits.{bits_of_byte}
use Rattle.vortex_mask.specs.Truths.{number_of}

pub take_of_take : {A : Type 0} (k n : ℕ) (xs : List A) → take k (take n xs) ≡ take (min n k) xs
take_of_take k n xs = elim (cases_lt n k) [
  | inl h ↦ (let e : min n k ≡ n = omega arith in rw e (take_all k (take n xs) (omega (arith, length-take n xs))))
  | inr h ↦ (let e : min n k ≡ k = omega arith in rw e (take-take k n xs h))
]

-- eight of the first n, where there are more than a
pub eight_of : {A : Type 0} (n a p : ℕ) (xs : List A) → a ≤ n → take 8 (drop a (take n (drop p xs))) ≡ take (min (n - a) 8) (drop (p + a) xs)
eight_of n a p xs h =
    let e : n ≡ a + (n - a) = omega arith in
    let d : drop a (take n (drop p xs)) ≡ take (n - a) (drop (p + a) xs) =
    ap (λ (k : ℕ). drop a (take k (drop p xs))) e
    ∙ drop-take a (n - a) (drop p xs)
    ∙ ap (take (n - a)) (drop-drop a p xs) in
    rw d (take_of_take 8 (n - a) (drop (p + a) xs))

number_mask : (m : List Bool) → number_of m ≡ mask_l m
number_mask [] = refl
number_mask (true ∷ m) = omega (arith, number_mask m)
number_mask (false ∷ m) = omega (arith, number_mask m)

pub ones_of_number : (m : List Bool) → ones (number_of m) ≡ count_by (λ b. b) m
ones_of_number m = rw (number_mask m) (ap (λ (n : List Bool). ones (mask_l n)) (sym (map-id m)) ∙ ones-mask_l (λ b. b) m)

pub count_more : (m : List Bool) (i : ℕ) → count_by (λ b. b) (take (8 * (i + 1)) m) ≡ count_by (λ b. b) (take (8 * i) m) + count_by (λ b. b) (take 8 (drop (8 * i) m))
count_more m i =
    let e : 8 * (i + 1) ≡ 8 * i + 8 = omega arith in
    rw (e, take-add (8 * i) 8 m) (sum_by-append (λ b. cond b 1 0) (take (8 * i) m) (take 8 (drop (8 * i) m)))

-- a step of the loop that counts
pub counted : (bytes : List ℕ) (place count i start width byte sum : ℕ) → start ≡ 8 * i → start ≤ count → width ≡ min (count - start) 8 → byte ≡ number_of (take width (drop (place + start) (flat_map bits_of_byte bytes))) → sum ≡ count_by (λ b. b) (take (8 * i) (take count (drop place (flat_map bits_of_byte bytes)))) → sum + ones byte ≡ count_by (λ b. b) (take (8 * (i + 1)) (take count (drop place (flat_map bits_of_byte bytes))))
counted bytes place count i start width byte sum s l w b h =
    rw (count_more (take count (drop place (flat_map bits_of_byte bytes))) i, h, b, w, s, ones_of_number (take (min (count - 8 * i) 8) (drop (place + 8 * i) (flat_map bits_of_byte bytes))), eight_of count (8 * i) place (flat_map bits_of_byte bytes) (rw (← s) l)) refl

-- no more than there are
pub few_counted : (m : List Bool) (n count : ℕ) → count_by (λ b. b) (take n (take count m)) ≤ count
few_counted m n count = omega (arith, count_by-le-length (λ b. b) (take n (take count m)), length-take n (take count m), length-take count m)
