-- The bits that are left, and how many places there are.
use Rattle.std.proofs.Common.{◌≡◌, ℕ, zero, suc, ◌+◌, ◌-◌, ◌*◌, ◌/◌, ◌%◌, ◌<◌, ◌≤◌, Bool, true, false, not, List, [], ◌∷◌, ◌++◌, map, length, take, drop, replicate, arith, refl, sym, ap, ◌∙◌, inl, inr}
use Rattle.std.proofs.lemmas.Bool.{cases_lt}
use Rattle.std.proofs.lemmas.List.{take_all, drop_at, length-drop, nil_from_length, append_assoc, get_or_at, length_push}
use Rattle.std.proofs.lemmas.List.Elements.{All-nil, All-cons}
use Rattle.std.proofs.Math.Seq.{drop-append-add}
use Rattle.std.specs.List.{flat_map, list_all, All, count_by}
use Rattle.std.specs.Simd.{first_chunks}
use Rattle.vortex_mask.specs.Bits.{bits_of_byte}
use Rattle.vortex_mask.specs.Truths.{number_of, byte_count, packed, places_from, kept, picked}
use Rattle.vortex_mask.proofs.Counts.{count_true, count_false}
use Rattle.vortex_mask.proofs.Pushes.{low_bits, bits_low}

no_low_bits : (k : ℕ) → low_bits k 0 ≡ replicate k false
no_low_bits zero = refl
no_low_bits (suc k) = ap (λ (m : List Bool). false ∷ m) (no_low_bits k)

low_padded : (k : ℕ) (m : List Bool) → length m ≤ k → low_bits k (number_of m) ≡ m ++ replicate (k - length m) false
low_padded k [] h = let e : k - 0 ≡ k = omega arith in rw e (no_low_bits k)
low_padded zero (b ∷ m) h = absurd (omega arith)
low_padded (suc k) (true ∷ m) h =
    let e : (1 + 2 * number_of m) % 2 ≡ 1 = omega arith in
    let f : (1 + 2 * number_of m) / 2 ≡ number_of m = omega arith in
    let g : suc k - suc (length m) ≡ k - length m = omega arith in
    rw (e, f, g, low_padded k m (omega arith)) refl
low_padded (suc k) (false ∷ m) h =
    let e : (0 + 2 * number_of m) % 2 ≡ 0 = omega arith in
    let f : (0 + 2 * number_of m) / 2 ≡ number_of m = omega arith in
    let g : suc k - suc (length m) ≡ k - length m = omega arith in
    rw (e, f, g, low_padded k m (omega arith)) refl

padded : (m : List Bool) → length m ≤ 8 → bits_of_byte (number_of m) ≡ m ++ replicate (8 - length m) false
padded m h = sym (bits_low (number_of m)) ∙ low_padded 8 m h

all_false : (n : ℕ) → list_all not (replicate n false) ≡ true
all_false zero = refl
all_false (suc n) = all_false n

rest_few : (i : ℕ) (m : List Bool) → length m ≤ 8 → i ≡ 0 → list_all not (drop (length m) (bits_of_byte (number_of (take 8 m)) ++ flat_map bits_of_byte (map number_of (first_chunks 8 i (drop 8 m))))) ≡ true
rest_few i m h e =
    let f : bits_of_byte (number_of (take 8 m)) ≡ m ++ replicate (8 - length m) false = ap (λ (x : List Bool). bits_of_byte (number_of x)) (take_all 8 m h) ∙ padded m h in
    rw (e, f, drop_at m (replicate (8 - length m) false) (length m) refl) (all_false (8 - length m))

rest_many : (rest : List Bool) (m : List Bool) → 8 < length m → list_all not (drop (length (drop 8 m)) rest) ≡ true → list_all not (drop (length m) (bits_of_byte (number_of (take 8 m)) ++ rest)) ≡ true
rest_many rest m h e =
    let n : length m ≡ 8 + length (drop 8 m) = omega (arith, length-drop 8 m) in
    rw (n, drop-append-add (bits_of_byte (number_of (take 8 m))) rest (length (drop 8 m))) e

rest_of : (i : ℕ) (m : List Bool) → i ≡ byte_count (length m) → list_all not (drop (length m) (flat_map bits_of_byte (map number_of (first_chunks 8 i m)))) ≡ true
rest_of zero m e = rw (nil_from_length m (omega arith)) refl
rest_of (suc i) m e = elim (cases_lt 8 (length m)) [
  | inl l ↦ rest_many (flat_map bits_of_byte (map number_of (first_chunks 8 i (drop 8 m)))) m l (rest_of i (drop 8 m) (omega (arith, length-drop 8 m)))
  | inr l ↦ rest_few i m l (omega arith)
]

pub rest-packed : (m : List Bool) → list_all not (drop (length m) (flat_map bits_of_byte (packed m))) ≡ true
unfolding packed
rest-packed m = rest_of (byte_count (length m)) m refl

pub length-places : (k : ℕ) (m : List Bool) → length (places_from k m) ≡ count_by (λ b. b) m
length-places k [] = refl
length-places k (true ∷ m) = omega (arith, count_true m, length-places (k + 1) m)
length-places k (false ∷ m) = length-places (k + 1) m ∙ sym (count_false m)

-- `All` of a list by its front
pub places_within : (k : ℕ) (m : List Bool) (n : ℕ) → n ≡ k + length m → All (λ place. place < n) (places_from k m)
places_within k [] n e = All-nil (λ place. place < n)
places_within k (true ∷ m) n e = All-cons (λ place. place < n) k (places_from (k + 1) m) (omega arith) (places_within (k + 1) m n (omega arith))
places_within k (false ∷ m) n e = places_within (k + 1) m n (omega arith)

picked_behind : (front m n : List Bool) (k : ℕ) → length front ≡ k → length m ≡ length n → picked (places_from k m) (front ++ n) ≡ kept m n
picked_behind front [] n k e h = refl
picked_behind front (b ∷ m) [] k e h = absurd (omega arith)
picked_behind front (true ∷ m) (x ∷ n) k e h =
    let f : length (front ++ x ∷ []) ≡ k + 1 = omega (arith, length_push front x) in
    let g : picked (places_from (k + 1) m) (front ++ x ∷ n) ≡ kept m n =
    ap (picked (places_from (k + 1) m)) (sym (append_assoc front (x ∷ []) n)) ∙ picked_behind (front ++ x ∷ []) m n (k + 1) f (omega arith) in
    rw (get_or_at front x n false k e, g) refl
picked_behind front (false ∷ m) (x ∷ n) k e h =
    let f : length (front ++ x ∷ []) ≡ k + 1 = omega (arith, length_push front x) in
    ap (picked (places_from (k + 1) m)) (sym (append_assoc front (x ∷ []) n)) ∙ picked_behind (front ++ x ∷ []) m n (k + 1) f (omega arith)

pub picked_places : (m n : List Bool) → length m ≡ length n → picked (places_from 0 m) n ≡ kept m n
picked_places m n h = picked_behind [] m n 0 refl h
