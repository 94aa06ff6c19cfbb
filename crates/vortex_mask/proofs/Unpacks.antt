-- What is packed reads the same.
use Rattle.std.proofs.Common.{◌≡◌, ℕ, zero, suc, ◌+◌, ◌*◌, ◌/◌, ◌%◌, ◌<◌, ◌≤◌, Bool, true, false, List, [], ◌∷◌, ◌++◌, map, length, take, drop, arith, refl, sym, ap, ◌∙◌, inl, inr}
use Rattle.std.proofs.lemmas.Bool.{cases_lt}
use Rattle.std.proofs.lemmas.List.{take_all, take-append-drop, length-take, length-drop, take-append-le, length-map, nil_from_length}
use Rattle.std.proofs.Math.Seq.{take-append-add}
use Rattle.std.specs.List.{flat_map}
use Rattle.std.specs.Simd.{first_chunks}
use Rattle.vortex_mask.specs.Bits.{bits_of_byte, truths_in}
use Rattle.vortex_mask.specs.Truths.{number_of, byte_count, packed}
use Rattle.vortex_mask.proofs.Pushes.{low_bits, take_bits}

low_number : (m : List Bool) → low_bits (length m) (number_of m) ≡ m
low_number [] = refl
low_number (true ∷ m) =
    let e : (1 + 2 * number_of m) % 2 ≡ 1 = omega arith in
    let f : (1 + 2 * number_of m) / 2 ≡ number_of m = omega arith in
    rw (e, f, low_number m) refl
low_number (false ∷ m) =
    let e : (0 + 2 * number_of m) % 2 ≡ 0 = omega arith in
    let f : (0 + 2 * number_of m) / 2 ≡ number_of m = omega arith in
    rw (e, f, low_number m) refl

bits_of_few : (m : List Bool) → length m ≤ 8 → take (length m) (bits_of_byte (number_of m)) ≡ m
bits_of_few m h = take_bits (length m) (number_of m) h ∙ low_number m

few : (i : ℕ) (m : List Bool) → length m ≤ 8 → take (length m) (bits_of_byte (number_of (take 8 m)) ++ flat_map bits_of_byte (map number_of (first_chunks 8 i (drop 8 m)))) ≡ m
few i m l = rw (take_all 8 m l) (take-append-le (length m) (bits_of_byte (number_of m)) (flat_map bits_of_byte (map number_of (first_chunks 8 i (drop 8 m)))) l ∙ bits_of_few m l)

many : (i : ℕ) (m : List Bool) → 8 < length m → take (length (drop 8 m)) (flat_map bits_of_byte (map number_of (first_chunks 8 i (drop 8 m)))) ≡ drop 8 m → take (length m) (bits_of_byte (number_of (take 8 m)) ++ flat_map bits_of_byte (map number_of (first_chunks 8 i (drop 8 m)))) ≡ m
many i m l e =
    let k : length (take 8 m) ≡ 8 = omega (arith, length-take 8 m) in
    let f : bits_of_byte (number_of (take 8 m)) ≡ take 8 m = ap (λ (n : ℕ). take n (bits_of_byte (number_of (take 8 m)))) (sym k) ∙ bits_of_few (take 8 m) (omega arith) in
    let n : length m ≡ length (take 8 m) + length (drop 8 m) = omega (arith, length-drop 8 m) in
    ap (λ (j : ℕ). take j (bits_of_byte (number_of (take 8 m)) ++ flat_map bits_of_byte (map number_of (first_chunks 8 i (drop 8 m))))) n
    ∙ ap (λ (x : List Bool). take (length (take 8 m) + length (drop 8 m)) (x ++ flat_map bits_of_byte (map number_of (first_chunks 8 i (drop 8 m))))) f
    ∙ take-append-add (take 8 m) (flat_map bits_of_byte (map number_of (first_chunks 8 i (drop 8 m)))) (length (drop 8 m))
    ∙ ap (λ (x : List Bool). take 8 m ++ x) e
    ∙ take-append-drop 8 m

unpacked : (i : ℕ) (m : List Bool) → length m ≤ 8 * i → take (length m) (flat_map bits_of_byte (map number_of (first_chunks 8 i m))) ≡ m
unpacked zero m h = rw (nil_from_length m (omega arith)) refl
unpacked (suc i) m h = elim (cases_lt 8 (length m)) [
  | inl l ↦ (many i m l (unpacked i (drop 8 m) (omega (arith, length-drop 8 m))))
  | inr l ↦ (few i m l)
]

pub length-chunks : {A : Type 0} (n i : ℕ) (m : List A) → length (first_chunks n i m) ≡ i
length-chunks n zero m = refl
length-chunks n (suc i) m = ap suc (length-chunks n i (drop n m))

-- what is packed in so many bytes
pub unpacked_from : (m : List Bool) (i l : ℕ) (bytes : List ℕ) → bytes ≡ map number_of (first_chunks 8 i m) → l ≡ length m → l ≤ 8 * i → truths_in l bytes ≡ m
unpacked_from m i l bytes e f h = rw (e, f) (unpacked i m (omega arith))

-- whole masks
pub truths_in-packed : (m : List Bool) → truths_in (length m) (packed m) ≡ m
unfolding packed
truths_in-packed m = unpacked (byte_count (length m)) m (omega arith)

pub length-packed : (m : List Bool) → length (packed m) ≡ byte_count (length m)
unfolding packed
length-packed m = length-map (first_chunks 8 (byte_count (length m)) m) number_of ∙ length-chunks 8 (byte_count (length m)) m

-- bytes that suffice
pub enough : (m : List Bool) (i l : ℕ) (bytes : List ℕ) → bytes ≡ map number_of (first_chunks 8 i m) → l ≤ 8 * i → l ≤ 8 * length bytes
enough m i l bytes e h = omega (arith, ap length e, length-map (first_chunks 8 i m) number_of, length-chunks 8 i m)
