-- Masks in bytes.
use Rattle.std.proofs.Common.{◌≡◌, ℕ, zero, suc, ◌+◌, ◌*◌, ◌/◌, Bool, List, [], ◌∷◌, ◌++◌, map, length, take, drop, arith, refl, sym, ap, ◌∙◌}
use Rattle.std.proofs.lemmas.List.{drop-drop, map-append}
use Rattle.std.proofs.Math.Numerals.{add-one}
use Rattle.std.specs.Int.{div_ceil}
use Rattle.std.specs.Simd.{first_chunks}
use Rattle.vortex_mask.specs.Truths.{number_of, packed}

chunks_more : {A : Type 0} (i : ℕ) (m : List A) → first_chunks 8 (suc i) m ≡ first_chunks 8 i m ++ take 8 (drop (8 * i) m) ∷ []
chunks_more zero m = refl
chunks_more (suc i) m =
    let e : 8 * suc i ≡ 8 + 8 * i = omega arith in
    rw (e, ← (drop-drop (8 * i) 8 m), chunks_more i (drop 8 m)) refl

-- one more byte
pub packed_more : (m : List Bool) (i byte : ℕ) (bytes : List ℕ) → bytes ≡ map number_of (first_chunks 8 i m) → byte ≡ number_of (take 8 (drop (8 * i) m)) → bytes ++ byte ∷ [] ≡ map number_of (first_chunks 8 (i + 1) m)
packed_more m i byte bytes e f =
    let step : bytes ++ byte ∷ [] ≡ map number_of (first_chunks 8 i m) ++ number_of (take 8 (drop (8 * i) m)) ∷ [] = rw (e, f) refl in
    step
    ∙ sym (map-append number_of (first_chunks 8 i m) (take 8 (drop (8 * i) m) ∷ []))
    ∙ sym (ap (map number_of) (ap (λ (k : ℕ). first_chunks 8 k m) (add-one i) ∙ chunks_more i m))

-- all bytes
pub packed_all : (m : List Bool) (i l : ℕ) (bytes : List ℕ) → bytes ≡ map number_of (first_chunks 8 i m) → l ≡ length m → i ≡ div_ceil l 8 → bytes ≡ packed m
unfolding packed
packed_all m i l bytes e f g =
    let k : i ≡ (length m + 7) / 8 = omega arith in
    rw (e, k) refl
