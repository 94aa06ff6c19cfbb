-- Offsets that never fall, and the pieces between them.
use Rattle.std.proofs.Common.{◌≡◌, ◌≤◌, ◌<◌, ◌+◌, ◌*◌, ◌/◌, ℕ, zero, suc, List, [], ◌∷◌, Bool, true, false, Some, None, map, length, drop, refl, sym, ap, ◌∙◌, arith}
use Rattle.std.specs.Prelude.{slice_get, slice_range, nat_le, ◌&&◌, ◌==◌}
use Rattle.std.specs.Simd.{first_chunks}
use Rattle.std.specs.Int.{w32}
use Rattle.std.proofs.lemmas.List.{length-map}
use Rattle.vortex_number.specs.Format.{number_of_le_bytes}
use Rattle.vortex_terms.specs.Types.{IsBytes}
use Rattle.vortex_terms.specs.FromColumns.{pieces, last_from}
use Rattle.vortex_node_rows.specs.Buffers.{rises_from, never_fall, numbers_32}
use Rattle.vortex_leaves.specs.Texts.{AreOffsets, TextBytes, AreTexts, text_pieces}
use Rattle.vortex_leaves.proofs.Chunks.{chunk_count}

pub length-first_chunks : {A : Type 0} (w n : ℕ) (xs : List A) → length (first_chunks w n xs) ≡ n
length-first_chunks w zero xs = refl
length-first_chunks w (suc n) xs = ap suc (length-first_chunks w n (drop w xs))

pub length-numbers_32 : (n : ℕ) (bytes : List ℕ) → length (numbers_32 n bytes) ≡ n
length-numbers_32 n bytes = length-map _ _ ∙ length-first_chunks 4 n bytes

-- ---- offsets that are held

pub held_count : (n : ℕ) (bytes os : List ℕ) → numbers_32 (suc n) bytes ≡ os → length os ≡ suc n
held_count n bytes os e = ap length (sym e) ∙ length-numbers_32 (suc n) bytes

pub held_exact : (n : ℕ) (bytes os : List ℕ) → numbers_32 (suc n) bytes ≡ os → length bytes ≡ suc n * 4 → length bytes ≡ length os * 4
held_exact n bytes os e l = l ∙ ap (λ j. j * 4) (sym (held_count n bytes os e))

pub held_again : (n : ℕ) (bytes os : List ℕ) → numbers_32 (suc n) bytes ≡ os → numbers_32 (length os) bytes ≡ os
held_again n bytes os e = ap (λ j. numbers_32 j bytes) (held_count n bytes os e) ∙ e

-- ---- offsets that are found

both : (a b : Bool) → a && b ≡ true → (a ≡ true) × (b ≡ true)
both true true h = (refl, refl)
both true false h = absurd (cc)
both false b h = absurd (cc)

is_many : (l n : ℕ) → (l == n) ≡ true → l ≡ n
is_many l n h = grind (arith, h)

is_least : (a b : ℕ) → nat_le a b ≡ true → a ≤ b
is_least a b h = grind (arith, h)

-- what is tested of n and one offsets
abbrev pub tested : ℕ → ℕ → List ℕ → Bool
tested end k bytes = never_fall (numbers_32 k bytes) && nat_le (last_from 0 (numbers_32 k bytes)) end

pub test_of_all : (n end : ℕ) (bytes : List ℕ) (chunks : List (List ℕ)) (t b : Bool) → chunks ≡ first_chunks 4 (length bytes / 4) bytes → t ≡ (length bytes == suc n * 4) → t ≡ true → b ≡ (never_fall (map (number_of_le_bytes w32) chunks) && nat_le (last_from 0 (map (number_of_le_bytes w32) chunks)) end) → b ≡ (length bytes == suc n * 4 && never_fall (numbers_32 (suc n) bytes) && nat_le (last_from 0 (numbers_32 (suc n) bytes)) end)
test_of_all n end bytes chunks t b f e h r =
    let exact : (length bytes == suc n * 4) ≡ true = sym e ∙ h in
    let many : length bytes / 4 ≡ suc n = chunk_count (length bytes) (suc n) 4 (is_many (length bytes) (suc n * 4) exact) (omega arith) in
    r ∙ ap (λ cs. never_fall (map (number_of_le_bytes w32) cs) && nat_le (last_from 0 (map (number_of_le_bytes w32) cs)) end) f ∙ ap (λ k. tested end k bytes) many ∙ ap (λ a. a && never_fall (numbers_32 (suc n) bytes) && nat_le (last_from 0 (numbers_32 (suc n) bytes)) end) (sym exact)

found_are : (n end : ℕ) (bytes : List ℕ) (os : List ℕ) → length os ≡ suc n → (length bytes == suc n * 4 && never_fall os && nat_le (last_from 0 os) end) ≡ true → AreOffsets n end os
found_are n end bytes os l h =
    let last = both (length bytes == suc n * 4 && never_fall os) (nat_le (last_from 0 os) end) h in
    let first = both (length bytes == suc n * 4) (never_fall os) last.0 in
    record { count = l; rise = first.1; within = is_least _ _ last.1 }

pub offsets_found : (n end : ℕ) (bytes copy : List ℕ) (b : Bool) → copy ≡ bytes → b ≡ (length bytes == suc n * 4 && never_fall (numbers_32 (suc n) bytes) && nat_le (last_from 0 (numbers_32 (suc n) bytes)) end) → b ≡ true → AreOffsets n end (numbers_32 (suc n) copy)
offsets_found n end bytes copy b e r h =
    let found : AreOffsets n end (numbers_32 (suc n) bytes) = found_are n end bytes (numbers_32 (suc n) bytes) (length-numbers_32 (suc n) bytes) (sym r ∙ h) in
    rw e found

-- ---- pieces

pub step : (a b : ℕ) (os : List ℕ) → rises_from a (b ∷ os) ≡ true → (a ≤ b) × (rises_from b os ≡ true)
step a b os h =
    let parts = both (nat_le a b) (rises_from b os) h in
    (is_least a b parts.0, parts.1)

pub least_last : (a : ℕ) (os : List ℕ) → rises_from a os ≡ true → a ≤ last_from a os
least_last a [] h = omega arith
least_last a (b ∷ os) h = omega (arith, (step a b os h).0, least_last b os (step a b os h).1)

none_some : {A : Type 0} (x : A) → None ≡ Some x → ⊥
none_some x e = cc

same : {A : Type 0} (x y : A) → Some x ≡ Some y → x ≡ y
same x y e = cc

pub ends_within : (c : ℕ) (os : List ℕ) (i a b : ℕ) → rises_from c os ≡ true → slice_get os i ≡ Some a → slice_get os (suc i) ≡ Some b → (a ≤ b) × (b ≤ last_from c os)
ends_within c [] i a b h e f = absurd (none_some a e)
ends_within c (o ∷ []) zero a b h e f = absurd (none_some b f)
ends_within c (o ∷ []) (suc i) a b h e f = absurd (none_some a e)
ends_within c (o ∷ (p ∷ os)) zero a b h e f =
    let first = step c o (p ∷ os) h in
    let second = step o p os first.1 in
    let last = least_last p os second.1 in
    let from : o ≡ a = same o a e in
    let to : p ≡ b = same p b f in
    (omega (arith, from, to, second.0), omega (arith, to, last))
ends_within c (o ∷ (p ∷ os)) (suc i) a b h e f = ends_within o (p ∷ os) i a b (step c o (p ∷ os) h).1 e f

pub piece_there : {A : Type 0} (os : List ℕ) (xs : List A) (i a b : ℕ) → slice_get os i ≡ Some a → slice_get os (suc i) ≡ Some b → slice_get (pieces os xs) i ≡ Some (slice_range xs a b)
piece_there [] xs i a b e f = absurd (none_some a e)
piece_there (o ∷ []) xs zero a b e f = absurd (none_some b f)
piece_there (o ∷ []) xs (suc i) a b e f = absurd (none_some a e)
piece_there (o ∷ (p ∷ os)) xs zero a b e f = ap (λ j. Some (slice_range xs j p)) (same o a e) ∙ ap (λ j. Some (slice_range xs a j)) (same p b f)
piece_there (o ∷ (p ∷ os)) xs (suc i) a b e f = piece_there (p ∷ os) xs i a b e f

pub length-pieces : {A : Type 0} (n : ℕ) (os : List ℕ) (xs : List A) → length os ≡ suc n → length (pieces os xs) ≡ n
length-pieces n [] xs e = absurd (omega (arith, e))
length-pieces zero (a ∷ []) xs e = refl
length-pieces (suc n) (a ∷ []) xs e = absurd (omega (arith, e))
length-pieces zero (a ∷ (b ∷ os)) xs e = absurd (omega (arith, e))
length-pieces (suc n) (a ∷ (b ∷ os)) xs e = ap suc (length-pieces n (b ∷ os) xs (omega (arith, e)))

pub texts_hold : (n : ℕ) (os bytes : List ℕ) → AreOffsets n (length bytes) os → IsBytes bytes → AreTexts (record { offsets = os; bytes = bytes })
texts_hold n os bytes h b = record {
  offsets = record { count = h.count ∙ ap suc (sym (length-pieces n os bytes h.count)); rise = h.rise; within = h.within };
  below = b;
}

pub texts_hold_again : (n : ℕ) (os bytes copy : List ℕ) → copy ≡ bytes → AreOffsets n (length bytes) os → IsBytes bytes → AreTexts (record { offsets = os; bytes = copy })
texts_hold_again n os bytes copy e h b = rw e (texts_hold n os bytes h b)

pub texts_count : (n : ℕ) (os bytes : List ℕ) → AreOffsets (length (pieces os bytes)) n os → (i : ℕ) → i < length (pieces os bytes) → suc i < length os
texts_count n os bytes h i l = omega (arith, h.count, l)

pub part_there : (t : TextBytes) (os bytes slice p : List ℕ) (i a b : ℕ) → record { offsets = os; bytes = bytes } ≡ t → slice ≡ bytes → slice_get os i ≡ Some a → slice_get os (suc i) ≡ Some b → p ≡ slice_range slice a b → slice_get (text_pieces t) i ≡ Some p
part_there t os bytes slice p i a b e s f g h =
    ap (λ (t : TextBytes). slice_get (text_pieces t) i) (sym e) ∙ piece_there os bytes i a b f g ∙ ap Some (ap (λ (l : List ℕ). slice_range l a b) (sym s) ∙ sym h)

pub held_top : (n to : ℕ) (bytes os : List ℕ) → numbers_32 (suc n) bytes ≡ os → length bytes ≡ suc n * 4 → to < length os → (to + 1) * 4 ≤ length bytes
held_top n to bytes os e l h = omega (arith, held_count n bytes os e, l, h)
