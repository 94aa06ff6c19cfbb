-- A range of offsets.
use Rattle.std.proofs.Common.{◌≡◌, ◌≤◌, ◌<◌, ◌+◌, ◌-◌, ◌*◌, ℕ, zero, suc, List, [], ◌∷◌, true, map, length, take, drop, refl, sym, ap, ◌∙◌, arith}
use Rattle.std.specs.Prelude.{slice_range, ◌&&◌}
use Rattle.std.specs.Simd.{first_chunks}
use Rattle.std.specs.Int.{w32}
use Rattle.std.proofs.lemmas.List.{length-take-le, length-drop, take-map, drop-map, take-take, drop-drop}
use Rattle.std.proofs.lemmas.Bool.{le-leb}
use Rattle.std.proofs.lemmas.List.Elements.{All-take, All-drop}
use Rattle.bytes.proofs.Ranges.{drop-take_less}
use Rattle.vortex_number.specs.Format.{number_of_le_bytes}
use Rattle.vortex_node_rows.specs.Buffers.{rises_from, never_fall, numbers_32}
use Rattle.vortex_leaves.specs.Texts.{HoldOffsets}
use Rattle.vortex_leaves.proofs.Rising.{step, held_count}

-- chunks but the first k
pub chunks_drop : (w k m n : ℕ) (xs : List ℕ) → n ≡ k + m → drop k (first_chunks w n xs) ≡ first_chunks w m (drop (k * w) xs)
chunks_drop w zero m n xs e =
    let all : n ≡ m = omega (arith, e) in
    let none : 0 ≡ 0 * w = omega arith in
    ap (λ j. first_chunks w j xs) all ∙ ap (λ j. first_chunks w m (drop j xs)) none
chunks_drop w (suc k) m zero xs e = absurd (omega (arith, e))
chunks_drop w (suc k) m (suc n) xs e =
    let far : w + k * w ≡ suc k * w = omega arith in
    chunks_drop w k m n (drop w xs) (omega (arith, e)) ∙ ap (first_chunks w m) (drop-drop (k * w) w xs ∙ ap (λ j. drop j xs) far)

-- the first k chunks lie in the front
pub chunks_take : (w k n l : ℕ) (xs : List ℕ) → k ≤ n → k * w ≤ l → take k (first_chunks w n xs) ≡ first_chunks w k (take l xs)
chunks_take w zero n l xs h f = refl
chunks_take w (suc k) zero l xs h f = absurd (omega (arith, h))
chunks_take w (suc k) (suc n) l xs h f =
    let one : w ≤ l = omega (arith, f) in
    let others : take k (first_chunks w n (drop w xs)) ≡ first_chunks w k (drop w (take l xs)) = chunks_take w k n (l - w) (drop w xs) (omega (arith, h)) (omega (arith, f)) ∙ ap (first_chunks w k) (sym (drop-take_less xs w l one)) in
    ap (λ c. c ∷ take k (first_chunks w n (drop w xs))) (sym (take-take w l xs one)) ∙ ap (λ cs. take w (take l xs) ∷ cs) others

range_of : (n from to : ℕ) (bytes : List ℕ) → from ≤ to → to ≤ n → slice_range (numbers_32 (suc n) bytes) from (suc to) ≡ numbers_32 (suc (to - from)) (slice_range bytes (from * 4) ((to + 1) * 4))
range_of n from to bytes le hi =
    let f = number_of_le_bytes w32 in
    let many : suc to - from ≡ suc (to - from) = omega (arith, le) in
    let rest : suc n ≡ from + (suc n - from) = omega (arith, le, hi) in
    let few : suc (to - from) ≤ suc n - from = omega (arith, le, hi) in
    let long : suc (to - from) * 4 ≤ (to + 1) * 4 - from * 4 = omega (arith, le) in
    ap (λ j. take j (drop from (numbers_32 (suc n) bytes))) many ∙ ap (take (suc (to - from))) (drop-map f from (first_chunks 4 (suc n) bytes)) ∙ take-map f (suc (to - from)) (drop from (first_chunks 4 (suc n) bytes)) ∙ ap (λ cs. map f (take (suc (to - from)) cs)) (chunks_drop 4 from (suc n - from) (suc n) bytes rest) ∙ ap (map f) (chunks_take 4 (suc (to - from)) (suc n - from) ((to + 1) * 4 - from * 4) (drop (from * 4) bytes) few long)

-- ---- a range never falls

rises_less : (a b : ℕ) (os : List ℕ) → b ≤ a → rises_from a os ≡ true → rises_from b os ≡ true
rises_less a b [] le h = refl
rises_less a b (o ∷ os) le h = ap (λ c. c && rises_from o os) (le-leb b o (omega (arith, le, (step a o os h).0))) ∙ (step a o os h).1

pub rises_take : (k a : ℕ) (os : List ℕ) → rises_from a os ≡ true → rises_from a (take k os) ≡ true
rises_take zero a os h = refl
rises_take (suc k) a [] h = refl
rises_take (suc k) a (o ∷ os) h = ap (λ c. c && rises_from o (take k os)) (le-leb a o (step a o os h).0) ∙ rises_take k o os (step a o os h).1

pub rises_drop : (k a : ℕ) (os : List ℕ) → rises_from a os ≡ true → rises_from a (drop k os) ≡ true
rises_drop zero a os h = h
rises_drop (suc k) a [] h = refl
rises_drop (suc k) a (o ∷ os) h = rises_less o a (drop k os) (step a o os h).0 (rises_drop k o os (step a o os h).1)

-- ---- offsets that are held

pub held_range : (n from to : ℕ) (bytes os cut : List ℕ) → from ≤ to → to < length os → numbers_32 (suc n) bytes ≡ os → cut ≡ slice_range bytes (from * 4) ((to + 1) * 4) → numbers_32 (suc (to - from)) cut ≡ slice_range os from (suc to)
held_range n from to bytes os cut le hi e f =
    ap (numbers_32 (suc (to - from))) f ∙ sym (range_of n from to bytes le (omega (arith, hi, held_count n bytes os e))) ∙ ap (λ (l : List ℕ). slice_range l from (suc to)) e

pub range_held : (n from to : ℕ) (bytes os cut : List ℕ) → from ≤ to → to < length os → numbers_32 (suc n) bytes ≡ os → HoldOffsets n bytes → cut ≡ slice_range bytes (from * 4) ((to + 1) * 4) → HoldOffsets (to - from) cut
range_held n from to bytes os cut le hi e h f =
    let most : to ≤ n = omega (arith, hi, held_count n bytes os e) in
    let part = slice_range bytes (from * 4) ((to + 1) * 4) in
    let size : (to + 1) * 4 - from * 4 ≤ length (drop (from * 4) bytes) = omega (arith, length-drop (from * 4) bytes, h.exact, most, le) in
    let rise : never_fall (slice_range (numbers_32 (suc n) bytes) from (suc to)) ≡ true = rises_take (suc to - from) 0 _ (rises_drop from 0 (numbers_32 (suc n) bytes) h.rise) in
    rw f (record {
      exact = omega (arith, length-take-le ((to + 1) * 4 - from * 4) (drop (from * 4) bytes) size, le);
      rise = ap never_fall (sym (range_of n from to bytes le most)) ∙ rise;
      below = All-take (λ b. b < 256) ((to + 1) * 4 - from * 4) _ (All-drop (λ b. b < 256) (from * 4) bytes h.below);
    })
