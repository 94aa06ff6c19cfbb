-- How long the parts of a layout are.
use Rattle.std.proofs.Common.{◌≡◌, ℕ, zero, suc, ◌+◌, ◌-◌, ◌*◌, ◌≤◌, Bool, true, false, List, [], ◌∷◌, ◌++◌, length, refl, sym, ap, ◌∙◌, arith, length-append}
use Rattle.std.specs.Prelude.{replicate, ◌==◌, if◌then◌else◌}
use Rattle.std.specs.Int.{bytes_low_first, w8, cast_unsigned}
use Rattle.std.proofs.lemmas.List.{length-replicate}
use Rattle.std.proofs.lemmas.Bool.{eqb-true}
use Rattle.vortex_flat.specs.Tree.{Wide, one, two, four, eight, wide, Tree, table, offsets, bytes, text, numbers, records, SlotTrees, no_slots, absent, number_slot, signed_slot, target_slot, Trees, no_trees, tree, slot_count, tree_count}
use Rattle.vortex_flat.specs.Layout.{low_first, gap, round_up, padded, is_wide, count_of, vtable_size, Places, first_eight, first_places, inline_size, after, entries, head, own_size, size_of, targets_size, trees_size, slots_of, fours_of, offsets_of, vtable_of, inline_of, numbers_of, own_bytes, bytes_of, targets_bytes, trees_bytes}

length-bytes_low_first : (i k n : ℕ) → length (bytes_low_first i k n) ≡ k
length-bytes_low_first i zero n = refl
length-bytes_low_first i (suc k) n = ap suc (length-bytes_low_first (suc i) k n)

pub length-low : (k n : ℕ) → length (low_first k n) ≡ k
length-low k n = length-bytes_low_first 0 k n

pub length-padded : (xs : List ℕ) → length (padded xs) ≡ round_up (length xs)
length-padded xs = omega (arith, length-append xs (replicate (gap (length xs)) 0), length-replicate {A = ℕ} (gap (length xs)) 0)

pub length-entries : (s : SlotTrees) (p : Places) → length (entries s p) ≡ 2 * slot_count s
length-entries no_slots p = refl
length-entries (absent s) p = omega (arith, length-entries s p)
length-entries (number_slot w n s) p = omega (arith, length-entries s (after p w))
length-entries (signed_slot z s) p = omega (arith, length-entries s (after p one))
length-entries (target_slot t s) p = omega (arith, length-entries s (after p four))

one_more : (c : Bool) (w m : ℕ) (xs ys : List ℕ) → (c ≡ true → length xs ≡ w) → length ys ≡ w * m → length (if c then xs ++ ys else ys) ≡ w * (if c then suc m else m)
one_more true w m xs ys h e = let h' = h refl in omega (arith, length-append xs ys, h')
one_more false w m xs ys h e = e

pub length-slots_of : (w : Wide) (s : SlotTrees) → is_wide four w ≡ false → length (slots_of w s) ≡ wide w * count_of w s
length-slots_of w no_slots h = omega arith
length-slots_of w (absent s) h = length-slots_of w s h
length-slots_of w (number_slot v n s) h =
    one_more (is_wide v w) (wide w) (count_of w s) (low_first (wide v) n) (slots_of w s) (λ c. length-low (wide v) n ∙ eqb-true (wide v) (wide w) c) (length-slots_of w s h)
length-slots_of w (signed_slot z s) h =
    one_more (is_wide one w) (wide w) (count_of w s) (cast_unsigned w8 z ∷ []) (slots_of w s) (λ c. eqb-true 1 (wide w) c) (length-slots_of w s h)
length-slots_of w (target_slot t s) h =
    length-slots_of w s h ∙ ap (λ (c : Bool). wide w * (if c then suc (count_of w s) else count_of w s)) (sym h)

pub length-fours_of : (s : SlotTrees) (p q : ℕ) → length (fours_of s p q) ≡ 4 * count_of four s
length-fours_of no_slots p q = refl
length-fours_of (absent s) p q = length-fours_of s p q
length-fours_of (number_slot one n s) p q = length-fours_of s p q
length-fours_of (number_slot two n s) p q = length-fours_of s p q
length-fours_of (number_slot four n s) p q = omega (arith, length-fours_of s (p + 4) q)
length-fours_of (number_slot eight n s) p q = length-fours_of s p q
length-fours_of (signed_slot z s) p q = length-fours_of s p q
length-fours_of (target_slot t s) p q = omega (arith, length-fours_of s (p + 4) (q + size_of t))

pub length-offsets_of : (ts : Trees) (p q : ℕ) → length (offsets_of ts p q) ≡ 4 * tree_count ts
length-offsets_of no_trees p q = refl
length-offsets_of (tree t ts) p q = omega (arith, length-offsets_of ts (p + 4) (q + size_of t))

pub length-numbers_of : (w : ℕ) (ns : List ℕ) → length (numbers_of w ns) ≡ w * length ns
length-numbers_of w [] = omega arith
length-numbers_of w (n ∷ ns) = omega (arith, length-numbers_of w ns, length-append (low_first w n) (numbers_of w ns), length-low w n)

pub first_eight-least : (s : SlotTrees) → 4 ≤ first_eight s
first_eight-least s = least (count_of eight s == 0) where
  least : (c : Bool) → 4 ≤ (if c then 4 else 8)
  least true = omega arith
  least false = omega arith

pub length-vtable_of : (s : SlotTrees) → length (vtable_of s) ≡ vtable_size s
length-vtable_of s =
    omega (arith, length-entries s (first_places s))

pub length-inline_of : (s : SlotTrees) → length (inline_of s) ≡ inline_size s
length-inline_of s =
    let a : List ℕ = low_first 4 (head (table s)) in
    let z : List ℕ = replicate (first_eight s - 4) 0 in
    let f : List ℕ = fours_of s (head (table s) + (first_places s).fours) (own_size (table s)) in
    omega (
      arith,
      first_eight-least s,
      length-replicate {A = ℕ} (first_eight s - 4) 0,
      length-slots_of eight s refl,
      length-fours_of s (head (table s) + (first_places s).fours) (own_size (table s)),
      length-slots_of two s refl,
      length-slots_of one s refl,
      length-append a z,
      length-append (a ++ z) (slots_of eight s),
      length-append (a ++ z ++ slots_of eight s) f,
      length-append (a ++ z ++ slots_of eight s ++ f) (slots_of two s),
      length-append (a ++ z ++ slots_of eight s ++ f ++ slots_of two s) (slots_of one s),
    )

padded_to : (xs : List ℕ) (n : ℕ) → length xs ≡ n → length (padded xs) ≡ round_up n
padded_to xs n e = length-padded xs ∙ ap round_up e

pub length-own_bytes : (t : Tree) → length (own_bytes t) ≡ own_size t
length-own_bytes (table s) =
    let v = padded_to (vtable_of s) (vtable_size s) (length-vtable_of s) in
    let i = padded_to (inline_of s) (inline_size s) (length-inline_of s) in
    length-append (padded (vtable_of s)) (padded (inline_of s)) ∙ ap (λ (n : ℕ). n + length (padded (inline_of s))) v ∙ ap (λ (n : ℕ). round_up (vtable_size s) + n) i
length-own_bytes (offsets ts) = padded_to (low_first 4 (tree_count ts) ++ offsets_of ts 4 (own_size (offsets ts))) (4 + 4 * tree_count ts) (omega (arith, length-offsets_of ts 4 (own_size (offsets ts))))
length-own_bytes (bytes xs) = padded_to (low_first 4 (length xs) ++ xs) (4 + length xs) (omega arith)
length-own_bytes (text xs) = padded_to (low_first 4 (length xs) ++ xs ++ 0 ∷ []) (5 + length xs) (omega (arith, length-append xs (0 ∷ [])))
length-own_bytes (numbers xs) = padded_to (low_first 4 (length xs) ++ numbers_of 4 xs) (4 + 4 * length xs) (omega (arith, length-numbers_of 4 xs))
length-own_bytes (records xs) = padded_to (low_first 4 (length xs) ++ numbers_of 8 xs) (4 + 8 * length xs) (omega (arith, length-numbers_of 8 xs))

two_parts : (xs ys : List ℕ) (m n : ℕ) → length xs ≡ m → length ys ≡ n → length (xs ++ ys) ≡ m + n
two_parts xs ys m n e f = omega (arith, length-append xs ys)

mutual
  pub length-bytes_of : (t : Tree) → length (bytes_of t) ≡ size_of t
  length-bytes_of (table s) = two_parts (own_bytes (table s)) (targets_bytes s) (own_size (table s)) (targets_size s) (length-own_bytes (table s)) (length-targets_bytes s)
  length-bytes_of (offsets ts) = two_parts (own_bytes (offsets ts)) (trees_bytes ts) (own_size (offsets ts)) (trees_size ts) (length-own_bytes (offsets ts)) (length-trees_bytes ts)
  length-bytes_of (bytes xs) = length-own_bytes (bytes xs)
  length-bytes_of (text xs) = length-own_bytes (text xs)
  length-bytes_of (numbers xs) = length-own_bytes (numbers xs)
  length-bytes_of (records xs) = length-own_bytes (records xs)

  pub length-targets_bytes : (s : SlotTrees) → length (targets_bytes s) ≡ targets_size s
  length-targets_bytes no_slots = refl
  length-targets_bytes (absent s) = length-targets_bytes s
  length-targets_bytes (number_slot w n s) = length-targets_bytes s
  length-targets_bytes (signed_slot z s) = length-targets_bytes s
  length-targets_bytes (target_slot t s) = two_parts (bytes_of t) (targets_bytes s) (size_of t) (targets_size s) (length-bytes_of t) (length-targets_bytes s)

  pub length-trees_bytes : (ts : Trees) → length (trees_bytes ts) ≡ trees_size ts
  length-trees_bytes no_trees = refl
  length-trees_bytes (tree t ts) = two_parts (bytes_of t) (trees_bytes ts) (size_of t) (trees_size ts) (length-bytes_of t) (length-trees_bytes ts)
