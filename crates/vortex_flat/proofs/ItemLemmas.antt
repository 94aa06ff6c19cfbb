-- SlotTrees and items one after the other, as loops go over them.
use Rattle.std.proofs.Common.{◌≡◌, ℕ, zero, suc, ◌+◌, ◌*◌, ◌≤◌, ◌<◌, min, Bool, true, false, List, [], ◌∷◌, length, get_or, drop, Option, Some, None, refl, sym, ap, subst, ◌∙◌, arith, add-one}
use Rattle.std.proofs.lemmas.Bool.{leb-true, lt-leb}
use Rattle.vortex_flat.proofs.TableLemmas.{and_split}
use Rattle.vortex_flat.specs.declared.width_counts.WidthCounts.{WidthCounts}
use Rattle.std.specs.Prelude.{◌&&◌, ◌==◌, nat_le, if◌then◌else◌}
use Rattle.vortex_flat.specs.declared.extent.Extent.{Extent}
use Rattle.vortex_flat.specs.declared.item.Item.{Item}
use Rattle.vortex_flat.specs.declared.item.Slot.{Slot}
use Rattle.vortex_flat.specs.declared.item.Slot.TheVariants as slots
use Rattle.vortex_flat.specs.Tree.{one, two, four, eight, table, offsets, SlotTrees, no_slots, Trees, no_trees, slot_count, tree_count}
use Rattle.vortex_flat.specs.Item.{slots_from, trees_from, tree_of}
use Rattle.vortex_flat.specs.Layout.{count_of, inline_size, vtable_size, round_up, head, own_size, size_of, targets_size, trees_size, tables_fit, targets_fit, trees_fit}
use Rattle.vortex_flat.specs.inner.Extent.{Counted, Measures, MeasuresTargets, MeasuresTrees}
use Rattle.vortex_flat.specs.inner.SlotBytes.{counts_after, extent_after, inline_of_counts}

-- the element at a place, and those behind it
pub drop_here : {A : Type 0} (xs : List A) (i : ℕ) (x : A) → i < length xs → x ≡ get_or xs i x → drop i xs ≡ x ∷ drop (i + 1) xs
drop_here [] i x h e = absurd (omega arith)
drop_here (y ∷ xs) zero x h e = ap (λ z. z ∷ xs) (sym e)
drop_here (y ∷ xs) (suc i) x h e = rw add-one (rw add-one at (drop_here xs i x (omega arith) e))

pub drop_all : {A : Type 0} (xs : List A) → drop (length xs) xs ≡ []
drop_all [] = refl
drop_all (x ∷ xs) = drop_all xs

-- what was counted so far, and what is still to be counted, are the whole
pub record Counting (c : WidthCounts) (rest whole : SlotTrees) (i : ℕ) : Type 0 where
  pub eights : c.eights + count_of eight rest ≡ count_of eight whole
  pub fours : c.fours + count_of four rest ≡ count_of four whole
  pub twos : c.twos + count_of two rest ≡ count_of two whole
  pub ones : c.ones + count_of one rest ≡ count_of one whole
  pub eights_below : c.eights ≤ i
  pub fours_below : c.fours ≤ i
  pub twos_below : c.twos ≤ i
  pub ones_below : c.ones ≤ i

counting_step : (c : WidthCounts) (x : Option Slot) (xs : List (Option Slot)) (whole : SlotTrees) (i : ℕ) → Counting c (slots_from (x ∷ xs)) whole i → Counting (counts_after c x) (slots_from xs) whole (i + 1)
counting_step c None xs whole i h = grind arith
counting_step c (Some (slots.U8 n)) xs whole i h = grind arith
counting_step c (Some (slots.I8 z)) xs whole i h = grind arith
counting_step c (Some (slots.U16 n)) xs whole i h = grind arith
counting_step c (Some (slots.U32 n)) xs whole i h = grind arith
counting_step c (Some (slots.U64 n)) xs whole i h = grind arith
counting_step c (Some (slots.Item t)) xs whole i h = grind arith

pub counting_more : (c d : WidthCounts) (xs : List (Option Slot)) (i : ℕ) (x : Option Slot) → i < length xs → x ≡ get_or xs i x → Counting c (slots_from (drop i xs)) (slots_from xs) i → d ≡ counts_after c x → Counting d (slots_from (drop (i + 1) xs)) (slots_from xs) (i + 1)
counting_more c d xs i x lt here h e =
    let split : Counting c (slots_from (x ∷ drop (i + 1) xs)) (slots_from xs) i = subst (λ (ys : List (Option Slot)). Counting c (slots_from ys) (slots_from xs) i) (drop_here xs i x lt here) h in
    subst (λ (k : WidthCounts). Counting k (slots_from (drop (i + 1) xs)) (slots_from xs) (i + 1)) (sym e) (counting_step c x (drop (i + 1) xs) (slots_from xs) i split)

pub counting_all : (c : WidthCounts) (xs : List (Option Slot)) → Counting c (slots_from (drop (length xs) xs)) (slots_from xs) (length xs) → Counted c (slots_from xs)
counting_all c xs h =
    let end : Counting c no_slots (slots_from xs) (length xs) = subst (λ (ys : List (Option Slot)). Counting c (slots_from ys) (slots_from xs) (length xs)) (drop_all xs) h in
    record { eights = omega (arith, end.eights); fours = omega (arith, end.fours); twos = omega (arith, end.twos); ones = omega (arith, end.ones) }

-- the same of what hangs on slots
pub record Summing (e : Extent) (rest whole : SlotTrees) : Type 0 where
  pub size : min (e.size + targets_size rest) 4294967296 ≡ min (targets_size whole) 4294967296
  pub fits : (e.fits && targets_fit rest) ≡ targets_fit whole
  pub small : e.size ≤ 4294967296

and_assoc : (a b c : Bool) → ((a && b) && c) ≡ (a && (b && c))
and_assoc true b c = refl
and_assoc false b c = refl

and_true : (a : Bool) → (a && true) ≡ a
and_true true = refl
and_true false = refl

summing_step : (e : Extent) (x : Option Slot) (xs : List (Option Slot)) (whole : SlotTrees) → Summing e (slots_from (x ∷ xs)) whole → Summing (extent_after e x) (slots_from xs) whole
summing_step e None xs whole h = record { size = h.size; fits = h.fits; small = h.small }
summing_step e (Some (slots.U8 n)) xs whole h = record { size = h.size; fits = h.fits; small = h.small }
summing_step e (Some (slots.I8 z)) xs whole h = record { size = h.size; fits = h.fits; small = h.small }
summing_step e (Some (slots.U16 n)) xs whole h = record { size = h.size; fits = h.fits; small = h.small }
summing_step e (Some (slots.U32 n)) xs whole h = record { size = h.size; fits = h.fits; small = h.small }
summing_step e (Some (slots.U64 n)) xs whole h = record { size = h.size; fits = h.fits; small = h.small }
summing_step e (Some (slots.Item t)) xs whole h = record {
  size = omega (arith, h.size);
  fits = and_assoc e.fits (tables_fit (tree_of t)) (targets_fit (slots_from xs)) ∙ h.fits;
  small = omega arith;
}

pub summing_more : (e f : Extent) (xs : List (Option Slot)) (i : ℕ) (x : Option Slot) → i < length xs → x ≡ get_or xs i x → Summing e (slots_from (drop i xs)) (slots_from xs) → f ≡ extent_after e x → Summing f (slots_from (drop (i + 1) xs)) (slots_from xs)
summing_more e f xs i x lt here h same =
    let split : Summing e (slots_from (x ∷ drop (i + 1) xs)) (slots_from xs) = subst (λ (ys : List (Option Slot)). Summing e (slots_from ys) (slots_from xs)) (drop_here xs i x lt here) h in
    subst (λ (k : Extent). Summing k (slots_from (drop (i + 1) xs)) (slots_from xs)) (sym same) (summing_step e x (drop (i + 1) xs) (slots_from xs) split)

pub summing_all : (e : Extent) (xs : List (Option Slot)) → Summing e (slots_from (drop (length xs) xs)) (slots_from xs) → MeasuresTargets e (slots_from xs)
summing_all e xs h =
    let end : Summing e no_slots (slots_from xs) = subst (λ (ys : List (Option Slot)). Summing e (slots_from ys) (slots_from xs)) (drop_all xs) h in
    record { size = omega (arith, end.size, end.small); fits = sym (and_true e.fits) ∙ end.fits }

-- the same of a vector's trees
pub record SummingTrees (e : Extent) (rest whole : Trees) : Type 0 where
  pub size : min (e.size + trees_size rest) 4294967296 ≡ min (trees_size whole) 4294967296
  pub fits : (e.fits && trees_fit rest) ≡ trees_fit whole
  pub small : e.size ≤ 4294967296

pub trees_more : (e f : Extent) (xs : List Item) (i : ℕ) (x : Item) → i < length xs → x ≡ get_or xs i x → SummingTrees e (trees_from (drop i xs)) (trees_from xs) → f.size ≡ min (e.size + min (size_of (tree_of x)) 4294967296) 4294967296 → f.fits ≡ (e.fits && tables_fit (tree_of x))
    → SummingTrees f (trees_from (drop (i + 1) xs)) (trees_from xs)
trees_more e f xs i x lt here h size fits =
    let split : SummingTrees e (trees_from (x ∷ drop (i + 1) xs)) (trees_from xs) = subst (λ (ys : List Item). SummingTrees e (trees_from ys) (trees_from xs)) (drop_here xs i x lt here) h in
    record {
      size = omega (arith, split.size, size);
      fits = ap (λ (b : Bool). b && trees_fit (trees_from (drop (i + 1) xs))) fits ∙ and_assoc e.fits (tables_fit (tree_of x)) (trees_fit (trees_from (drop (i + 1) xs))) ∙ split.fits;
      small = omega (arith, size);
    }

pub trees_all : (e : Extent) (xs : List Item) → SummingTrees e (trees_from (drop (length xs) xs)) (trees_from xs) → MeasuresTrees e (trees_from xs)
trees_all e xs h =
    let end : SummingTrees e no_trees (trees_from xs) = subst (λ (ys : List Item). SummingTrees e (trees_from ys) (trees_from xs)) (drop_all xs) h in
    record { size = omega (arith, end.size, end.small); fits = sym (and_true e.fits) ∙ end.fits }

pub slot_count-slots_from : (xs : List (Option Slot)) → slot_count (slots_from xs) ≡ length xs
slot_count-slots_from [] = refl
slot_count-slots_from (None ∷ xs) = ap suc (slot_count-slots_from xs)
slot_count-slots_from (Some (slots.U8 n) ∷ xs) = ap suc (slot_count-slots_from xs)
slot_count-slots_from (Some (slots.I8 z) ∷ xs) = ap suc (slot_count-slots_from xs)
slot_count-slots_from (Some (slots.U16 n) ∷ xs) = ap suc (slot_count-slots_from xs)
slot_count-slots_from (Some (slots.U32 n) ∷ xs) = ap suc (slot_count-slots_from xs)
slot_count-slots_from (Some (slots.U64 n) ∷ xs) = ap suc (slot_count-slots_from xs)
slot_count-slots_from (Some (slots.Item t) ∷ xs) = ap suc (slot_count-slots_from xs)

pub tree_count-trees_from : (xs : List Item) → tree_count (trees_from xs) ≡ length xs
tree_count-trees_from [] = refl
tree_count-trees_from (x ∷ xs) = ap suc (tree_count-trees_from xs)

pub inline_size-counted : (c : WidthCounts) (s : SlotTrees) → Counted c s → inline_of_counts c ≡ inline_size s
inline_size-counted c s h =
    ap (λ (n : ℕ). (if n == 0 then 4 else 8) + 8 * n + 4 * c.fours + 2 * c.twos + c.ones) h.eights ∙ omega (arith, h.fours, h.twos, h.ones)

-- ---- a whole table, and a whole vector of offsets

pub head_small : (xs : List (Option Slot)) (s : SlotTrees) → slots_from xs ≡ s → tables_fit (table s) ≡ true → 4 + 2 * length xs ≤ 65535
head_small xs s e fits =
    let both = and_split (nat_le (vtable_size s) 65535 && nat_le (inline_size s) 65535) (targets_fit s) fits in
    let small : vtable_size s ≤ 65535 = leb-true _ _ (and_split (nat_le (vtable_size s) 65535) (nat_le (inline_size s) 65535) both.0).0 in
    omega (arith, small, ap slot_count e, slot_count-slots_from xs)

pub head_is : (xs : List (Option Slot)) (s : SlotTrees) → slots_from xs ≡ s → round_up (4 + 2 * length xs) ≡ head (table s)
head_is xs s e = ap (λ (n : ℕ). round_up (4 + 2 * n)) (sym (slot_count-slots_from xs) ∙ ap slot_count e)

pub items_measured : (e own f : Extent) (xs : List Item) (n : ℕ) → n ≡ length xs → own.size ≡ min (round_up (4 + 4 * n)) 4294967296 → own.fits ≡ true → MeasuresTrees f (trees_from xs) → e.size ≡ min (own.size + f.size) 4294967296 → e.fits ≡ (own.fits && f.fits) → Measures e (offsets (trees_from xs))
items_measured e own f xs n len size fits trees both_size both_fits =
    let blocks : own.size ≡ min (own_size (offsets (trees_from xs))) 4294967296 = size ∙ ap (λ (k : ℕ). min (round_up (4 + 4 * k)) 4294967296) (len ∙ sym (tree_count-trees_from xs)) in
    record {
      size = omega (arith, both_size, blocks, trees.size);
      fits = both_fits ∙ ap (λ (b : Bool). b && f.fits) fits ∙ trees.fits;
    }

pub table_measured : (e own f : Extent) (xs : List (Option Slot)) (c : WidthCounts) → Counted c (slots_from xs) → own.size ≡ min (round_up (4 + 2 * length xs) + round_up (inline_of_counts c)) 4294967296 → own.fits ≡ (nat_le (4 + 2 * length xs) 65535 && nat_le (inline_of_counts c) 65535)
    → MeasuresTargets f (slots_from xs) → e.size ≡ min (own.size + f.size) 4294967296 → e.fits ≡ (own.fits && f.fits) → Measures e (table (slots_from xs))
table_measured e own f xs c counted size fits targets both_size both_fits =
    let s : SlotTrees = slots_from xs in
    let many : length xs ≡ slot_count s = sym (slot_count-slots_from xs) in
    let inline = inline_size-counted c s counted in
    let blocks : own.size ≡ min (own_size (table s)) 4294967296 =
    size ∙ ap (λ (k : ℕ). min (round_up (4 + 2 * k) + round_up (inline_of_counts c)) 4294967296) many ∙ ap (λ (k : ℕ). min (round_up (vtable_size s) + round_up k) 4294967296) inline in
    let fitting : own.fits ≡ (nat_le (vtable_size s) 65535 && nat_le (inline_size s) 65535) =
    fits ∙ ap (λ (k : ℕ). nat_le (4 + 2 * k) 65535 && nat_le (inline_of_counts c) 65535) many ∙ ap (λ (k : ℕ). nat_le (vtable_size s) 65535 && nat_le k 65535) inline in
    record {
      size = omega (arith, both_size, blocks, targets.size);
      fits = both_fits ∙ ap (λ (b : Bool). b && f.fits) fitting ∙ ap (λ (b : Bool). (nat_le (vtable_size s) 65535 && nat_le (inline_size s) 65535) && b) targets.fits;
    }

pub large_measured : (e : Extent) (xs : List (Option Slot)) → 4294967296 ≤ length xs → e.size ≡ 4294967296 → e.fits ≡ false → Measures e (table (slots_from xs))
large_measured e xs large size fits =
    let many = slot_count-slots_from xs in
    let s : SlotTrees = slots_from xs in
    let off : nat_le (vtable_size s) 65535 ≡ false = lt-leb (vtable_size s) 65535 (omega arith) in
    record {
      size = omega arith;
      fits = fits ∙ ap (λ (b : Bool). b && nat_le (inline_size s) 65535 && targets_fit s) (sym off);
    }
