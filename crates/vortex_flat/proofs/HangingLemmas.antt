-- What hangs on slots and in a vector, laid down one after the other.
use Rattle.std.proofs.Common.{◌≡◌, ℕ, zero, suc, ◌+◌, ◌^◌, ◌≤◌, ◌<◌, true, List, [], ◌∷◌, ◌++◌, length, get_or, drop, Option, Some, None, refl, sym, subst, arith}
use Rattle.vortex_flat.specs.declared.item.Item.{Item}
use Rattle.vortex_flat.specs.declared.item.Slot.{Slot}
use Rattle.vortex_flat.specs.declared.item.Slot.TheVariants as slots
use Rattle.vortex_flat.specs.Tree.{SlotTrees, no_slots, Trees, no_trees}
use Rattle.vortex_flat.specs.inner.TreeCode.{tree_weight, slots_weight, trees_weight}
use Rattle.vortex_flat.specs.Item.{slots_from, trees_from, tree_of}
use Rattle.vortex_flat.specs.Layout.{bytes_of, size_of, tables_fit, targets_bytes, targets_fit, targets_size, trees_bytes, trees_fit, trees_size}
use Rattle.vortex_flat.specs.Reads.{InRange, SlotsInRange, TreesInRange}
use Rattle.vortex_flat.specs.inner.SlotBytes.{SlotInRange, target_bytes, target_fits, target_size}
use Rattle.vortex_flat.proofs.ItemLemmas.{drop_here, drop_all}
use Rattle.vortex_flat.proofs.PutLemmas.{laid_more, laid_all}
use Rattle.vortex_flat.proofs.TableLemmas.{and_split}

abbrev pub slot_weight : Option Slot → ℕ
slot_weight (Some (slots.Item t)) = suc (tree_weight (tree_of t))
slot_weight _ = 0

first_lighter : (x : Option Slot) (xs : List (Option Slot)) → slot_weight x < slots_weight (slots_from (x ∷ xs))
first_lighter None xs = omega arith
first_lighter (Some (slots.U8 n)) xs = omega arith
first_lighter (Some (slots.I8 z)) xs = omega arith
first_lighter (Some (slots.U16 n)) xs = omega arith
first_lighter (Some (slots.U32 n)) xs = omega arith
first_lighter (Some (slots.U64 n)) xs = omega arith
first_lighter (Some (slots.Item t)) xs = omega (arith, some_weight (slots_from xs)) where
  some_weight : (s : SlotTrees) → 0 < slots_weight s
  some_weight no_slots = omega arith
  some_weight _ = omega arith

rest_lighter : (x : Option Slot) (xs : List (Option Slot)) → slots_weight (slots_from xs) ≤ slots_weight (slots_from (x ∷ xs))
rest_lighter None xs = omega arith
rest_lighter (Some (slots.U8 n)) xs = omega arith
rest_lighter (Some (slots.I8 z)) xs = omega arith
rest_lighter (Some (slots.U16 n)) xs = omega arith
rest_lighter (Some (slots.U32 n)) xs = omega arith
rest_lighter (Some (slots.U64 n)) xs = omega arith
rest_lighter (Some (slots.Item t)) xs = omega arith

-- a slot is lighter than all slots together
pub slot_lighter : (xs : List (Option Slot)) (i : ℕ) (x : Option Slot) → i < length xs → x ≡ get_or xs i x → slot_weight x < slots_weight (slots_from xs)
slot_lighter [] i x lt here = absurd (omega arith)
slot_lighter (y ∷ xs) zero x lt here = subst (λ (z : Option Slot). slot_weight z < slots_weight (slots_from (y ∷ xs))) (sym here) (first_lighter y xs)
slot_lighter (y ∷ xs) (suc i) x lt here = omega (arith, slot_lighter xs i x (omega arith) here, rest_lighter y xs)

pub item_lighter : (xs : List Item) (i : ℕ) (x : Item) → i < length xs → x ≡ get_or xs i x → tree_weight (tree_of x) < trees_weight (trees_from xs)
item_lighter [] i x lt here = absurd (omega arith)
item_lighter (y ∷ xs) zero x lt here = subst (λ (z : Item). tree_weight (tree_of z) < trees_weight (trees_from (y ∷ xs))) (sym here) (omega arith)
item_lighter (y ∷ xs) (suc i) x lt here = omega (arith, item_lighter xs i x (omega arith) here)

-- ---- slots

pub record TargetsLeft (out start : List ℕ) (rest whole : SlotTrees) : Type 0 where
  pub short : targets_size rest < 2 ^ 32
  pub fits : targets_fit rest ≡ true
  pub laid : out ++ targets_bytes rest ≡ start ++ targets_bytes whole
  pub range : SlotsInRange rest → SlotsInRange whole

-- what a slot's target is
pub record TargetNow (x : Option Slot) : Type 0 where
  pub short : target_size x < 2 ^ 32
  pub fits : target_fits x ≡ true

targets-now-step : (x : Option Slot) (xs : List (Option Slot)) → targets_size (slots_from (x ∷ xs)) < 2 ^ 32 → targets_fit (slots_from (x ∷ xs)) ≡ true → TargetNow x
targets-now-step None xs h f = record { short = omega arith; fits = refl }
targets-now-step (Some (slots.U8 n)) xs h f = record { short = omega arith; fits = refl }
targets-now-step (Some (slots.I8 z)) xs h f = record { short = omega arith; fits = refl }
targets-now-step (Some (slots.U16 n)) xs h f = record { short = omega arith; fits = refl }
targets-now-step (Some (slots.U32 n)) xs h f = record { short = omega arith; fits = refl }
targets-now-step (Some (slots.U64 n)) xs h f = record { short = omega arith; fits = refl }
targets-now-step (Some (slots.Item t)) xs h f = record { short = omega arith; fits = (and_split (tables_fit (tree_of t)) (targets_fit (slots_from xs)) f).0 }

targets_bytes-step : (x : Option Slot) (xs : List (Option Slot)) → targets_bytes (slots_from (x ∷ xs)) ≡ target_bytes x ++ targets_bytes (slots_from xs)
targets_bytes-step None xs = refl
targets_bytes-step (Some (slots.U8 n)) xs = refl
targets_bytes-step (Some (slots.I8 z)) xs = refl
targets_bytes-step (Some (slots.U16 n)) xs = refl
targets_bytes-step (Some (slots.U32 n)) xs = refl
targets_bytes-step (Some (slots.U64 n)) xs = refl
targets_bytes-step (Some (slots.Item t)) xs = refl

targets_fit-step : (x : Option Slot) (xs : List (Option Slot)) → targets_fit (slots_from (x ∷ xs)) ≡ true → targets_fit (slots_from xs) ≡ true
targets_fit-step None xs f = f
targets_fit-step (Some (slots.U8 n)) xs f = f
targets_fit-step (Some (slots.I8 z)) xs f = f
targets_fit-step (Some (slots.U16 n)) xs f = f
targets_fit-step (Some (slots.U32 n)) xs f = f
targets_fit-step (Some (slots.U64 n)) xs f = f
targets_fit-step (Some (slots.Item t)) xs f = (and_split (tables_fit (tree_of t)) (targets_fit (slots_from xs)) f).1

targets_size-step : (x : Option Slot) (xs : List (Option Slot)) → targets_size (slots_from xs) ≤ targets_size (slots_from (x ∷ xs))
targets_size-step None xs = omega arith
targets_size-step (Some (slots.U8 n)) xs = omega arith
targets_size-step (Some (slots.I8 z)) xs = omega arith
targets_size-step (Some (slots.U16 n)) xs = omega arith
targets_size-step (Some (slots.U32 n)) xs = omega arith
targets_size-step (Some (slots.U64 n)) xs = omega arith
targets_size-step (Some (slots.Item t)) xs = omega arith

range-step : (x : Option Slot) (xs : List (Option Slot)) → SlotInRange x → SlotsInRange (slots_from xs) → SlotsInRange (slots_from (x ∷ xs))
range-step None xs h r = r
range-step (Some (slots.U8 n)) xs h r = (h, r)
range-step (Some (slots.I8 z)) xs h r = (h, r)
range-step (Some (slots.U16 n)) xs h r = (h, r)
range-step (Some (slots.U32 n)) xs h r = (h, r)
range-step (Some (slots.U64 n)) xs h r = (h, r)
range-step (Some (slots.Item t)) xs h r = (h, r)

targets-here : (out start : List ℕ) (xs : List (Option Slot)) (i : ℕ) (x : Option Slot) → i < length xs → x ≡ get_or xs i x → TargetsLeft out start (slots_from (drop i xs)) (slots_from xs) → TargetsLeft out start (slots_from (x ∷ drop (i + 1) xs)) (slots_from xs)
targets-here out start xs i x lt here h = subst (λ (ys : List (Option Slot)). TargetsLeft out start (slots_from ys) (slots_from xs)) (drop_here xs i x lt here) h

pub targets-now : (out start : List ℕ) (xs : List (Option Slot)) (i : ℕ) (x : Option Slot) → i < length xs → x ≡ get_or xs i x → TargetsLeft out start (slots_from (drop i xs)) (slots_from xs) → TargetNow x
targets-now out start xs i x lt here h =
    let l = targets-here out start xs i x lt here h in
    targets-now-step x (drop (i + 1) xs) l.short l.fits

pub targets-more : (out next start : List ℕ) (xs : List (Option Slot)) (i : ℕ) (x : Option Slot) → i < length xs → x ≡ get_or xs i x → TargetsLeft out start (slots_from (drop i xs)) (slots_from xs) → next ≡ out ++ target_bytes x → SlotInRange x
    → TargetsLeft next start (slots_from (drop (i + 1) xs)) (slots_from xs)
targets-more out next start xs i x lt here h e range =
    let l = targets-here out start xs i x lt here h in
    let rest : List (Option Slot) = drop (i + 1) xs in
    record {
      short = omega (arith, l.short, targets_size-step x rest);
      fits = targets_fit-step x rest l.fits;
      laid = laid_more out next (target_bytes x) (targets_bytes (slots_from rest)) (targets_bytes (slots_from (x ∷ rest))) (start ++ targets_bytes (slots_from xs)) l.laid (targets_bytes-step x rest) e;
      range = λ r. l.range (range-step x rest range r);
    }

pub record AllLaid (out start pieces : List ℕ) (Range : Type 0) : Type 0 where
  pub laid : out ≡ start ++ pieces
  pub range : Range

pub targets-all : (out start : List ℕ) (xs : List (Option Slot)) → TargetsLeft out start (slots_from (drop (length xs) xs)) (slots_from xs) → AllLaid out start (targets_bytes (slots_from xs)) (SlotsInRange (slots_from xs))
targets-all out start xs h =
    let end : TargetsLeft out start no_slots (slots_from xs) = subst (λ (ys : List (Option Slot)). TargetsLeft out start (slots_from ys) (slots_from xs)) (drop_all xs) h in
    record { laid = laid_all out [] (start ++ targets_bytes (slots_from xs)) end.laid refl; range = end.range tt }

-- ---- items

pub record TreesHang (out start : List ℕ) (rest whole : Trees) : Type 0 where
  pub short : trees_size rest < 2 ^ 32
  pub fits : trees_fit rest ≡ true
  pub laid : out ++ trees_bytes rest ≡ start ++ trees_bytes whole
  pub range : TreesInRange rest → TreesInRange whole

trees-here : (out start : List ℕ) (xs : List Item) (i : ℕ) (x : Item) → i < length xs → x ≡ get_or xs i x → TreesHang out start (trees_from (drop i xs)) (trees_from xs) → TreesHang out start (trees_from (x ∷ drop (i + 1) xs)) (trees_from xs)
trees-here out start xs i x lt here h = subst (λ (ys : List Item). TreesHang out start (trees_from ys) (trees_from xs)) (drop_here xs i x lt here) h

pub record ItemNow (x : Item) : Type 0 where
  pub short : size_of (tree_of x) < 2 ^ 32
  pub fits : tables_fit (tree_of x) ≡ true

pub item-now : (out start : List ℕ) (xs : List Item) (i : ℕ) (x : Item) → i < length xs → x ≡ get_or xs i x → TreesHang out start (trees_from (drop i xs)) (trees_from xs) → ItemNow x
item-now out start xs i x lt here h =
    let l = trees-here out start xs i x lt here h in
    record { short = omega (arith, l.short); fits = (and_split (tables_fit (tree_of x)) (trees_fit (trees_from (drop (i + 1) xs))) l.fits).0 }

pub items-more : (out next start : List ℕ) (xs : List Item) (i : ℕ) (x : Item) → i < length xs → x ≡ get_or xs i x → TreesHang out start (trees_from (drop i xs)) (trees_from xs) → next ≡ out ++ bytes_of (tree_of x) → InRange (tree_of x)
    → TreesHang next start (trees_from (drop (i + 1) xs)) (trees_from xs)
items-more out next start xs i x lt here h e range =
    let l = trees-here out start xs i x lt here h in
    let rest : List Item = drop (i + 1) xs in
    record {
      short = omega (arith, l.short);
      fits = (and_split (tables_fit (tree_of x)) (trees_fit (trees_from rest)) l.fits).1;
      laid = laid_more out next (bytes_of (tree_of x)) (trees_bytes (trees_from rest)) (trees_bytes (trees_from (x ∷ rest))) (start ++ trees_bytes (trees_from xs)) l.laid refl e;
      range = λ r. l.range (range, r);
    }

pub items-all : (out start : List ℕ) (xs : List Item) → TreesHang out start (trees_from (drop (length xs) xs)) (trees_from xs) → AllLaid out start (trees_bytes (trees_from xs)) (TreesInRange (trees_from xs))
items-all out start xs h =
    let end : TreesHang out start no_trees (trees_from xs) = subst (λ (ys : List Item). TreesHang out start (trees_from ys) (trees_from xs)) (drop_all xs) h in
    record { laid = laid_all out [] (start ++ trees_bytes (trees_from xs)) end.laid refl; range = end.range tt }
