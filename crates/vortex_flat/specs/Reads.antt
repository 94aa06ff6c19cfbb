-- What the readers find at a place is this tree.
use Rattle.std.specs.Prelude.{◌≡◌, ℕ, suc, ◌*◌, ◌^◌, ◌≤◌, ◌<◌, List, [], ◌∷◌, length, Some, None, FitsSigned}
use Rattle.std.specs.Int.{w8}
use Rattle.std.specs.List.{AllByRecursion}
use Rattle.std.specs.Str.{IsUtf8}
use Rattle.vortex_flat.specs.Numbers.{number}
use Rattle.vortex_flat.specs.Table.{field_at}
use Rattle.vortex_flat.specs.Targets.{VectorShape, root_place, element, follow, table_place, number_field, signed_field, target_field, vector_at, bytes_at, text_at}
use Rattle.vortex_flat.specs.Tree.{wide, Tree, table, offsets, bytes, text, numbers, records, SlotTrees, no_slots, absent, number_slot, signed_slot, target_slot, Trees, no_trees, tree, tree_count}

-- the numbers from element i on
abbrev pub ReadsNumbers : List ℕ → VectorShape → ℕ → List ℕ → Type 0
ReadsNumbers b v i [] = Unit {0}
ReadsNumbers b v i (n ∷ ns) =
    (number b (element v i) v.width ≡ Some n) × ReadsNumbers b v (suc i) ns

-- a vector of width w stands at p, and these are its numbers
abbrev pub ReadsVector : List ℕ → ℕ → ℕ → List ℕ → Type 0
ReadsVector b p w ns =
    (v : VectorShape) × (vector_at b p w ≡ Some v) × (v.count ≡ length ns) × ReadsNumbers b v 0 ns

abbrev mutual
  -- the tree stands at p
  pub Reads : List ℕ → ℕ → Tree → Type 0
  Reads b p (table s) = (table_place b p ≡ Some p) × ReadsSlots b p 0 s
  Reads b p (offsets ts) =
      (v : VectorShape) × (vector_at b p 4 ≡ Some v) × (v.count ≡ tree_count ts)
      × ReadsTrees b v 0 ts
  Reads b p (bytes xs) = bytes_at b p ≡ Some xs
  Reads b p (text xs) = text_at b p ≡ Some xs
  Reads b p (numbers ns) = ReadsVector b p 4 ns
  Reads b p (records ns) = ReadsVector b p 8 ns

  -- the slots are the fields from number k on, and behind them there is none
  pub ReadsSlots : List ℕ → ℕ → ℕ → SlotTrees → Type 0
  ReadsSlots b p k no_slots = (j w : ℕ) → k ≤ j → field_at b p j w ≡ Some None
  ReadsSlots b p k (absent s) = ((w : ℕ) → field_at b p k w ≡ Some None) × ReadsSlots b p (suc k) s
  ReadsSlots b p k (number_slot w n s) =
      (number_field b p k (wide w) ≡ Some (Some n)) × ReadsSlots b p (suc k) s
  ReadsSlots b p k (signed_slot z s) =
      (signed_field b p k ≡ Some (Some z)) × ReadsSlots b p (suc k) s
  ReadsSlots b p k (target_slot t s) =
      ((q : ℕ) × (target_field b p k ≡ Some (Some q)) × Reads b q t) × ReadsSlots b p (suc k) s

  -- the trees are what the offsets from element i on lead to
  pub ReadsTrees : List ℕ → VectorShape → ℕ → Trees → Type 0
  ReadsTrees b v i no_trees = Unit {0}
  ReadsTrees b v i (tree t ts) =
      ((q : ℕ) × (follow b (element v i) ≡ Some q) × Reads b q t) × ReadsTrees b v (suc i) ts

abbrev mutual
  -- the numbers of a tree are such as their widths hold, and a text is UTF-8
  pub InRange : Tree → Type 0
  InRange (table s) = SlotsInRange s
  InRange (offsets ts) = TreesInRange ts
  InRange (bytes xs) = Unit {0}
  InRange (text xs) = IsUtf8 xs
  InRange (numbers ns) = AllByRecursion (λ n. n < 2 ^ 32) ns
  InRange (records ns) = AllByRecursion (λ n. n < 2 ^ 64) ns

  -- the numbers of slots, and of all that hangs on them, are such as their widths hold
  pub SlotsInRange : SlotTrees → Type 0
  SlotsInRange no_slots = Unit {0}
  SlotsInRange (absent s) = SlotsInRange s
  SlotsInRange (number_slot w n s) = (n < 2 ^ (8 * wide w)) × SlotsInRange s
  SlotsInRange (signed_slot z s) = FitsSigned w8 z × SlotsInRange s
  SlotsInRange (target_slot t s) = InRange t × SlotsInRange s

  -- the numbers of the trees of a vector are such as their widths hold
  pub TreesInRange : Trees → Type 0
  TreesInRange no_trees = Unit {0}
  TreesInRange (tree t ts) = InRange t × TreesInRange ts

-- the buffer begins with the place of this tree
abbrev pub ReadsAgain : List ℕ → Tree → Type 0
ReadsAgain b t = (p : ℕ) × (root_place b ≡ Some p) × Reads b p t
