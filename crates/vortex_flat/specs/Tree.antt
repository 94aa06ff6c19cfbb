-- What is to be laid out: a table is slots by number, a vector its elements.
use Rattle.std.specs.Prelude.{ℕ, zero, suc, List, Option, Some, None, ℤ}

-- how many bytes a number has
pub data Wide : Type 0 where
  one : Wide
  two : Wide
  four : Wide
  eight : Wide

-- the number of bytes
abbrev pub wide : Wide → ℕ
wide one = 1
wide two = 2
wide four = 4
wide eight = 8

mutual
  -- a table, a vector of offsets, bytes, a text, or a vector of numbers of four bytes or of eight
  pub data Tree : Type 0 where
    table : SlotTrees → Tree
    offsets : Trees → Tree
    bytes : List ℕ → Tree
    text : List ℕ → Tree
    numbers : List ℕ → Tree
    records : List ℕ → Tree

  -- a slot is empty, a number, a signed byte, or an offset to another tree
  pub data SlotTrees : Type 0 where
    no_slots : SlotTrees
    absent : SlotTrees → SlotTrees
    number_slot : Wide → ℕ → SlotTrees → SlotTrees
    signed_slot : ℤ → SlotTrees → SlotTrees
    target_slot : Tree → SlotTrees → SlotTrees

  -- the trees that the offsets of a vector lead to
  pub data Trees : Type 0 where
    no_trees : Trees
    tree : Tree → Trees → Trees

-- how many slots there are, with those that are absent
abbrev pub slot_count : SlotTrees → ℕ
slot_count no_slots = 0
slot_count (absent s) = suc (slot_count s)
slot_count (number_slot w n s) = suc (slot_count s)
slot_count (signed_slot z s) = suc (slot_count s)
slot_count (target_slot t s) = suc (slot_count s)

-- how many trees there are
abbrev pub tree_count : Trees → ℕ
tree_count no_trees = 0
tree_count (tree t ts) = suc (tree_count ts)

-- the tree at a place, where there is one
abbrev pub tree_at : Trees → ℕ → Option Tree
tree_at no_trees i = None
tree_at (tree t ts) zero = Some t
tree_at (tree t ts) (suc i) = tree_at ts i
