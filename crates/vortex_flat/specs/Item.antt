-- An item as its tree.
use Rattle.std.specs.Prelude.{List, [], ◌∷◌, Option, Some, None, string_bytes}
use Rattle.vortex_flat.specs.declared.item.Item.{Item}
use Rattle.vortex_flat.specs.declared.item.Item.TheVariants as items
use Rattle.vortex_flat.specs.declared.item.Slot.{Slot}
use Rattle.vortex_flat.specs.declared.item.Slot.TheVariants as slots
use Rattle.vortex_flat.specs.Tree.{one, two, four, eight, Tree, table, offsets, bytes, text, numbers, records, SlotTrees, no_slots, absent, number_slot, signed_slot, target_slot, Trees, no_trees, tree}

-- the tree that an item stands for
abbrev pub tree_of : Item → Tree
tree_of (items.Table s) = table s
tree_of (items.Offsets ts) = offsets ts
tree_of (items.Bytes v) = bytes v.items
tree_of (items.Text s) = text (string_bytes s)
tree_of (items.Numbers v) = numbers v.items
tree_of (items.Records v) = records v.items

-- the slots with one more before them
abbrev pub with_slot : Slot → SlotTrees → SlotTrees
with_slot (slots.U8 n) s = number_slot one n s
with_slot (slots.I8 z) s = signed_slot z s
with_slot (slots.U16 n) s = number_slot two n s
with_slot (slots.U32 n) s = number_slot four n s
with_slot (slots.U64 n) s = number_slot eight n s
with_slot (slots.Item t) s = target_slot (tree_of t) s

-- the slots that the fields of a table stand for
abbrev pub slots_from : List (Option Slot) → SlotTrees
slots_from [] = no_slots
slots_from (None ∷ xs) = absent (slots_from xs)
slots_from (Some x ∷ xs) = with_slot x (slots_from xs)

-- the trees that the items of a vector stand for
abbrev pub trees_from : List Item → Trees
trees_from [] = no_trees
trees_from (x ∷ xs) = tree (tree_of x) (trees_from xs)
