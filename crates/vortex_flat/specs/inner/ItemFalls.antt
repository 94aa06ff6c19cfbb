-- What hangs on slots or in a vector is lighter than they are.
use Rattle.std.specs.Prelude.{ℕ, ◌≤◌, List, [], ◌∷◌, Option, Some, None}
use Rattle.std.proofs.Common.{arith}
use denote.Param.Weighed.{most}
use Rattle.vortex_flat.specs.declared.item.Item.{Item}
use Rattle.vortex_flat.specs.declared.item.Item.TheVariants as items
use Rattle.vortex_flat.specs.declared.item.Slot.{Slot}
use Rattle.vortex_flat.specs.declared.item.Slot.TheVariants as slots
use Rattle.vortex_flat.specs.declared.item.Slots.TheInside.{Inside as SlotsInside}
use Rattle.vortex_flat.specs.declared.item.Items.TheInside.{Inside as ItemsInside}
use Rattle.vortex_flat.specs.declared.item.Items.TheDeep.{deep-Item, deep-Slot, deep-Slots, deep-Items}
use Rattle.vortex_flat.specs.declared.item.Items.TheShapes.{weighed-Slots-slots-at-1}
use Rattle.vortex_flat.specs.inner.TreeCode.{tree_weight, slots_weight, trees_weight}
use Rattle.vortex_flat.specs.Item.{tree_of, slots_from, trees_from}

-- an item is no heavier than its tree
item_falls : (x : Item) → deep-Item x ≤ tree_weight (tree_of x)
item_falls (items.Table s) = omega arith
item_falls (items.Offsets ts) = omega arith
item_falls (items.Bytes v) = omega arith
item_falls (items.Text s) = omega arith
item_falls (items.Numbers v) = omega arith
item_falls (items.Records v) = omega arith

-- no item of a list is heavier than their trees together
items_fall : (xs : List Item) → most deep-Item xs ≤ trees_weight (trees_from xs)
items_fall [] = omega arith
items_fall (x ∷ xs) = omega (arith, item_falls x, items_fall xs)

-- the targets of a vector are no heavier than their trees
pub trees_fall : (s : ItemsInside) → deep-Items s ≤ trees_weight (trees_from s.items.items)
trees_fall s = omega (arith, items_fall s.items.items)

-- how heavy a field is
abbrev deep_option : Option Slot → ℕ
deep_option x = weighed-Slots-slots-at-1.weight Slot deep-Slot x

-- no field of a list is heavier than their slots together
options_fall : (xs : List (Option Slot)) → most deep_option xs ≤ slots_weight (slots_from xs)
options_fall [] = omega arith
options_fall (None ∷ xs) = omega (arith, options_fall xs)
options_fall (Some (slots.U8 n) ∷ xs) = omega (arith, options_fall xs)
options_fall (Some (slots.I8 z) ∷ xs) = omega (arith, options_fall xs)
options_fall (Some (slots.U16 n) ∷ xs) = omega (arith, options_fall xs)
options_fall (Some (slots.U32 n) ∷ xs) = omega (arith, options_fall xs)
options_fall (Some (slots.U64 n) ∷ xs) = omega (arith, options_fall xs)
options_fall (Some (slots.Item t) ∷ xs) = omega (arith, item_falls t, options_fall xs)

-- the fields of a table are no heavier than their slots
pub slots_fall : (s : SlotsInside) → deep-Slots s ≤ slots_weight (slots_from s.slots.items)
slots_fall s = omega (arith, options_fall s.slots.items)
