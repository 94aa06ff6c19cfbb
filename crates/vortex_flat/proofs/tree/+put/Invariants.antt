use Rattle.std.proofs.Common.{drop}
use Rattle.vortex_flat.specs.inner.TreeCode.{tree_weight, slots_weight, trees_weight}
use Rattle.vortex_flat.specs.Item.{slots_from, tree_of, trees_from}
use Rattle.vortex_flat.proofs.HangingLemmas.{slot_weight, TargetsLeft, TreesHang}
use Rattle.vortex_flat.proofs.tree.+put.Given as goal

abbrev pub decreases-put_item : goal.decreases-put_item
decreases-put_item l = tree_weight (tree_of l.item.now)

abbrev pub decreases-put_target : goal.decreases-put_target
decreases-put_target l = slot_weight l.slot.now

abbrev pub decreases-put_targets : goal.decreases-put_targets
decreases-put_targets l = slots_weight (slots_from l.slots.now)

abbrev pub decreases-put_trees : goal.decreases-put_trees
decreases-put_trees l = trees_weight (trees_from l.items.now)

abbrev pub invariant-put_targets-loop-slot : goal.invariant-put_targets-loop-slot
invariant-put_targets-loop-slot l = TargetsLeft l.out.items l.initial.out.items (slots_from (drop l.slot-index l.slots)) (slots_from l.slots)

abbrev pub invariant-put_trees-loop-item : goal.invariant-put_trees-loop-item
invariant-put_trees-loop-item l = TreesHang l.out.items l.initial.out.items (trees_from (drop l.item-index l.items)) (trees_from l.items)
