use Rattle.std.proofs.Common.{drop}
use Rattle.vortex_flat.specs.Item.{trees_from}
use Rattle.vortex_flat.proofs.ItemLemmas.{SummingTrees}
use Rattle.vortex_flat.proofs.item.trees_extent.Given as goal

abbrev pub invariant-loop-item : goal.invariant-loop-item
invariant-loop-item l = SummingTrees l.extent (trees_from (drop l.item-index l.items)) (trees_from l.items)
