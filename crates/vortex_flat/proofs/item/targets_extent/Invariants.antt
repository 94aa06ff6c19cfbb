use Rattle.std.proofs.Common.{drop}
use Rattle.vortex_flat.specs.Item.{slots_from}
use Rattle.vortex_flat.proofs.ItemLemmas.{Summing}
use Rattle.vortex_flat.proofs.item.targets_extent.Given as goal

abbrev pub invariant-loop-slot : goal.invariant-loop-slot
invariant-loop-slot l = Summing l.extent (slots_from (drop l.slot-index l.slots)) (slots_from l.slots)
