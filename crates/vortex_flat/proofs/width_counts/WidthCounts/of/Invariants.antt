use Rattle.std.proofs.Common.{drop}
use Rattle.vortex_flat.specs.Item.{slots_from}
use Rattle.vortex_flat.proofs.ItemLemmas.{Counting}
use Rattle.vortex_flat.proofs.width_counts.WidthCounts.of.Given as goal

abbrev pub invariant-loop-slot : goal.invariant-loop-slot
invariant-loop-slot l = Counting l.counts (slots_from (drop l.slot-index l.slots)) (slots_from l.slots) l.slot-index
