use Rattle.std.proofs.Common.{◌≡◌, ◌++◌, drop}
use Rattle.vortex_flat.specs.Tree.{one}
use Rattle.vortex_flat.specs.Layout.{slots_of}
use Rattle.vortex_flat.specs.Item.{slots_from}
use Rattle.vortex_flat.proofs.slots.put_ones.Given as goal

abbrev pub invariant-loop-slot : goal.invariant-loop-slot
invariant-loop-slot l = l.out.items ++ slots_of one (slots_from (drop l.slot-index l.slots)) ≡ l.initial.out.items ++ slots_of one (slots_from l.slots)
