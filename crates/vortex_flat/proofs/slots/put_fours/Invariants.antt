use Rattle.std.proofs.Common.{◌≡◌, ◌++◌, drop}
use Rattle.vortex_flat.specs.Layout.{fours_of}
use Rattle.vortex_flat.specs.Item.{slots_from}
use Rattle.vortex_flat.proofs.PutLemmas.{FoursLeft}
use Rattle.vortex_flat.proofs.slots.put_fours.Given as goal

abbrev pub invariant-loop-slot : goal.invariant-loop-slot
invariant-loop-slot l = record {
  left : FoursLeft (slots_from (drop l.slot-index l.slots)) l.place l.target;
  laid : l.out.items ++ fours_of (slots_from (drop l.slot-index l.slots)) l.place l.target ≡ l.initial.out.items ++ fours_of (slots_from l.slots) l.first l.behind;
}
