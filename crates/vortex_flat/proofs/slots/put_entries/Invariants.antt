use Rattle.std.proofs.Common.{◌≡◌, ◌++◌, drop}
use Rattle.vortex_flat.specs.Layout.{entries}
use Rattle.vortex_flat.specs.Item.{slots_from}
use Rattle.vortex_flat.specs.inner.SlotBytes.{HaveRoom, places_of}
use Rattle.vortex_flat.proofs.slots.put_entries.Given as goal

abbrev pub invariant-loop-slot : goal.invariant-loop-slot
invariant-loop-slot l = record {
  room : HaveRoom (places_of l.places) (slots_from (drop l.slot-index l.slots)) 65535;
  laid : l.out.items ++ entries (slots_from (drop l.slot-index l.slots)) (places_of l.places) ≡ l.initial.out.items ++ entries (slots_from l.slots) (places_of l.fn.first);
}
