use Rattle.std.proofs.Common.{◌≡◌, drop}
use Rattle.serde_json.specs.View.{items_view}
use Rattle.vortex_json.specs.Found.{bits_found, each_found}
use Rattle.vortex_json.proofs.Found.{after}
use Rattle.vortex_json.proofs.lists.read_bytes.Given as goal

abbrev pub invariant-loop-item : goal.invariant-loop-item
invariant-loop-item l =
    after l.bytes.items (each_found (bits_found 8) (items_view (drop l.item-index l.items))) ≡ each_found (bits_found 8) (items_view l.items)
