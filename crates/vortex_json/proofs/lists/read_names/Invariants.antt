use Rattle.std.proofs.Common.{◌≡◌, drop}
use Rattle.serde_json.specs.Find.{as_str}
use Rattle.serde_json.specs.View.{items_view}
use Rattle.vortex_json.specs.Found.{each_found}
use Rattle.vortex_json.proofs.Found.{after}
use Rattle.vortex_json.proofs.lists.read_names.Given as goal

abbrev pub invariant-loop-item : goal.invariant-loop-item
invariant-loop-item l =
    after l.names.items (each_found as_str (items_view (drop l.item-index l.items))) ≡ each_found as_str (items_view l.items)
