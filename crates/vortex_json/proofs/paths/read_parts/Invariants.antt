use Rattle.std.proofs.Common.{◌≡◌, drop}
use Rattle.serde_json.specs.View.{items_view}
use Rattle.vortex_dtype.specs.Paths.{parts_of}
use Rattle.vortex_json.specs.Found.{each_found, part_found}
use Rattle.vortex_json.proofs.Found.{after}
use Rattle.vortex_json.proofs.paths.read_parts.Given as goal

abbrev pub invariant-loop-item : goal.invariant-loop-item
invariant-loop-item l =
    after (parts_of l.fields.items) (each_found part_found (items_view (drop l.item-index l.items))) ≡ each_found part_found (items_view l.items)
