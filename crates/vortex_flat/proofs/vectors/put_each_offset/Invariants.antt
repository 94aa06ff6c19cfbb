use Rattle.std.proofs.Common.{◌≡◌, ◌++◌, drop}
use Rattle.vortex_flat.specs.Layout.{offsets_of}
use Rattle.vortex_flat.specs.Item.{trees_from}
use Rattle.vortex_flat.proofs.TreesLemmas.{TreesLeft}
use Rattle.vortex_flat.proofs.vectors.put_each_offset.Given as goal

abbrev pub invariant-loop-item : goal.invariant-loop-item
invariant-loop-item l = record {
  left : TreesLeft (trees_from (drop l.item-index l.items)) l.place l.target;
  laid : l.out.items ++ offsets_of (trees_from (drop l.item-index l.items)) l.place l.target ≡ l.initial.out.items ++ offsets_of (trees_from l.items) 4 l.fn.behind;
}
