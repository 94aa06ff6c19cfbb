use Rattle.std.proofs.Common.{◌≤◌, take}
use Rattle.vortex_node_rows.specs.RowsOf.{most_rows}
use Rattle.vortex_leaves.proofs.Joined.{AreJoinedAt}
use Rattle.vortex_array_plain.proofs.plain_leaves.offsets_of.Given as goal

abbrev pub invariant-loop-size : goal.invariant-loop-size
invariant-loop-size l = record {
  joined : AreJoinedAt (λ n. n) (take l.size-index l.sizes) l.offsets l.end;
  few : l.end ≤ most_rows;
}
