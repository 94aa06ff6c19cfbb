use Rattle.std.proofs.Common.{◌≡◌, drop}
use Rattle.std.specs.Prelude.{◌&&◌}
use Rattle.vortex_terms.specs.FromColumns.{last_from}
use Rattle.vortex_node_rows.specs.Buffers.{rises_from}
use Rattle.vortex_leaves.proofs.from_values.rise_to.Given as goal

-- what is so of the offsets so far and of the rest is so of all
abbrev pub invariant-loop-offset : goal.invariant-loop-offset
invariant-loop-offset l = record {
  rise : l.ok && rises_from l.last (drop l.offset-index l.offsets) ≡ rises_from 0 l.offsets;
  last : last_from l.last (drop l.offset-index l.offsets) ≡ last_from 0 l.offsets;
}
