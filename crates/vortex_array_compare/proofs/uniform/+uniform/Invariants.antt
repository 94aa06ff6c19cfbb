use Rattle.std.proofs.Common.{◌≤◌, ◌+◌, ◌*◌, length}
use Rattle.vortex_array_data.specs.ArrayNode.{array_node_count}
use Rattle.vortex_array_compare.specs.inner.AlikeRows.{AllAlike}
use Rattle.vortex_array_data.proofs.HeldValues.{columns_count}
use Rattle.vortex_array_compare.proofs.uniform.+uniform.Given as goal

abbrev pub decreases-is_uniform : goal.decreases-is_uniform
decreases-is_uniform l = 2 * array_node_count l.array.now.node

abbrev pub decreases-are_uniform : goal.decreases-are_uniform
decreases-are_uniform l = 2 * columns_count l.fields.now + 1

-- where the rest is, all are
abbrev pub invariant-are_uniform-loop-rest : goal.invariant-are_uniform-loop-rest
invariant-are_uniform-loop-rest l = record {
  all : AllAlike l.rest → AllAlike l.fields;
  fewer : columns_count l.rest ≤ columns_count l.fields;
}

abbrev pub decreases-are_uniform-loop-rest : goal.decreases-are_uniform-loop-rest
decreases-are_uniform-loop-rest l = length l.rest
