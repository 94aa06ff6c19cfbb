use Rattle.std.proofs.Common.{◌≡◌, ◌≤◌, ◌+◌, ◌*◌, length}
use Rattle.vortex_array_data.specs.ArrayNode.{array_node_count}
use Rattle.vortex_array_data.specs.inner.Picked.{are_plain_columns}
use Rattle.vortex_array_data.proofs.HeldValues.{columns_count}
use Rattle.vortex_array_canonical.proofs.canonical_parts.+constant.Given as goal

abbrev pub decreases-has_constant : goal.decreases-has_constant
decreases-has_constant l = 2 * array_node_count l.array.now.node

abbrev pub decreases-any_constant : goal.decreases-any_constant
decreases-any_constant l = 2 * columns_count l.fields.now + 1

-- the rest tells of all
abbrev pub invariant-any_constant-loop-rest : goal.invariant-any_constant-loop-rest
invariant-any_constant-loop-rest l = record {
  same : are_plain_columns l.rest ≡ are_plain_columns l.fields;
  fewer : columns_count l.rest ≤ columns_count l.fields;
}

abbrev pub decreases-any_constant-loop-rest : goal.decreases-any_constant-loop-rest
decreases-any_constant-loop-rest l = length l.rest
