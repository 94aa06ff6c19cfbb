use Rattle.std.proofs.Common.{◌≤◌, ◌*◌, ◌+◌, take}
use Rattle.vortex_scalar_value.specs.Value.{values_levels, values_from}
use Rattle.vortex_scalar_value.proofs.writing.+nesting.Given as goal

abbrev pub decreases-nests_within : goal.decreases-nests_within
decreases-nests_within l = 2 * l.levels

abbrev pub decreases-all_nest_within : goal.decreases-all_nest_within
decreases-all_nest_within l = 2 * l.levels + 1

abbrev pub invariant-all_nest_within-loop-value : goal.invariant-all_nest_within-loop-value
invariant-all_nest_within-loop-value l = values_levels (values_from (take l.value-index l.values)) ≤ l.levels
