use Rattle.std.proofs.Common.{◌≡◌, ◌*◌, ◌+◌, ◌++◌, drop}
use Rattle.vortex_scalar_value.specs.Held.{AreHeld}
use Rattle.vortex_scalar_value.specs.Value.{values_from}
use Rattle.vortex_scalar_value.specs.ValueBytes.{values_bytes}
use Rattle.vortex_scalar_value.specs.ValueWeight.{value_weight, values_weight}
use Rattle.vortex_scalar_value.proofs.writing.+writing.Given as goal

abbrev pub decreases-put_value : goal.decreases-put_value
decreases-put_value l = 2 * value_weight l.value.now

abbrev pub decreases-put_values : goal.decreases-put_values
decreases-put_values l = 2 * values_weight (values_from l.values.now) + 1

abbrev pub invariant-put_values-loop-i : goal.invariant-put_values-loop-i
invariant-put_values-loop-i l =
    (l.out ≡ values_bytes (values_from (drop l.i l.values)) ++ l.fn.out)
    × AreHeld (values_from (drop l.i l.values))
