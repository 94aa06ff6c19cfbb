use Rattle.std.proofs.Common.{◌*◌, map, take}
use Rattle.std.specs.Prelude.{codes}
use Rattle.std.specs.Fmt.{HasWritten, IsPlainFormatter}
use Rattle.vortex_scalar_value.specs.Value.{values_from}
use Rattle.vortex_scalar_value.specs.ValueWeight.{value_weight, values_weight}
use Rattle.vortex_scalar_value.specs.Joined.{joined}
use Rattle.vortex_scalar_value.specs.ValueText.{value_text}
use Rattle.vortex_scalar_value.proofs.display.+printing.Given as goal

abbrev pub decreases-write_value : goal.decreases-write_value
decreases-write_value g l = value_weight l.value.now

abbrev pub decreases-write_list : goal.decreases-write_list
decreases-write_list g l = values_weight (values_from l.values.now)

abbrev pub invariant-write_list-loop-i : goal.invariant-write_list-loop-i
invariant-write_list-loop-i g l =
    IsPlainFormatter l.initial.f → HasWritten g.W.Write.write_str_gives l.initial.f (joined (codes ",") (take l.i (map value_text l.values))) l.f
