use Rattle.std.proofs.Common.{◌≡◌, take}
use Rattle.std.specs.List.{flat_map}
use Rattle.vortex_array_plain.specs.PlainValues.{values_in}
use Rattle.vortex_array_plain.proofs.plain_values.all_inside.Given as goal

abbrev pub invariant-loop-value : goal.invariant-loop-value
invariant-loop-value l = l.out.items ≡ flat_map values_in (take l.value-index l.values)
