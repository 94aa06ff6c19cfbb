use Rattle.std.proofs.Common.{◌≡◌, map, take}
use Rattle.vortex_array_plain.specs.PlainValues.{filled}
use Rattle.vortex_array_plain.proofs.plain_values.filled.Given as goal

abbrev pub invariant-loop-value : goal.invariant-loop-value
invariant-loop-value l = l.out.items ≡ map (filled l.other) (take l.value-index l.values)
