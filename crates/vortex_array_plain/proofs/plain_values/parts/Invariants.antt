use Rattle.std.proofs.Common.{◌≡◌, map, take}
use Rattle.vortex_array_plain.specs.PlainValues.{part_in}
use Rattle.vortex_array_plain.proofs.plain_values.parts.Given as goal

abbrev pub invariant-loop-value : goal.invariant-loop-value
invariant-loop-value l = l.out.items ≡ map (part_in l.i) (take l.value-index l.values)
