use Rattle.std.proofs.Common.{◌≡◌, map, take}
use Rattle.vortex_array_plain.specs.PlainValues.{truth_in}
use Rattle.vortex_array_plain.proofs.plain_values.truth_values.Given as goal

abbrev pub invariant-loop-value : goal.invariant-loop-value
invariant-loop-value l = l.mask ≡ map truth_in (take l.value-index l.values)
