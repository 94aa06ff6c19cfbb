use Rattle.std.proofs.Common.{◌≡◌, map, take}
use Rattle.vortex_array_plain.specs.PlainValues.{is_valued}
use Rattle.vortex_array_plain.proofs.plain_values.valid_values.Given as goal

abbrev pub invariant-loop-value : goal.invariant-loop-value
invariant-loop-value l = l.mask ≡ map is_valued (take l.value-index l.values)
