use Rattle.std.proofs.Common.{◌≡◌, map, take}
use Rattle.vortex_array_plain.specs.PlainValues.{decimal_in}
use Rattle.vortex_array_plain.proofs.plain_leaves.decimals_in.Given as goal

abbrev pub invariant-loop-value : goal.invariant-loop-value
invariant-loop-value l = l.out.items ≡ map decimal_in (take l.value-index l.values)
