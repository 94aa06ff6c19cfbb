use Rattle.std.proofs.Common.{◌≡◌, map, take}
use Rattle.vortex_array_plain.specs.PlainValues.{number_in}
use Rattle.vortex_array_plain.proofs.plain_leaves.natives.Given as goal

abbrev pub invariant-loop-value : goal.invariant-loop-value
invariant-loop-value g l = map g.T.WholeNumber.number l.out.items ≡ map number_in (take l.value-index l.values)
