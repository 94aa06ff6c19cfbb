use Rattle.std.proofs.Common.{◌≡◌, ◌++◌, take}
use Rattle.vortex_array_plain.proofs.plain_values.with_values.Given as goal

abbrev pub invariant-loop-value : goal.invariant-loop-value
invariant-loop-value l = l.out.items ≡ l.fn.given.items ++ take l.value-index l.values
