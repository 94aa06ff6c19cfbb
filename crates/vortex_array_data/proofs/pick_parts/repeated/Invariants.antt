use Rattle.std.proofs.Common.{◌≡◌, ◌++◌, replicate}
use Rattle.vortex_array_data.proofs.pick_parts.repeated.Given as goal

abbrev pub invariant-loop-i : goal.invariant-loop-i
invariant-loop-i l = l.out ≡ l.fn.given ++ replicate l.i l.value
