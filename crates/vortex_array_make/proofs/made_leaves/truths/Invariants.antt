use Rattle.std.proofs.Common.{◌≡◌, take}
use Rattle.vortex_array_make.proofs.made_leaves.truths.Given as goal

abbrev pub invariant-loop-value : goal.invariant-loop-value
invariant-loop-value l = l.mask ≡ take l.value-index l.values
