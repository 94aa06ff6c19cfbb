use Rattle.std.proofs.Common.{◌≡◌, take}
use Rattle.vortex_mask.proofs.mask.Mask.from_bools.Given as goal

abbrev pub invariant-loop-value : goal.invariant-loop-value
invariant-loop-value l = l.builder ≡ take l.value-index l.values
