use Rattle.std.proofs.Common.{◌≡◌, take}
use Rattle.vortex_mask.specs.Truths.{kept}
use Rattle.vortex_mask.proofs.mask.Mask.filter_bits.Given as goal

abbrev pub invariant-loop-place : goal.invariant-loop-place
invariant-loop-place l = l.builder ≡ kept (take l.place l.keep) (take l.place l.self)
