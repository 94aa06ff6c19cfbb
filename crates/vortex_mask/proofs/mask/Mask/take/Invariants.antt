use Rattle.std.proofs.Common.{◌≡◌, take}
use Rattle.vortex_mask.specs.Truths.{picked}
use Rattle.vortex_mask.proofs.mask.Mask.take.Given as goal

abbrev pub invariant-loop-place : goal.invariant-loop-place
invariant-loop-place l = l.builder ≡ picked (take l.place-index l.places) l.self
