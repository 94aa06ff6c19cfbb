use Rattle.std.proofs.Common.{◌≡◌, take}
use Rattle.vortex_mask.specs.Truths.{places_from}
use Rattle.vortex_mask.proofs.mask.Mask.indices.Given as goal

abbrev pub invariant-loop-place : goal.invariant-loop-place
invariant-loop-place l = l.places.items ≡ places_from 0 (take l.place l.self)
