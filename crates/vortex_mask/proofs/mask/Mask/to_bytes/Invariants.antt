use Rattle.std.proofs.Common.{◌≡◌, map}
use Rattle.std.specs.Simd.{first_chunks}
use Rattle.vortex_mask.specs.Truths.{number_of}
use Rattle.vortex_mask.proofs.mask.Mask.to_bytes.Given as goal

abbrev pub invariant-loop-index : goal.invariant-loop-index
invariant-loop-index l = l.bytes.items ≡ map number_of (first_chunks 8 l.index l.self)
