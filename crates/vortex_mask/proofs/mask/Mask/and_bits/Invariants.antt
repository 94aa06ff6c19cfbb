use Rattle.std.proofs.Common.{◌≡◌, map}
use Rattle.std.specs.Simd.{first_chunks}
use Rattle.vortex_mask.specs.Truths.{number_of, both}
use Rattle.vortex_mask.proofs.mask.Mask.and_bits.Given as goal

abbrev pub invariant-loop-index : goal.invariant-loop-index
invariant-loop-index l = l.bytes.items ≡ map number_of (first_chunks 8 l.index (both l.self l.other))
