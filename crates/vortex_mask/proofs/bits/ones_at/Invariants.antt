use Rattle.std.proofs.Common.{◌≡◌, ◌*◌, drop, take}
use Rattle.std.specs.List.{flat_map, count_by}
use Rattle.vortex_mask.specs.Bits.{bits_of_byte}
use Rattle.vortex_mask.proofs.bits.ones_at.Given as goal

abbrev pub invariant-loop-index : goal.invariant-loop-index
invariant-loop-index l =
    l.ones ≡ count_by (λ b. b) (take (8 * l.index) (take l.count (drop l.place (flat_map bits_of_byte l.bytes))))
