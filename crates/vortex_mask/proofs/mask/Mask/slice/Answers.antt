use Rattle.std.proofs.Common.{◌≡◌, length, arith}
use Rattle.std.specs.List.{flat_map}
use Rattle.vortex_mask.specs.Bits.{bits_of_byte}
use Rattle.vortex_mask.proofs.Arms.{all_seen, bits_seen, seen_length, slice_replicated, slice_of}
use Rattle.vortex_mask.proofs.mask.Mask.slice.Goals as goal

pub returns-in-All : goal.returns-in-All
returns-in-All c =
    let l : length c.args.self.now ≡ c.self.inside.len = seen_length c.self.inside.content c.self.inside.len c.args.self.now c.self.invariant c.self.view_is in
    rw (all_seen c.self.inside.content c.self.inside.len c.in-All.value c.args.self.now c.self.view_is c.in-All.is) (slice_replicated c.self.inside.len c.args.from c.args.to c.in-All.value (omega arith))

pub returns-in_ok-clone-in-Bits : goal.returns-in_ok-clone-in-Bits
returns-in_ok-clone-in-Bits c =
    let l : length c.args.self.now ≡ c.self.inside.len = seen_length c.self.inside.content c.self.inside.len c.args.self.now c.self.invariant c.self.view_is in
    rw (c.in_ok-clone-in-Bits.ensures.cases, bits_seen c.self.inside.content c.self.inside.len c.in-Bits.bytes c.in-Bits.first c.args.self.now c.self.view_is c.in-Bits.is) (slice_of c.self.inside.len c.in-Bits.first c.args.from c.args.to (flat_map bits_of_byte c.in-Bits.bytes) c.requires.start_le_end (omega arith))
