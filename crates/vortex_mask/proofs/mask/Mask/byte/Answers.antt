use Rattle.std.proofs.Common.{◌≡◌, ◌+◌, ◌*◌, ℕ, List, take, drop, ap, ◌∙◌, arith}
use Rattle.std.specs.List.{flat_map}
use Rattle.vortex_mask.specs.Bits.{bits_of_byte}
use Rattle.vortex_mask.specs.Truths.{number_of}
use Rattle.vortex_mask.proofs.Arms.{all_seen, bits_seen, seen_length, byte_of_all, byte_of_bits}
use Rattle.vortex_mask.proofs.mask.Mask.byte.Goals as goal

pub returns-in-All : goal.returns-in-All
returns-in-All c =
    c.same_byte.ensures ∙ byte_of_all c.self.inside.len _ c.min-width.result c.len-len.result c.in-All.value c.args.self.now (all_seen c.self.inside.content c.self.inside.len c.in-All.value c.args.self.now c.self.view_is c.in-All.is) (c.len-len.ensures ∙ seen_length c.self.inside.content c.self.inside.len c.args.self.now c.self.invariant c.self.view_is) c.min-width.ensures

pub returns-in-Bits : goal.returns-in-Bits
returns-in-Bits c =
    let l : c.len-len.result ≡ c.self.inside.len = c.len-len.ensures ∙ seen_length c.self.inside.content c.self.inside.len c.args.self.now c.self.invariant c.self.view_is in
    c.byte_at.ensures
    ∙ ap (λ (bytes : List ℕ). number_of (take c.min-width.result (drop (c.in-Bits.from + 8 * c.args.index) (flat_map bits_of_byte bytes)))) c.as_slice.ensures
    ∙ byte_of_bits c.self.inside.len (8 * c.args.index) c.min-width.result c.len-len.result c.in-Bits.from c.in-Bits.bytes c.args.self.now (bits_seen c.self.inside.content c.self.inside.len c.in-Bits.bytes c.in-Bits.from c.args.self.now c.self.view_is c.in-Bits.is) l (omega arith) c.min-width.ensures
