use Rattle.vortex_number.specs.Format as F
use Rattle.vortex_leaves.proofs.Pieces.{push_holds, push_more}
use Rattle.vortex_leaves.proofs.offsets_builder.OffsetsBuilder.push.Goals as goal

pub invariant_of-self-2 : goal.invariant_of-self-2
unfolding F.le_bytes
invariant_of-self-2 c =
    push_holds c.self.inside.len c.self.inside.bytes.items c.extend_from_slice.new.self.items c.to_le_bytes.result
    c.args.self.now c.args.offset c.self.view_is c.self.invariant c.requires.rise c.to_le_bytes.ensures c.ranges.offset.fits
    c.in_ok-extend_from_slice.ensures.items

pub returns-clause-pushed : goal.returns-clause-pushed
unfolding F.le_bytes
returns-clause-pushed c =
    push_more c.self.inside.len c.self.inside.bytes.items c.extend_from_slice.new.self.items c.to_le_bytes.result
    c.args.self.now c.args.offset c.self.view_is c.self.invariant c.to_le_bytes.ensures c.ranges.offset.fits
    c.in_ok-extend_from_slice.ensures.items
