use Rattle.std.proofs.Common.{◌≡◌, ◌∙◌, sym, arith}
use Rattle.vortex_mask.specs.Bits.{truths_in}
use Rattle.vortex_mask.specs.Truths.{both}
use Rattle.vortex_mask.proofs.Ands.{both_more, length-both}
use Rattle.vortex_mask.proofs.Unpacks.{unpacked_from, enough}
use Rattle.vortex_mask.proofs.mask.Mask.and_bits.Goals as goal

pub loop-index-preserved : goal.loop-index-preserved
loop-index-preserved c = both_more c.args.self.now c.args.other.now c.loop-index.index c.byte.result c.byte-in-loop-index.result c.loop-index.bytes.items c.push.new.self.items c.loop-index.invariant c.byte.ensures c.byte-in-loop-index.ensures c.in_ok-push.ensures.items

pub from_vec-requires : goal.from_vec-requires
from_vec-requires c = enough (both c.args.self.now c.args.other.now) c.loop-index.index c.len-len.result c.loop-index.bytes.items c.loop-index.invariant (omega arith)

pub returns : goal.returns
returns c =
    let e : truths_in c.len-len.result c.loop-index.bytes.items ≡ both c.args.self.now c.args.other.now = unpacked_from (both c.args.self.now c.args.other.now) c.loop-index.index c.len-len.result c.loop-index.bytes.items c.loop-index.invariant (c.len-len.ensures ∙ sym (length-both c.args.self.now c.args.other.now c.requires.same_len)) (omega arith) in
    rw (← e) c.from_vec.ensures
