use Rattle.std.proofs.Common.{◌∙◌, arith}
use Rattle.vortex_mask.proofs.Packs.{packed_more, packed_all}
use Rattle.vortex_mask.proofs.mask.Mask.to_bytes.Goals as goal

pub loop-index-preserved : goal.loop-index-preserved
loop-index-preserved c = c.in_ok-push.ensures.items ∙ packed_more c.args.self.now c.loop-index.index c.byte.result c.loop-index.bytes.items c.loop-index.invariant c.byte.ensures

pub returns : goal.returns
returns c = packed_all c.args.self.now c.loop-index.index c.len.result c.loop-index.bytes.items c.loop-index.invariant c.len.ensures (omega arith)
