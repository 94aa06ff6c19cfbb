use Rattle.vortex_mask.proofs.Places.{byte_at_place}
use Rattle.vortex_mask.proofs.bits.byte_at.Goals as goal

pub returns : goal.returns
returns c = byte_at_place c.args.bytes.now c.args.place c.args.count c.byte_or_zero-low.result c.byte_or_zero-high.result c.type_inv.bytes c.requires c.byte_or_zero-low.ensures c.byte_or_zero-high.ensures
