use Rattle.vortex_mask.proofs.Places.{bit_at_place}
use Rattle.vortex_mask.proofs.bits.bit_at.Goals as goal

pub returns : goal.returns
returns c = bit_at_place c.args.bytes.now c.args.place c.requires
