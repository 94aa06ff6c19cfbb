use Rattle.vortex_leaves.proofs.Rising.{held_count}
use Rattle.vortex_leaves.proofs.offsets.Offsets.len.Goals as goal

pub returns : goal.returns
returns c = held_count c.self.inside.len c.self.inside.bytes c.args.self.now c.self.view_is
