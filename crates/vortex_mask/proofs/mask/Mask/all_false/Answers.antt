use Rattle.vortex_mask.proofs.Counts.{none_counted}
use Rattle.vortex_mask.proofs.mask.Mask.all_false.Goals as goal

pub returns : goal.returns
returns c = rw c.true_count.ensures (none_counted c.args.self.now)
