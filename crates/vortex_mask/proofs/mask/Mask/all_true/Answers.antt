use Rattle.vortex_mask.proofs.Counts.{all_counted}
use Rattle.vortex_mask.proofs.mask.Mask.all_true.Goals as goal

pub returns : goal.returns
returns c = rw (c.true_count.ensures, c.len.ensures) (all_counted c.args.self.now)
