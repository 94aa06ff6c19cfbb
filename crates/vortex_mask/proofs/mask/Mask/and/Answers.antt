use Rattle.vortex_mask.proofs.Ands.{both_second}
use Rattle.vortex_mask.proofs.mask.Mask.and.Goals as goal

pub returns-in-Some-only : goal.returns-in-Some-only
returns-in-Some-only c = rw (← (both_second c.args.self.now c.args.other.now c.in-Some-only.every c.in-Some-only.ensures c.requires.same_len)) c.and_all-in-Some-only.ensures
