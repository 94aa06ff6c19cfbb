use Rattle.vortex_time.proofs.Ranges.{epoch_is}
use Rattle.vortex_time.proofs.moments.epoch.Goals as goal

pub returns : goal.returns
returns c = epoch_is c.constant.result c.constant.ensures
