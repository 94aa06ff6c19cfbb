use Rattle.vortex_flat.proofs.Finished.{again}
use Rattle.vortex_flat.proofs.finish.read_again.Goals as goal

pub returns : goal.returns
returns c = λ t b is_table range e. again t b is_table range e
