use Rattle.vortex_time.proofs.Written.{written_back}
use Rattle.vortex_time.proofs.laws.written_metadata_is_read.Goals as goal

pub returns : goal.returns
returns c = written_back
