use Rattle.vortex_scalar.proofs.MessageParts.{scalar_read, one_scalar}
use Rattle.vortex_scalar.proofs.message_laws.written_scalars_are_read.Goals as goal

pub returns-clause-read : goal.returns-clause-read
returns-clause-read c = scalar_read

pub returns-clause-alone : goal.returns-clause-alone
returns-clause-alone c = one_scalar
