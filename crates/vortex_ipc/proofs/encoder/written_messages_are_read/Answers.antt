use Rattle.vortex_ipc.proofs.Messages.{read_as}
use Rattle.vortex_ipc.proofs.encoder.written_messages_are_read.Goals as goal

pub returns : goal.returns
returns c = read_as
