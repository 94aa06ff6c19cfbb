use Rattle.vortex_ipc.proofs.Steps.{early_length, early_nothing}
use Rattle.vortex_ipc.proofs.decoder.take_front.Goals as goal

pub returns-in-Ok-clause-stopped : goal.returns-in-Ok-clause-stopped
returns-in-Ok-clause-stopped c =
    early_nothing c.take_header.result c.args.begun c.args.bytes.now c.in-Ok.prefix.bytes c.take.new.self c.take_header.new.bytes c.in-Nothing.is c.in-Ok.ensures.parts c.take_header.ensures.stopped

pub returns-in-Length-clause-stopped : goal.returns-in-Length-clause-stopped
returns-in-Length-clause-stopped c =
    early_length c.take_header-in-Length.result c.args.begun c.args.bytes.now c.take_header-in-Length.new.bytes c.in-Length.prefix c.in-Length.is c.take_header-in-Length.ensures.stopped
