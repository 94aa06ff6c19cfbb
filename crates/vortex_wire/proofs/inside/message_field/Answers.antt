use Rattle.vortex_wire.proofs.BytesFound.{one_begins}
use Rattle.vortex_wire.proofs.inside.message_field.Goals as goal

pub loop-bytes-init : goal.loop-bytes-init
loop-bytes-init c = rw c.new-fields.ensures (one_begins c.args.number c.args.b.now)
