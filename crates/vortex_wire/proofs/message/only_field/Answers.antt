use Rattle.vortex_wire.proofs.Only.{begins}
use Rattle.vortex_wire.proofs.message.only_field.Goals as goal

pub loop-field-init : goal.loop-field-init
loop-field-init c = rw c.new-fields.ensures (begins c.args.first c.args.last c.args.b.now)
