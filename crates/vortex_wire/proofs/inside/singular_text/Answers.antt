use Rattle.vortex_wire.proofs.BytesFound.{text_begins}
use Rattle.vortex_wire.proofs.inside.singular_text.Goals as goal

pub loop-text-init : goal.loop-text-init
loop-text-init c = rw c.new-fields.ensures (text_begins c.args.number c.args.b.now)
