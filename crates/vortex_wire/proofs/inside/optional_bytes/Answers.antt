use Rattle.vortex_wire.proofs.BytesFound.{bytes_begin}
use Rattle.vortex_wire.proofs.inside.optional_bytes.Goals as goal

pub loop-bytes-init : goal.loop-bytes-init
loop-bytes-init c = rw c.new-fields.ensures (bytes_begin c.args.number c.args.b.now)
