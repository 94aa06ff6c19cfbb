use Rattle.vortex_wire.proofs.Reading.{ReadsOn}
use Rattle.vortex_wire.proofs.varint.varint_at.Given as goal

abbrev pub invariant-loop-index : goal.invariant-loop-index
invariant-loop-index l = ReadsOn l.bytes l.index l.value l.scale
