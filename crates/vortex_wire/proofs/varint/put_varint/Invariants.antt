use Rattle.vortex_wire.proofs.Writing.{WritesOn}
use Rattle.vortex_wire.proofs.varint.put_varint.Given as goal

abbrev pub invariant-loop-left : goal.invariant-loop-left
invariant-loop-left l = WritesOn l.v l.buffer l.len l.left

abbrev pub decreases-loop-left : goal.decreases-loop-left
decreases-loop-left l = l.left
