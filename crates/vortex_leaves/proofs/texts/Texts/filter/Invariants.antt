use Rattle.vortex_leaves.proofs.Pieces.{AreKept}
use Rattle.vortex_leaves.proofs.texts.Texts.filter.Given as goal

abbrev pub invariant-loop-i : goal.invariant-loop-i
invariant-loop-i l = AreKept l.mask l.self.offsets l.self.bytes l.i l.offsets l.bytes.items
