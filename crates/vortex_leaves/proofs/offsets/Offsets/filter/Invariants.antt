use Rattle.vortex_leaves.proofs.Joined.{AreFilteredAt}
use Rattle.vortex_leaves.proofs.offsets.Offsets.filter.Given as goal

abbrev pub invariant-loop-i : goal.invariant-loop-i
invariant-loop-i l = AreFilteredAt l.self l.mask l.i l.offsets l.end
