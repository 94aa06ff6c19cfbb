use Rattle.vortex_codes.specs.Slots.{Passed}
use Rattle.vortex_codes.proofs.slots.scan.Given as goal

abbrev pub invariant-loop-pos : goal.invariant-loop-pos
invariant-loop-pos g l = Passed (g.S.Sought.finds l.sought) l.slots l.from l.pos
