use Rattle.std.proofs.Common.{◌-◌, length}
use Rattle.vortex_scalar.proofs.PartLemmas.{Begins, all_parts}
use Rattle.vortex_scalar.proofs.views.fitting.Fitting.parts.Given as goal

abbrev pub invariant-loop-parts : goal.invariant-loop-parts
invariant-loop-parts l = Begins l.parts.items (all_parts l.self)

abbrev pub decreases-loop-parts : goal.decreases-loop-parts
decreases-loop-parts l = length (all_parts l.self) - length l.parts.items
