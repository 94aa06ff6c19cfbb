use Rattle.std.proofs.Common.{refl, sym, ◌∙◌}
use Rattle.vortex_codes.proofs.SlotLemmas.{passed_more}
use Rattle.vortex_codes.proofs.slots.scan.Goals as goal

pub loop-pos-preserved : goal.loop-pos-preserved
loop-pos-preserved g c = passed_more _ _ _ _ _ c.loop-pos.invariant refl c.if-slot-eq0.false (sym c.is.ensures ∙ c.if-is.false)
