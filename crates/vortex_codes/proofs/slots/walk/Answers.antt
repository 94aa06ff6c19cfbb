use Rattle.vortex_codes.proofs.SlotLemmas.{passed_all}
use Rattle.vortex_codes.proofs.slots.walk.Goals as goal

pub returns-else-at-start-clause-walked : goal.returns-else-at-start-clause-walked
returns-else-at-start-clause-walked g c = passed_all _ _ _ _ _ c.if-at-end.false c.if-at-start.false c.scan-at.ensures.passed c.scan-at-2.ensures.passed
