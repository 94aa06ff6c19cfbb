use Rattle.vortex_select.proofs.Complete as complete
use Rattle.vortex_select.proofs.laws.one_meaning.Goals as goal

pub returns : goal.returns
returns c = λ bytes t u a b h k. complete.one_meaning bytes t u a b h k
