use Rattle.vortex_ipc.proofs.Outcomes as outcomes
use Rattle.vortex_ipc.proofs.laws.one_outcome.Goals as goal

pub returns : goal.returns
returns c = outcomes.one_outcome
