use Rattle.vortex_ipc.proofs.Outcomes as outcomes
use Rattle.vortex_ipc.proofs.laws.some_outcome.Goals as goal

pub returns : goal.returns
returns c = outcomes.some_outcome
