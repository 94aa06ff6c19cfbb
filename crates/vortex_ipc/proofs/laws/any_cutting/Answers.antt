use Rattle.vortex_ipc.proofs.Outcomes.{grows, settled, one_reading}
use Rattle.vortex_ipc.proofs.RunLemmas.{same_runs}
use Rattle.vortex_ipc.proofs.laws.any_cutting.Goals as goal

pub returns-clause-settled : goal.returns-clause-settled
returns-clause-settled c = settled

pub returns-clause-grows : goal.returns-clause-grows
returns-clause-grows c = grows

pub returns-clause-messages : goal.returns-clause-messages
returns-clause-messages c = one_reading

pub returns-clause-pieces : goal.returns-clause-pieces
returns-clause-pieces c = same_runs
