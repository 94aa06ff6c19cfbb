use Rattle.vortex_body.proofs.Found.{node_found}
use Rattle.vortex_body.proofs.laws.found_nodes_stand.Goals as goal

pub returns-clause-stands : goal.returns-clause-stands
returns-clause-stands c = λ b buffers levels left p f e. (node_found b buffers levels left p f e).stands

pub returns-clause-levels : goal.returns-clause-levels
returns-clause-levels c = λ b buffers levels left p f e. (node_found b buffers levels left p f e).few_levels

pub returns-clause-rest : goal.returns-clause-rest
returns-clause-rest c = λ b buffers levels left p f e. (node_found b buffers levels left p f e).taken
