use Rattle.vortex_body.proofs.Bodies.{found_exactly, none_exactly}
use Rattle.vortex_body.proofs.laws.bodies_are_found.Goals as goal

pub returns-clause-found : goal.returns-clause-found
returns-clause-found c = found_exactly

pub returns-clause-refused : goal.returns-clause-refused
returns-clause-refused c = none_exactly
