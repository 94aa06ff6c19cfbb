use Rattle.vortex_scalar_value.proofs.Standing.{found_exactly, none_exactly}
use Rattle.vortex_scalar_value.proofs.laws.found_values_stand.Goals as goal

pub returns-clause-found : goal.returns-clause-found
returns-clause-found c = found_exactly

pub returns-clause-refused : goal.returns-clause-refused
returns-clause-refused c = none_exactly
