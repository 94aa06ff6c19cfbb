use Rattle.vortex_schema.proofs.InPlace.{bounded_exactly, bounded_in_exactly, none_exactly}
use Rattle.vortex_schema.proofs.laws.bounded_types_are_found.Goals as goal

pub returns-clause-found : goal.returns-clause-found
returns-clause-found c = bounded_exactly

pub returns-clause-refused : goal.returns-clause-refused
returns-clause-refused c = none_exactly

pub returns-clause-root : goal.returns-clause-root
returns-clause-root c = bounded_in_exactly
