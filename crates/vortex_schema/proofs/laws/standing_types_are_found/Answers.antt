use Rattle.vortex_schema.proofs.Standing.{type_there}
use Rattle.vortex_schema.proofs.laws.standing_types_are_found.Goals as goal

pub returns : goal.returns
returns c = type_there
