use Rattle.vortex_schema.proofs.InPlace.{one_in}
use Rattle.vortex_schema.proofs.OneType.{one_type}
use Rattle.vortex_schema.proofs.laws.one_type_stands.Goals as goal

pub returns-clause-place : goal.returns-clause-place
returns-clause-place c = one_type

pub returns-clause-root : goal.returns-clause-root
returns-clause-root c = one_in
