use Rattle.vortex_proto.proofs.OneType.{one_type}
use Rattle.vortex_proto.proofs.laws.one_type_is_told.Goals as goal

pub returns : goal.returns
returns c = one_type
