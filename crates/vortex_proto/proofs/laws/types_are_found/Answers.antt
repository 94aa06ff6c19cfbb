use Rattle.vortex_proto.proofs.Found.{type_found}
use Rattle.vortex_proto.proofs.There.{type_there}
use Rattle.vortex_proto.proofs.laws.types_are_found.Goals as goal

pub returns : goal.returns
returns c = λ t b n bytes.
    (λ e. let found = type_found n b t bytes e in (found.stands, found.legal, found.few_levels), λ h. type_there t b n h.0 h.1 h.2)
