use Rattle.vortex_proto.specs.TypeBytes.{type_bytes}
use Rattle.vortex_proto.proofs.OneType.{one_type}
use Rattle.vortex_proto.proofs.TypeAgain.{bounded_again, bounded_fits}
use Rattle.vortex_proto.proofs.written.written_types_stand.Goals as goal

pub returns-clause-stands : goal.returns-clause-stands
returns-clause-stands c = bounded_again

pub returns-clause-alone : goal.returns-clause-alone
returns-clause-alone c = λ t u bounded told. one_type u t (type_bytes t) told (bounded_again t bounded)

pub returns-clause-short : goal.returns-clause-short
returns-clause-short c = bounded_fits
