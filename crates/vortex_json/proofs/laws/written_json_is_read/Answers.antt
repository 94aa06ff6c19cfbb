use Rattle.vortex_json.proofs.Again.{dtype_again, ptype_again, part_again, path_again}
use Rattle.vortex_json.proofs.laws.written_json_is_read.Goals as goal

pub returns-clause-dtype : goal.returns-clause-dtype
returns-clause-dtype c = dtype_again

pub returns-clause-ptype : goal.returns-clause-ptype
returns-clause-ptype c = ptype_again

pub returns-clause-field : goal.returns-clause-field
returns-clause-field c = part_again

pub returns-clause-path : goal.returns-clause-path
returns-clause-path c = path_again
