use Rattle.std.proofs.Common.{refl}
use Rattle.vortex_flat.specs.Numbers.{number}
use Rattle.vortex_flat.specs.Table.{field_in, table_at}
use Rattle.vortex_flat.specs.Targets.{vector_at}
use Rattle.vortex_flat_check.proofs.laws.a_buffer_is_worked.Goals as goal

pub returns-clause-root : goal.returns-clause-root
unfolding vector_at field_in table_at number
returns-clause-root c = refl

pub returns-clause-byte : goal.returns-clause-byte
unfolding vector_at field_in table_at number
returns-clause-byte c = refl

pub returns-clause-signed : goal.returns-clause-signed
unfolding vector_at field_in table_at number
returns-clause-signed c = refl

pub returns-clause-short : goal.returns-clause-short
unfolding vector_at field_in table_at number
returns-clause-short c = refl

pub returns-clause-bytes : goal.returns-clause-bytes
unfolding vector_at field_in table_at number
returns-clause-bytes c = refl

pub returns-clause-absent : goal.returns-clause-absent
unfolding vector_at field_in table_at number
returns-clause-absent c = refl

pub returns-clause-behind : goal.returns-clause-behind
unfolding vector_at field_in table_at number
returns-clause-behind c = refl

pub returns-clause-past_the_table : goal.returns-clause-past_the_table
unfolding vector_at field_in table_at number
returns-clause-past_the_table c = refl

pub returns-clause-cut_off : goal.returns-clause-cut_off
unfolding vector_at field_in table_at number
returns-clause-cut_off c = refl

pub returns-clause-no_table : goal.returns-clause-no_table
unfolding vector_at field_in table_at number
returns-clause-no_table c = refl
