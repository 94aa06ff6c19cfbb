use Rattle.std.proofs.Common.{refl}
use Rattle.vortex_wire.specs.Varint.{varint, groups_of}
use Rattle.vortex_wire.specs.Field.{varint_field, bytes_field}
use Rattle.vortex_scalar_value.proofs.laws.small_values_are_written.Goals as goal

pub returns-clause-null : goal.returns-clause-null
unfolding bytes_field varint_field varint groups_of
returns-clause-null c = refl

pub returns-clause-truth : goal.returns-clause-truth
unfolding bytes_field varint_field varint groups_of
returns-clause-truth c = refl

pub returns-clause-signed : goal.returns-clause-signed
unfolding bytes_field varint_field varint groups_of
returns-clause-signed c = refl

pub returns-clause-unsigned : goal.returns-clause-unsigned
unfolding bytes_field varint_field varint groups_of
returns-clause-unsigned c = refl

pub returns-clause-text : goal.returns-clause-text
unfolding bytes_field varint_field varint groups_of
returns-clause-text c = refl

pub returns-clause-bytes : goal.returns-clause-bytes
unfolding bytes_field varint_field varint groups_of
returns-clause-bytes c = refl

pub returns-clause-lists : goal.returns-clause-lists
unfolding bytes_field varint_field varint groups_of
returns-clause-lists c = refl
