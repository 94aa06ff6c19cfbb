use Rattle.std.proofs.Common.{refl}
use Rattle.vortex_flat.specs.Numbers.{number}
use Rattle.vortex_flat.specs.Table.{table_at, field_in}
use Rattle.vortex_flat.specs.Targets.{vector_at}
use Rattle.vortex_stream.specs.Header.{content_at, header_of, message_table_of}
use Rattle.vortex_ipc_check.proofs.laws.headers_are_worked.Goals as goal

pub returns-clause-buffer : goal.returns-clause-buffer
unfolding header_of message_table_of content_at vector_at field_in table_at number
returns-clause-buffer c = refl

pub returns-clause-dtype : goal.returns-clause-dtype
unfolding header_of message_table_of content_at vector_at field_in table_at number
returns-clause-dtype c = refl

pub returns-clause-array : goal.returns-clause-array
unfolding header_of message_table_of content_at vector_at field_in table_at number
returns-clause-array c = refl

pub returns-clause-version : goal.returns-clause-version
unfolding header_of message_table_of content_at vector_at field_in table_at number
returns-clause-version c = refl

pub returns-clause-no_kind : goal.returns-clause-no_kind
unfolding header_of message_table_of content_at vector_at field_in table_at number
returns-clause-no_kind c = refl

pub returns-clause-other_kind : goal.returns-clause-other_kind
unfolding header_of message_table_of content_at vector_at field_in table_at number
returns-clause-other_kind c = refl
