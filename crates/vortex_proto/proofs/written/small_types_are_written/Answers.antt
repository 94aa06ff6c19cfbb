use Rattle.vortex_proto.proofs.SmallTypes.{null_written, whole_written, nullable_written, decimal_written, fixed_written, struct_written, list_written, metadata_written, root_read, other_refused}
use Rattle.vortex_proto.proofs.written.small_types_are_written.Goals as goal

pub returns-clause-null : goal.returns-clause-null
returns-clause-null c = null_written

pub returns-clause-whole : goal.returns-clause-whole
returns-clause-whole c = whole_written

pub returns-clause-nullable : goal.returns-clause-nullable
returns-clause-nullable c = nullable_written

pub returns-clause-decimals : goal.returns-clause-decimals
returns-clause-decimals c = decimal_written

pub returns-clause-fixed : goal.returns-clause-fixed
returns-clause-fixed c = fixed_written

pub returns-clause-structs : goal.returns-clause-structs
returns-clause-structs c = struct_written

pub returns-clause-list : goal.returns-clause-list
returns-clause-list c = list_written

pub returns-clause-metadata : goal.returns-clause-metadata
returns-clause-metadata c = metadata_written

pub returns-clause-root : goal.returns-clause-root
returns-clause-root c = root_read

pub returns-clause-other : goal.returns-clause-other
returns-clause-other c = other_refused
