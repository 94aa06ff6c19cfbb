use Rattle.std.specs.Prelude.{refl}
use Rattle.vortex_node_rows.specs.Buffers.{offsets_in, one_buffer}
use Rattle.vortex_node_rows.specs.Leaves.{numbers_of, truths_of}
use Rattle.vortex_node_rows.specs.RowsOf.{encoded_rows, fixed_lists, mask_in, masked_rows, offset_lists, only_child, rows_of, storage_rows, structs}
use Rattle.vortex_number.specs.Format.{number_of_le_bytes}
use Rattle.vortex_wire.specs.Field.{bytes_at, content_at, field_at, fields_in, fields_of}
use Rattle.vortex_wire.specs.Message.{last_varint, singular_u32, singular_varint}
use Rattle.vortex_wire.specs.Metadata.{decimal_metadata_of, list_metadata_of}
use Rattle.vortex_wire.specs.Varint.{groups_at, varint_at}
use Rattle.vortex_node_rows.proofs.worked.nested_rows_are_worked.Goals as goal

pub returns-clause-lists : goal.returns-clause-lists
unfolding rows_of encoded_rows masked_rows mask_in one_buffer offset_lists offsets_in numbers_of number_of_le_bytes list_metadata_of decimal_metadata_of singular_u32 singular_varint last_varint fields_of fields_in field_at content_at varint_at groups_at bytes_at
returns-clause-lists c = (refl, refl, refl, refl)

pub returns-clause-fixed_lists : goal.returns-clause-fixed_lists
unfolding rows_of encoded_rows masked_rows mask_in one_buffer fixed_lists numbers_of number_of_le_bytes
returns-clause-fixed_lists c = (refl, refl, refl)

pub returns-clause-structs : goal.returns-clause-structs
unfolding rows_of encoded_rows masked_rows mask_in one_buffer structs numbers_of truths_of number_of_le_bytes
returns-clause-structs c = (refl, refl, refl)

pub returns-clause-extensions : goal.returns-clause-extensions
unfolding rows_of encoded_rows masked_rows mask_in one_buffer storage_rows only_child numbers_of number_of_le_bytes
returns-clause-extensions c = (refl, refl, refl)
