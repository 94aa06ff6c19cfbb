use lib.Utf8.{encode}
use Rattle.std.specs.Prelude.{refl}
use Rattle.std.specs.Str.{is_utf8, chars}
use Rattle.vortex_node_rows.specs.Buffers.{offsets_in, one_buffer, two_buffers}
use Rattle.vortex_node_rows.specs.Leaves.{constant_rows, decimals_of, numbers_of, pieces_of, truths_of}
use Rattle.vortex_node_rows.specs.RowsOf.{encoded_rows, mask_in, masked_rows, null_rows, rows_of, text_rows}
use Rattle.vortex_number.specs.Format.{number_of_le_bytes}
use Rattle.vortex_scalar_value.specs.Reading.{member_in, value_in, value_of_message}
use Rattle.vortex_terms.specs.Row.{copies}
use Rattle.vortex_wire.specs.Field.{bytes_at, content_at, field_at, fields_in, fields_of}
use Rattle.vortex_wire.specs.Message.{last_varint, only_field, singular_u32, singular_varint}
use Rattle.vortex_wire.specs.Metadata.{decimal_metadata_of, list_metadata_of}
use Rattle.vortex_wire.specs.Varint.{groups_at, varint_at}
use Rattle.vortex_node_rows.proofs.worked.rows_are_worked.Goals as goal

pub returns-clause-truths : goal.returns-clause-truths
unfolding rows_of encoded_rows masked_rows mask_in one_buffer truths_of
returns-clause-truths c = (refl, refl)

pub returns-clause-truth_bytes : goal.returns-clause-truth_bytes
unfolding rows_of encoded_rows masked_rows mask_in one_buffer truths_of
returns-clause-truth_bytes c = (refl, refl)

pub returns-clause-numbers : goal.returns-clause-numbers
unfolding rows_of encoded_rows masked_rows mask_in one_buffer numbers_of number_of_le_bytes
returns-clause-numbers c = (refl, refl)

pub returns-clause-number_bytes : goal.returns-clause-number_bytes
unfolding rows_of encoded_rows masked_rows mask_in one_buffer numbers_of number_of_le_bytes
returns-clause-number_bytes c = (refl, refl)

pub returns-clause-decimals : goal.returns-clause-decimals
unfolding rows_of encoded_rows masked_rows mask_in one_buffer decimals_of numbers_of number_of_le_bytes list_metadata_of decimal_metadata_of singular_u32 singular_varint last_varint fields_of fields_in field_at content_at varint_at groups_at bytes_at
returns-clause-decimals c = (refl, refl, refl, refl)

pub returns-clause-pieces : goal.returns-clause-pieces
unfolding is_utf8 chars encode rows_of encoded_rows masked_rows mask_in one_buffer text_rows pieces_of two_buffers offsets_in number_of_le_bytes
returns-clause-pieces c = (refl, refl, refl)

pub returns-clause-texts : goal.returns-clause-texts
unfolding is_utf8 chars encode rows_of encoded_rows masked_rows mask_in one_buffer text_rows pieces_of two_buffers offsets_in truths_of number_of_le_bytes
returns-clause-texts c = (refl, refl, refl, refl)

pub returns-clause-constants : goal.returns-clause-constants
unfolding rows_of encoded_rows masked_rows mask_in one_buffer constant_rows copies value_in value_of_message member_in only_field fields_of fields_in field_at content_at varint_at groups_at bytes_at
returns-clause-constants c = (refl, refl, refl, refl, refl)

pub returns-clause-nulls : goal.returns-clause-nulls
unfolding rows_of encoded_rows null_rows copies
returns-clause-nulls c = (refl, refl, refl, refl)
