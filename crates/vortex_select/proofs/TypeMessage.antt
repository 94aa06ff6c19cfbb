-- The message of the column type that is laid out.
use Rattle.std.proofs.Common.{◌≡◌, ℕ, List, [], take, drop, Some, refl}
use Rattle.vortex_flat.specs.Numbers.{number}
use Rattle.vortex_flat.specs.Table.{table_at, field_in}
use Rattle.vortex_stream.specs.Header.{type_content, message_table_of, content_at, header_of}
use Rattle.vortex_stream.specs.Stream.{IsMessage}
use Rattle.vortex_select.specs.Column.{i64_column, column_type_of}
use Rattle.vortex_select.specs.Layout.{type_message}

-- its body
abbrev pub type_body : List ℕ
type_body = drop 68 type_message

pub type_message_is : IsMessage type_message type_content type_body []
unfolding number table_at field_in message_table_of content_at header_of
type_message_is = record {
  prefix = take 4 type_message;
  header = take 64 (drop 4 type_message);
  parts = refl;
  prefix_len = refl;
  header_len = refl;
  header_is = refl;
}

pub type_body_is : column_type_of type_body ≡ Some i64_column
unfolding number table_at field_in column_type_of
type_body_is = refl
