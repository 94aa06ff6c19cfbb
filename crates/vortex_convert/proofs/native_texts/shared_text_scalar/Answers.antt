use Rattle.std.proofs.Common.{refl, subst, false}
use Rattle.std.specs.Str.{IsUtf8}
use Rattle.vortex_terms.specs.Term.{utf8}
use Rattle.vortex_terms.specs.Row.{bytes_row}
use Rattle.vortex_scalar_value.specs.Value.{text_value}
use Rattle.vortex_scalar.proofs.Rows.{fits_as, made_as}
use Rattle.vortex_convert.proofs.native_texts.shared_text_scalar.Goals as goal

pub new-requires : goal.new-requires
new-requires c =
    let bytes = c.args.text.bytes in
    fits_as (utf8 false) c.from_buffer_string-value.result (text_value bytes) (bytes_row bytes)
    c.from_buffer_string-value.ensures refl (subst IsUtf8 c.as_str.ensures c.as_str.utf8)

pub returns : goal.returns
returns c =
    let bytes = c.args.text.bytes in
    made_as (utf8 false) c.from_buffer_string-value.result (text_value bytes) (bytes_row bytes) c.new.result
    c.from_buffer_string-value.ensures refl (subst IsUtf8 c.as_str.ensures c.as_str.utf8) c.new.ensures
