-- Which bytes are written for small types, and which paths two messages are.
use Rattle.std.proofs.Common.{◌≡◌, true, false, [], ◌∷◌, refl, pos, Some, None}
use Rattle.vortex_wire.specs.Varint.{varint_at, groups_at}
use Rattle.vortex_wire.specs.Field.{fields_of, fields_in, field_at, content_at, bytes_at}
use Rattle.vortex_wire.specs.Message.{only_field}
use Rattle.vortex_wire.specs.Inside.{repeated_field, bytes_fields, each_bytes}
use Rattle.vortex_proto.specs.PathMessage.{path_in, names_in, name_in}
use Rattle.vortex_wire.specs.Varint.{varint, groups_of}
use Rattle.vortex_wire.specs.Field.{varint_field, bytes_field}
use Rattle.vortex_terms.specs.Term.{null, primitive, decimal, fixed_size_list, structure, field, no_fields, list, extension, signed_32, unsigned_8}
use Rattle.vortex_proto.specs.TypeBytes.{type_bytes}

pub null_written : type_bytes null ≡ 10 ∷ 0 ∷ []
unfolding bytes_field varint groups_of
null_written = refl

pub whole_written : type_bytes (primitive signed_32 false) ≡ 26 ∷ 2 ∷ 8 ∷ 6 ∷ []
unfolding bytes_field varint_field varint groups_of
whole_written = refl

pub nullable_written : type_bytes (primitive unsigned_8 true) ≡ 26 ∷ 2 ∷ 16 ∷ 1 ∷ []
unfolding bytes_field varint_field varint groups_of
nullable_written = refl

pub decimal_written : type_bytes (decimal 10 (pos 2) false) ≡ 34 ∷ 4 ∷ 8 ∷ 10 ∷ 16 ∷ 2 ∷ []
unfolding bytes_field varint_field varint groups_of
decimal_written = refl

pub fixed_written : type_bytes (fixed_size_list null 3 true) ≡ 82 ∷ 8 ∷ 10 ∷ 2 ∷ 10 ∷ 0 ∷ 16 ∷ 3 ∷ 24 ∷ 1 ∷ []
unfolding bytes_field varint_field varint groups_of
fixed_written = refl

pub struct_written : type_bytes (structure (field (97 ∷ []) null no_fields) true) ≡ 58 ∷ 9 ∷ 10 ∷ 1 ∷ 97 ∷ 18 ∷ 2 ∷ 10 ∷ 0 ∷ 24 ∷ 1 ∷ []
unfolding bytes_field varint_field varint groups_of repeated_field
struct_written = refl

pub list_written : type_bytes (list null true) ≡ 66 ∷ 6 ∷ 10 ∷ 2 ∷ 10 ∷ 0 ∷ 16 ∷ 1 ∷ []
unfolding bytes_field varint_field varint groups_of
list_written = refl

pub metadata_written : type_bytes (extension (97 ∷ []) null (Some [])) ≡ 74 ∷ 9 ∷ 10 ∷ 1 ∷ 97 ∷ 18 ∷ 2 ∷ 10 ∷ 0 ∷ 26 ∷ 0 ∷ []
unfolding bytes_field varint_field varint groups_of
metadata_written = refl

pub root_read : path_in [] ≡ Some []
unfolding path_in names_in name_in only_field bytes_fields each_bytes fields_of fields_in field_at content_at bytes_at varint_at groups_at
root_read = refl

pub other_refused : path_in (10 ∷ 2 ∷ 18 ∷ 0 ∷ []) ≡ None
unfolding path_in names_in name_in only_field bytes_fields each_bytes fields_of fields_in field_at content_at bytes_at varint_at groups_at
other_refused = refl
