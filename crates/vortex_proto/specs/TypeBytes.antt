-- What is written for a type: fields by number; zero, false and what is empty are left out, but not the members of a
-- oneof, repeated fields, or bytes that are there.
--     type_bytes      the message of a type, the one member of a oneof by kinds, which is the message body_bytes
use Rattle.std.specs.Prelude.{ℕ, List, [], ◌++◌}
use Rattle.vortex_wire.specs.Field.{bytes_field}
use Rattle.vortex_wire.specs.Message.{singular_field}
use Rattle.vortex_wire.specs.Inside.{text_field, optional_bytes_field, repeated_field, flag_field, signed_field}
use Rattle.vortex_terms.specs.Term.{Term, null, boolean, primitive, decimal, utf8, binary, structure, list, extension, fixed_size_list, Fields, no_fields, field}
use Rattle.vortex_terms.specs.TermCode.{kind_number}
use Rattle.vortex_terms.specs.Types.{names_of, type_number}
use Rattle.vortex_proto.specs.declared.schema.TheConstants.{PLAIN_NULLABLE, PRIMITIVE_PTYPE, PRIMITIVE_NULLABLE, DECIMAL_PRECISION, DECIMAL_SCALE, DECIMAL_NULLABLE, STRUCT_NAMES, STRUCT_DTYPES, STRUCT_NULLABLE, LIST_ELEMENT, LIST_NULLABLE, EXTENSION_ID, EXTENSION_STORAGE, EXTENSION_METADATA, FIXED_ELEMENT, FIXED_SIZE, FIXED_NULLABLE}

abbrev mutual
  -- the message of a type's kind
  pub body_bytes : Term → List ℕ
  body_bytes null = []
  body_bytes (boolean n) = flag_field PLAIN_NULLABLE n
  body_bytes (primitive k n) = singular_field PRIMITIVE_PTYPE (kind_number k) ++ flag_field PRIMITIVE_NULLABLE n
  body_bytes (decimal p s n) =
      singular_field DECIMAL_PRECISION p ++ signed_field DECIMAL_SCALE s ++ flag_field DECIMAL_NULLABLE n
  body_bytes (utf8 n) = flag_field PLAIN_NULLABLE n
  body_bytes (binary n) = flag_field PLAIN_NULLABLE n
  body_bytes (structure fs n) =
      repeated_field STRUCT_NAMES (names_of fs) ++ field_types fs ++ flag_field STRUCT_NULLABLE n
  body_bytes (list t n) = bytes_field LIST_ELEMENT (bytes_field (type_number t) (body_bytes t)) ++ flag_field LIST_NULLABLE n
  body_bytes (extension id t m) =
      text_field EXTENSION_ID id ++ bytes_field EXTENSION_STORAGE (bytes_field (type_number t) (body_bytes t))
      ++ optional_bytes_field EXTENSION_METADATA m
  body_bytes (fixed_size_list t k n) =
      bytes_field FIXED_ELEMENT (bytes_field (type_number t) (body_bytes t)) ++ singular_field FIXED_SIZE k
      ++ flag_field FIXED_NULLABLE n

  -- the messages of the fields' types
  pub field_types : Fields → List ℕ
  field_types no_fields = []
  field_types (field x t fs) = bytes_field STRUCT_DTYPES (bytes_field (type_number t) (body_bytes t)) ++ field_types fs

-- the message of a type
abbrev pub type_bytes : Term → List ℕ
type_bytes t = bytes_field (type_number t) (body_bytes t)
