-- Which type a message is, by the schema of types over Protocol Buffers (this project's own): a oneof by the kinds of
-- types, whose number is `type_number` of vortex_terms. Fields of other numbers are skipped.
--     DType                 1 to 10, a message of the kind
--     1 Null                none
--     2 Bool                1 nullable bool
--     3 Primitive           1 ptype u32; 2 nullable bool
--     4 Decimal             1 precision u32; 2 scale i32; 3 nullable bool
--     5 Utf8, 6 Binary      1 nullable bool
--     7 Struct              1 names, repeated texts; 2 dtypes, repeated DType; 3 nullable bool
--     8 List                1 element DType; 2 nullable bool
--     9 Extension           1 id, a text; 2 storage DType; 3 metadata, bytes that may be absent
--     10 FixedSizeList      1 element DType; 2 size u32; 3 nullable bool
use Rattle.std.specs.Prelude.{◌≡◌, ℕ, List, [], ◌∷◌, Option, Some, IsSome}
use Rattle.vortex_prelude.specs.Chain.{◌>>=◌}
use Rattle.vortex_wire.specs.Field.{fields_of}
use Rattle.vortex_wire.specs.Message.{only_field, singular_u32}
use Rattle.vortex_wire.specs.Inside.{bytes_in, bytes_fields, texts, singular_text, optional_bytes, message, flag, singular_i32}
use Rattle.vortex_terms.specs.Term.{Term, null, boolean, primitive, decimal, utf8, binary, structure, list, extension, fixed_size_list, Fields, no_fields, field}
use Rattle.vortex_terms.specs.TermCode.{kind_number}
use Rattle.vortex_terms.specs.Types.{names_of, type_number}
use Rattle.vortex_proto.specs.declared.schema.TheConstants.{FIRST_KIND, LAST_KIND, PLAIN_NULLABLE, PRIMITIVE_PTYPE, PRIMITIVE_NULLABLE, DECIMAL_PRECISION, DECIMAL_SCALE, DECIMAL_NULLABLE, STRUCT_NAMES, STRUCT_DTYPES, STRUCT_NULLABLE, LIST_ELEMENT, LIST_NULLABLE, EXTENSION_ID, EXTENSION_STORAGE, EXTENSION_METADATA, FIXED_ELEMENT, FIXED_SIZE, FIXED_NULLABLE}

-- the one member of the oneof of types: its number, and the message in it
unfoldable pub kind_and_body : List ℕ → Option (ℕ × List ℕ)
kind_and_body b = do
  member ← only_field FIRST_KIND LAST_KIND b
  found ← member
  body ← bytes_in found.content
  Some (found.number, body)

-- the message is of t's kind, and body is the message of the kind
abbrev pub IsKind : List ℕ → Term → List ℕ → Type 0
IsKind b t body = kind_and_body b ≡ Some (type_number t, body)

abbrev mutual
  -- the bytes are a message of this type
  pub IsTypeMessage : List ℕ → Term → Type 0
  IsTypeMessage b null = (body : List ℕ) × IsKind b null body × IsSome (fields_of body)
  IsTypeMessage b (boolean n) = (body : List ℕ) × IsKind b (boolean n) body × (flag PLAIN_NULLABLE body ≡ Some n)
  IsTypeMessage b (primitive k n) = (body : List ℕ) × IsKind b (primitive k n) body
      × (singular_u32 PRIMITIVE_PTYPE body ≡ Some (kind_number k))
      × (flag PRIMITIVE_NULLABLE body ≡ Some n)
  IsTypeMessage b (decimal p s n) = (body : List ℕ) × IsKind b (decimal p s n) body
      × (singular_u32 DECIMAL_PRECISION body ≡ Some p)
      × (singular_i32 DECIMAL_SCALE body ≡ Some s)
      × (flag DECIMAL_NULLABLE body ≡ Some n)
  IsTypeMessage b (utf8 n) = (body : List ℕ) × IsKind b (utf8 n) body × (flag PLAIN_NULLABLE body ≡ Some n)
  IsTypeMessage b (binary n) = (body : List ℕ) × IsKind b (binary n) body × (flag PLAIN_NULLABLE body ≡ Some n)
  IsTypeMessage b (structure fs n) = (body : List ℕ) × (parts : List (List ℕ)) × IsKind b (structure fs n) body
      × (texts STRUCT_NAMES body ≡ Some (names_of fs))
      × (bytes_fields STRUCT_DTYPES body ≡ Some parts) × AreTypeMessages parts fs
      × (flag STRUCT_NULLABLE body ≡ Some n)
  IsTypeMessage b (list t n) = (body part : List ℕ) × IsKind b (list t n) body
      × (message LIST_ELEMENT body ≡ Some part) × IsTypeMessage part t
      × (flag LIST_NULLABLE body ≡ Some n)
  IsTypeMessage b (extension id t m) = (body part : List ℕ) × IsKind b (extension id t m) body
      × (singular_text EXTENSION_ID body ≡ Some id)
      × (message EXTENSION_STORAGE body ≡ Some part) × IsTypeMessage part t
      × (optional_bytes EXTENSION_METADATA body ≡ Some m)
  IsTypeMessage b (fixed_size_list t k n) = (body part : List ℕ) × IsKind b (fixed_size_list t k n) body
      × (message FIXED_ELEMENT body ≡ Some part) × IsTypeMessage part t
      × (singular_u32 FIXED_SIZE body ≡ Some k)
      × (flag FIXED_NULLABLE body ≡ Some n)

  -- these are messages of the fields' types, one for each field in order
  pub AreTypeMessages : List (List ℕ) → Fields → Type 0
  AreTypeMessages [] no_fields = Unit {0}
  AreTypeMessages (part ∷ parts) (field x t fs) = IsTypeMessage part t × AreTypeMessages parts fs
  AreTypeMessages _ _ = ⊥
