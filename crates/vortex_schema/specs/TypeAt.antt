-- Which type stands at a place of a buffer, by the schema of types over FlatBuffers.
use Rattle.std.specs.Prelude.{◌≡◌, ℕ, suc, pos, List, Some}
use Rattle.vortex_prelude.specs.Absent.{or_zero, or_else}
use Rattle.vortex_flat.specs.Targets.{VectorShape, root_place, number_field, signed_field, table_field, vector_field, bytes_field, text_field, table_element, text_element}
use Rattle.vortex_terms.specs.Term.{Term, null, boolean, primitive, decimal, utf8, binary, structure, list, extension, fixed_size_list, Fields, no_fields, field}
use Rattle.vortex_terms.specs.TermCode.{kind_number}
use Rattle.vortex_terms.specs.Types.{Bounded, field_count, type_number}
use Rattle.vortex_schema.specs.Schema.{flag}
use Rattle.vortex_schema.specs.declared.schema.TheConstants.{DTYPE_KIND, DTYPE_TABLE, PLAIN_NULLABLE, PRIMITIVE_PTYPE, PRIMITIVE_NULLABLE, DECIMAL_PRECISION, DECIMAL_SCALE, DECIMAL_NULLABLE, STRUCT_NAMES, STRUCT_DTYPES, STRUCT_NULLABLE, LIST_ELEMENT, LIST_NULLABLE, EXTENSION_ID, EXTENSION_STORAGE, EXTENSION_METADATA, FIXED_ELEMENT, FIXED_SIZE, FIXED_NULLABLE}

-- a DType of the kind of t stands at p, and the table of the kind at q
abbrev pub IsKindAt : List ℕ → ℕ → Term → ℕ → Type 0
IsKindAt b p t q =
    (or_zero (number_field b p DTYPE_KIND 1) ≡ Some (type_number t)) × (table_field b p DTYPE_TABLE ≡ Some (Some q))

abbrev mutual
  -- this type stands at p
  pub IsTypeAt : List ℕ → ℕ → Term → Type 0
  IsTypeAt b p null = (q : ℕ) × IsKindAt b p null q
  IsTypeAt b p (boolean n) = (q : ℕ) × IsKindAt b p (boolean n) q × (flag b q PLAIN_NULLABLE ≡ Some n)
  IsTypeAt b p (primitive k n) = (q : ℕ) × IsKindAt b p (primitive k n) q
      × (or_zero (number_field b q PRIMITIVE_PTYPE 1) ≡ Some (kind_number k))
      × (flag b q PRIMITIVE_NULLABLE ≡ Some n)
  IsTypeAt b p (decimal s z n) = (q : ℕ) × IsKindAt b p (decimal s z n) q
      × (or_zero (number_field b q DECIMAL_PRECISION 1) ≡ Some s)
      × (or_else (pos 0) (signed_field b q DECIMAL_SCALE) ≡ Some z)
      × (flag b q DECIMAL_NULLABLE ≡ Some n)
  IsTypeAt b p (utf8 n) = (q : ℕ) × IsKindAt b p (utf8 n) q × (flag b q PLAIN_NULLABLE ≡ Some n)
  IsTypeAt b p (binary n) = (q : ℕ) × IsKindAt b p (binary n) q × (flag b q PLAIN_NULLABLE ≡ Some n)
  IsTypeAt b p (structure fs n) = (q : ℕ) × (names types : VectorShape) × IsKindAt b p (structure fs n) q
      × (vector_field b q STRUCT_NAMES 4 ≡ Some (Some names)) × (names.count ≡ field_count fs)
      × (vector_field b q STRUCT_DTYPES 4 ≡ Some (Some types)) × (types.count ≡ field_count fs)
      × AreFieldsAt b names types 0 fs
      × (flag b q STRUCT_NULLABLE ≡ Some n)
  IsTypeAt b p (list t n) = (q r : ℕ) × IsKindAt b p (list t n) q
      × (table_field b q LIST_ELEMENT ≡ Some (Some r)) × IsTypeAt b r t
      × (flag b q LIST_NULLABLE ≡ Some n)
  IsTypeAt b p (extension id t m) = (q r : ℕ) × IsKindAt b p (extension id t m) q
      × (text_field b q EXTENSION_ID ≡ Some (Some id))
      × (table_field b q EXTENSION_STORAGE ≡ Some (Some r)) × IsTypeAt b r t
      × (bytes_field b q EXTENSION_METADATA ≡ Some m)
  IsTypeAt b p (fixed_size_list t k n) = (q r : ℕ) × IsKindAt b p (fixed_size_list t k n) q
      × (table_field b q FIXED_ELEMENT ≡ Some (Some r)) × IsTypeAt b r t
      × (or_zero (number_field b q FIXED_SIZE 4) ≡ Some k)
      × (flag b q FIXED_NULLABLE ≡ Some n)

  -- these are the fields from the i-th on, whose names and types the two vectors lead to
  pub AreFieldsAt : List ℕ → VectorShape → VectorShape → ℕ → Fields → Type 0
  AreFieldsAt b names types i no_fields = Unit {0}
  AreFieldsAt b names types i (field x t fs) =
      (text_element b names i ≡ Some x)
      × ((r : ℕ) × (table_element b types i ≡ Some r) × IsTypeAt b r t)
      × AreFieldsAt b names types (suc i) fs

-- the buffer begins with the place of this type, which is within the limits
abbrev pub IsTypeIn : List ℕ → Term → Type 0
IsTypeIn b t = (p : ℕ) × (root_place b ≡ Some p) × IsTypeAt b p t × Bounded t
