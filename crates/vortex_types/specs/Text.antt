-- How types are printed.
--     type_text t         the text of a type, as list(i32)?
--     bare_text t         the same without the mark of nullability at its end
--     struct_text fs      the text of fields, as {a=i32, b=utf8?}
use Rattle.std.specs.Prelude.{ℕ, zero, suc, List, [], ◌∷◌, ◌++◌, map, codes, Option, Some, None}
use Rattle.std.specs.Prelude.{slice_get}
use Rattle.std.specs.List.{flat_map}
use Rattle.std.specs.Option.{option_map_or}
use Rattle.std.specs.Fmt as numbers
use Rattle.vortex_terms.specs.Term.{Term, null, boolean, primitive, decimal, utf8, binary}
use Rattle.vortex_terms.specs.Term.{structure, list, extension, fixed_size_list, Fields, no_fields}
use Rattle.vortex_terms.specs.Term.{field}
use Rattle.vortex_terms.specs.Types.{nullable, names_of, field_at}
use Rattle.vortex_number.specs.PType.{ptype_text}
use Rattle.vortex_number.specs.WholeKind.{ptype_of}
use Rattle.vortex_names.specs.Decimals.{decimal_text}
use Rattle.vortex_names.specs.Nullable.{mark, nullability_of}

-- texts with a comma and a blank between them
abbrev pub listed : List (List ℕ) → List ℕ
listed [] = []
listed (x ∷ xs) = x ++ flat_map (λ y. codes ", " ++ y) xs

-- the mark behind a nullable type; null has none
abbrev pub type_mark : Term → List ℕ
type_mark null = []
type_mark (boolean n) = mark (nullability_of n)
type_mark (primitive k n) = mark (nullability_of n)
type_mark (decimal p s n) = mark (nullability_of n)
type_mark (utf8 n) = mark (nullability_of n)
type_mark (binary n) = mark (nullability_of n)
type_mark (structure fs n) = mark (nullability_of n)
type_mark (list t n) = mark (nullability_of n)
type_mark (extension id t m) = mark (nullability_of (nullable t))
type_mark (fixed_size_list t k n) = mark (nullability_of n)

-- metadata behind a storage, as the numbers of their bytes
abbrev pub metadata_text : Option (List ℕ) → List ℕ
metadata_text None = []
metadata_text (Some m) = codes ", [" ++ listed (map numbers.decimal m) ++ codes "]"

abbrev mutual
  pub bare_text : Term → List ℕ
  bare_text null = codes "null"
  bare_text (boolean n) = codes "bool"
  bare_text (primitive k n) = ptype_text (ptype_of k)
  bare_text (decimal p s n) = decimal_text (record { precision = p; scale = s })
  bare_text (utf8 n) = codes "utf8"
  bare_text (binary n) = codes "binary"
  bare_text (structure fs n) = codes "{" ++ listed (field_texts fs) ++ codes "}"
  bare_text (list t n) = codes "list(" ++ (bare_text t ++ type_mark t) ++ codes ")"
  bare_text (extension id t m) =
      codes "ext(" ++ id ++ codes ", " ++ bare_text t ++ metadata_text m ++ codes ")"
  bare_text (fixed_size_list t k n) =
      codes "fixed_size_list(" ++ (bare_text t ++ type_mark t) ++ codes ")[" ++ numbers.decimal k
      ++ codes "]"

  -- each field as a=i32
  pub field_texts : Fields → List (List ℕ)
  field_texts no_fields = []
  field_texts (field x t fs) = (x ++ codes "=" ++ (bare_text t ++ type_mark t)) ∷ field_texts fs

-- the text of a type
abbrev pub type_text : Term → List ℕ
type_text t = bare_text t ++ type_mark t

-- the text of fields
abbrev pub struct_text : Fields → List ℕ
struct_text fs = codes "{" ++ listed (field_texts fs) ++ codes "}"

-- what stands before the one of a list at a place
abbrev pub separator : ℕ → List ℕ
separator zero = []
separator (suc i) = codes ", "

-- the text of the field at a place
abbrev pub field_text : Fields → ℕ → List ℕ
field_text fs i =
    option_map_or (λ x. x) (slice_get (names_of fs) i) [] ++ codes "="
    ++ option_map_or type_text (field_at fs i) []
