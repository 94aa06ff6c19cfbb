-- What is said of types.
--     nullable, storage_of       whether a row may be null; the type in which an extension's rows
--         are stored
--     bare, Same              a type without its nullability; types that are the same apart from
--         nullability
--     levels, nodes, text_length      how deep a type nests, how many types it has in it, and the
--         bytes of its names, ids and metadata
--     Legal, Bounded          a type that can be held in memory; one that is within the limits too,
--         which is_within tests
--     names_of, types_of, fields_from, fields_append, field_count, place_of, field_at, field_named
--         a struct's fields as lists, and by place
--     part_types, part_at     the types directly inside a type, and the one at a place
--     type_number             the number of the kind of type
use Rattle.std.specs.Prelude.{◌≡◌, ℕ, zero, suc, ◌+◌, ◌^◌, ◌≤◌, ◌<◌, max, ℤ, pos, negsuc, ◌≤ℤ◌, Bool, true, false, if◌then◌else◌, ◌&&◌, nat_le, List, [], ◌∷◌, length, Option, Some, None, IfSome}
use Rattle.std.specs.List.{All, slice_get}
use Rattle.std.specs.Option.{option_map, option_map_or, option_and_then}
use Rattle.std.specs.Str.{IsUtf8, bytes_eq}
use Rattle.vortex_terms.specs.Term.{Term, null, boolean, primitive, decimal, utf8, binary, structure, list, extension, fixed_size_list, Fields, no_fields, field}

-- whether a row of the type may be null; an extension is nullable where its storage is
abbrev pub nullable : Term → Bool
nullable null = true
nullable (boolean n) = n
nullable (primitive k n) = n
nullable (decimal p s n) = n
nullable (utf8 n) = n
nullable (binary n) = n
nullable (structure fs n) = n
nullable (list t n) = n
nullable (extension id t m) = nullable t
nullable (fixed_size_list t k n) = n

-- the type in which the rows are stored: that of an extension, and else the type itself
abbrev pub storage_of : Term → Term
storage_of (extension id t m) = t
storage_of t = t

-- the type with nothing in it nullable, but null itself
abbrev mutual
  pub bare : Term → Term
  bare null = null
  bare (boolean n) = boolean false
  bare (primitive k n) = primitive k false
  bare (decimal p s n) = decimal p s false
  bare (utf8 n) = utf8 false
  bare (binary n) = binary false
  bare (structure fs n) = structure (bare_fields fs) false
  bare (list t n) = list (bare t) false
  bare (extension id t m) = extension id (bare t) m
  bare (fixed_size_list t k n) = fixed_size_list (bare t) k false

  pub bare_fields : Fields → Fields
  bare_fields no_fields = no_fields
  bare_fields (field x t fs) = field x (bare t) (bare_fields fs)

-- the types are the same apart from nullability
abbrev pub Same : Term → Term → Type 0
Same t u = bare t ≡ bare u

-- how deep the type nests: a type without parts has one level
abbrev mutual
  pub levels : Term → ℕ
  levels null = 1
  levels (boolean n) = 1
  levels (primitive k n) = 1
  levels (decimal p s n) = 1
  levels (utf8 n) = 1
  levels (binary n) = 1
  levels (structure fs n) = 1 + fields_levels fs
  levels (list t n) = 1 + levels t
  levels (extension id t m) = 1 + levels t
  levels (fixed_size_list t k n) = 1 + levels t

  -- the greatest of the fields
  pub fields_levels : Fields → ℕ
  fields_levels no_fields = 0
  fields_levels (field x t fs) = max (levels t) (fields_levels fs)

-- how many types the type has in it, itself counted
abbrev mutual
  pub nodes : Term → ℕ
  nodes null = 1
  nodes (boolean n) = 1
  nodes (primitive k n) = 1
  nodes (decimal p s n) = 1
  nodes (utf8 n) = 1
  nodes (binary n) = 1
  nodes (structure fs n) = 1 + fields_nodes fs
  nodes (list t n) = 1 + nodes t
  nodes (extension id t m) = 1 + nodes t
  nodes (fixed_size_list t k n) = 1 + nodes t

  pub fields_nodes : Fields → ℕ
  fields_nodes no_fields = 0
  fields_nodes (field x t fs) = nodes t + fields_nodes fs

-- how many bytes the names, ids and metadata in the type have
abbrev mutual
  pub text_length : Term → ℕ
  text_length null = 0
  text_length (boolean n) = 0
  text_length (primitive k n) = 0
  text_length (decimal p s n) = 0
  text_length (utf8 n) = 0
  text_length (binary n) = 0
  text_length (structure fs n) = fields_text_length fs
  text_length (list t n) = text_length t
  text_length (extension id t m) = length id + option_map_or length m 0 + text_length t
  text_length (fixed_size_list t k n) = text_length t

  pub fields_text_length : Fields → ℕ
  fields_text_length no_fields = 0
  fields_text_length (field x t fs) = length x + text_length t + fields_text_length fs

-- each number is a byte
abbrev pub IsBytes : List ℕ → Type 0
IsBytes bs = All (λ b. b < 256) bs

-- one to 76 digits, and a scale from -128 up to the number of digits
abbrev pub IsDecimal : ℕ → ℤ → Type 0
IsDecimal p s = (1 ≤ p) × (p ≤ 76) × (negsuc 127 ≤ℤ s) × (s ≤ℤ pos p)

-- whether the type is an extension
abbrev pub is_extension : Term → Bool
is_extension (extension id t m) = true
is_extension _ = false

-- the type can be held in memory: decimals are in range, names and ids are text, metadata are
-- bytes, sizes are below 2 to the 32nd, and no extension stores another directly
abbrev mutual
  pub Legal : Term → Type 0
  Legal null = Unit {0}
  Legal (boolean n) = Unit {0}
  Legal (primitive k n) = Unit {0}
  Legal (decimal p s n) = IsDecimal p s
  Legal (utf8 n) = Unit {0}
  Legal (binary n) = Unit {0}
  Legal (structure fs n) = LegalFields fs
  Legal (list t n) = Legal t
  Legal (extension id t m) = IsUtf8 id × IfSome m IsBytes × (is_extension t ≡ false) × Legal t
  Legal (fixed_size_list t k n) = (k < 2 ^ 32) × Legal t

  pub LegalFields : Fields → Type 0
  LegalFields no_fields = Unit {0}
  LegalFields (field x t fs) = IsUtf8 x × Legal t × LegalFields fs

-- the limits: 64 levels, a million nodes and 64 MiB of text
abbrev pub most_levels : ℕ
most_levels = 64

abbrev pub most_nodes : ℕ
most_nodes = 1000000

abbrev pub most_text : ℕ
most_text = 67108864

-- the type is legal and within the limits
pub record Bounded (t : Term) : Type 0 where
  pub legal : Legal t
  pub few_levels : levels t ≤ most_levels
  pub few_nodes : nodes t ≤ most_nodes
  pub little_text : text_length t ≤ most_text

-- whether the type is within the limits
abbrev pub is_within : Term → Bool
is_within t =
    nat_le (levels t) most_levels && nat_le (nodes t) most_nodes && nat_le (text_length t) most_text

-- the names of the fields, in order
abbrev pub names_of : Fields → List (List ℕ)
names_of no_fields = []
names_of (field x t fs) = x ∷ names_of fs

-- the types of the fields, in order
abbrev pub types_of : Fields → List Term
types_of no_fields = []
types_of (field x t fs) = t ∷ types_of fs

-- the fields with these names and types, as long as there are both
abbrev pub fields_from : List (List ℕ) → List Term → Fields
fields_from (x ∷ xs) (t ∷ ts) = field x t (fields_from xs ts)
fields_from _ _ = no_fields

-- the fields, and then others
abbrev pub fields_append : Fields → Fields → Fields
fields_append no_fields gs = gs
fields_append (field x t fs) gs = field x t (fields_append fs gs)

-- how many fields there are
abbrev pub field_count : Fields → ℕ
field_count no_fields = 0
field_count (field x t fs) = suc (field_count fs)

-- the place of the first field of this name
abbrev pub place_of : Fields → List ℕ → Option ℕ
place_of no_fields y = None
place_of (field x t fs) y = if bytes_eq x y then Some 0 else option_map suc (place_of fs y)

-- the type of the field at a place
abbrev pub field_at : Fields → ℕ → Option Term
field_at no_fields i = None
field_at (field x t fs) zero = Some t
field_at (field x t fs) (suc i) = field_at fs i

-- the type of the first field of this name
abbrev pub field_named : Fields → List ℕ → Option Term
field_named fs x = option_and_then (field_at fs) (place_of fs x)

-- the types directly inside a type
abbrev pub part_types : Term → List Term
part_types (structure fs n) = types_of fs
part_types (list t n) = t ∷ []
part_types (extension id t m) = t ∷ []
part_types (fixed_size_list t k n) = t ∷ []
part_types _ = []

-- the type at a place directly inside a type: field i of a struct, and at 0 the element of a list
-- or the storage of an extension
abbrev pub part_at : Term → ℕ → Option Term
part_at t i = slice_get (part_types t) i

-- the number of the kind of type, as it stands in flat buffers
abbrev pub type_number : Term → ℕ
type_number null = 1
type_number (boolean n) = 2
type_number (primitive k n) = 3
type_number (decimal p s n) = 4
type_number (utf8 n) = 5
type_number (binary n) = 6
type_number (structure fs n) = 7
type_number (list t n) = 8
type_number (extension id t m) = 9
type_number (fixed_size_list t k n) = 10
