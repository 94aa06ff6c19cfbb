-- What a value of `serde_json` stands for, if for anything. Further members of an object that has members by name are
-- passed over; everything else that is not written so is nothing. A number is a whole one: a float is nothing.
--     kind_found, flag_found     a kind of whole numbers, and whether rows may be null
--     type_in                    a type of so many levels at most
--     type_found                 a type within the limits
--     part_found, path_found     a step of a path, and a path
use Rattle.std.specs.Prelude.{ℕ, zero, suc, ◌^◌, ◌==◌, ℤ, Bool, List, [], ◌∷◌, length, codes, nat_lt, Option, Some, None, if◌then◌else◌}
use Rattle.std.specs.Str.{bytes_eq}
use Rattle.serde_json.specs.Data.{Data, Items, no_items, item, Members, no_members, member}
use Rattle.serde_json.specs.Data as json
use Rattle.serde_json.specs.Find.{get, as_bool, as_number, as_str, as_array, as_object, as_u64, as_i64}
use Rattle.vortex_prelude.specs.Chain.{◌>>=◌}
use Rattle.vortex_terms.specs.Term.{WholeKind, unsigned_8, unsigned_16, unsigned_32, unsigned_64, signed_8, signed_16, signed_32, signed_64, Term, null, boolean, primitive, decimal, utf8, binary, structure, list, extension, fixed_size_list}
use Rattle.vortex_terms.specs.Types.{fields_from, is_extension, is_within, most_levels}
use Rattle.vortex_terms.specs.Tests.{is_decimal}
use Rattle.vortex_terms.specs.Path.{PathPart, by_name, element}

-- ---- values taken apart

-- the name and the value of the one member
abbrev pub only_member : Members → Option (List ℕ × Data)
only_member (member name d no_members) = Some (name, d)
only_member _ = None

-- a list of two
abbrev pub two_items : Items → Option (Data × Data)
two_items (item d (item e no_items)) = Some (d, e)
two_items _ = None

abbrev pub pair_found : Data → Option (Data × Data)
pair_found d = as_array d >>= two_items

-- a list of three
abbrev pub three_items : Items → Option (Data × Data × Data)
three_items (item d (item e (item f no_items))) = Some (d, e, f)
three_items _ = None

abbrev pub triple_found : Data → Option (Data × Data × Data)
triple_found d = as_array d >>= three_items

-- what each item stands for, where each stands for something
abbrev pub each_found : {A : Type 0} → (Data → Option A) → Items → Option (List A)
each_found read no_items = Some []
each_found read (item d ds) = do
  x ← read d
  xs ← each_found read ds
  Some (x ∷ xs)

-- a whole number that is not below zero
abbrev pub count_found : Data → Option ℕ
count_found d = as_number d >>= as_u64

-- a whole number
abbrev pub whole_found : Data → Option ℤ
whole_found d = as_number d >>= as_i64

-- a number below 2 to so many
abbrev pub bits_found : ℕ → Data → Option ℕ
bits_found n d = count_found d >>= λ k. if nat_lt k (2 ^ n) then Some k else None

-- ---- kinds and flags

-- the kind of whole numbers of this name
abbrev pub kind_named : List ℕ → Option WholeKind
kind_named s =
    if bytes_eq s (codes "u8") then Some unsigned_8 else (if bytes_eq s (codes "u16") then Some unsigned_16
    else (if bytes_eq s (codes "u32") then Some unsigned_32 else (if bytes_eq s (codes "u64") then Some unsigned_64
    else (if bytes_eq s (codes "i8") then Some signed_8 else (if bytes_eq s (codes "i16") then Some signed_16
    else (if bytes_eq s (codes "i32") then Some signed_32 else (if bytes_eq s (codes "i64") then Some signed_64
    else None)))))))

abbrev pub kind_found : Data → Option WholeKind
kind_found d = as_str d >>= kind_named

abbrev pub flag_found : Data → Option Bool
flag_found = as_bool

-- ---- types, whose parts are read so

unfoldable pub primitive_found : Data → Option Term
primitive_found d = do
  both ← pair_found d
  k ← kind_found both.0
  n ← flag_found both.1
  Some (primitive k n)

-- A decimal has a precision and a scale that go together.
abbrev pub decimal_of : ℕ → ℤ → Bool → Option Term
decimal_of p s n = if is_decimal p s then Some (decimal p s n) else None

unfoldable pub decimal_found : Data → Option Term
decimal_found d = do
  both ← pair_found d
  precision ← get (codes "precision") both.0
  scale ← get (codes "scale") both.0
  p ← count_found precision
  s ← whole_found scale
  n ← flag_found both.1
  decimal_of p s n

-- the type of a field
unfoldable pub owned_found : (Data → Option Term) → Data → Option Term
owned_found read d = do
  inner ← get (codes "inner") d
  members ← as_object inner
  owned ← only_member members
  if bytes_eq owned.0 (codes "Owned") then read owned.1 else None

-- the names of fields
abbrev pub names_found : Data → Option (List (List ℕ))
names_found d = as_array d >>= each_found as_str

-- the types of fields
abbrev pub types_found : (Data → Option Term) → Data → Option (List Term)
types_found read d = as_array d >>= each_found (owned_found read)

-- A struct has as many types as names.
unfoldable pub structure_found : (Data → Option Term) → Data → Option Term
structure_found read d = do
  both ← pair_found d
  names ← get (codes "names") both.0
  dtypes ← get (codes "dtypes") both.0
  n ← flag_found both.1
  xs ← names_found names
  ts ← types_found read dtypes
  if length xs == length ts then Some (structure (fields_from xs ts) n) else None

unfoldable pub list_found : (Data → Option Term) → Data → Option Term
list_found read d = do
  both ← pair_found d
  n ← flag_found both.1
  t ← read both.0
  Some (list t n)

-- metadata that are missing or null are absent
abbrev pub metadata_found : Option Data → Option (Option (List ℕ))
metadata_found None = Some None
metadata_found (Some json.null) = Some None
metadata_found (Some d) = as_array d >>= each_found (bits_found 8) >>= λ m. Some (Some m)

-- An extension's storage is none itself.
unfoldable pub extension_found : (Data → Option Term) → Data → Option Term
extension_found read d = do
  name ← get (codes "id") d
  storage ← get (codes "storage_dtype") d
  id ← as_str name
  m ← metadata_found (get (codes "metadata") d)
  t ← read storage
  if is_extension t then None else Some (extension id t m)

unfoldable pub fixed_size_list_found : (Data → Option Term) → Data → Option Term
fixed_size_list_found read d = do
  parts ← triple_found d
  k ← bits_found 32 parts.1
  n ← flag_found parts.2
  t ← read parts.0
  Some (fixed_size_list t k n)

-- the type of the kind of this name, to which d belongs
unfoldable pub named_found : (Data → Option Term) → List ℕ → Data → Option Term
named_found read name d =
    if bytes_eq name (codes "Bool") then (flag_found d >>= λ n. Some (boolean n))
    else (if bytes_eq name (codes "Primitive") then primitive_found d
    else (if bytes_eq name (codes "Decimal") then decimal_found d
    else (if bytes_eq name (codes "Utf8") then (flag_found d >>= λ n. Some (utf8 n))
    else (if bytes_eq name (codes "Binary") then (flag_found d >>= λ n. Some (binary n))
    else (if bytes_eq name (codes "Struct") then structure_found read d
    else (if bytes_eq name (codes "List") then list_found read d
    else (if bytes_eq name (codes "Extension") then extension_found read d
    else (if bytes_eq name (codes "FixedSizeList") then fixed_size_list_found read d
    else None))))))))

-- the type of the kind of this name, to which nothing belongs
abbrev pub bare_found : List ℕ → Option Term
bare_found name = if bytes_eq name (codes "Null") then Some null else None

abbrev pub term_found : (Data → Option Term) → Data → Option Term
term_found read (json.string s) = bare_found s
term_found read (json.object ms) = only_member ms >>= λ p. named_found read p.0 p.1
term_found read _ = None

unfoldable pub type_in : ℕ → Data → Option Term
type_in zero d = None
type_in (suc levels) d = term_found (type_in levels) d

abbrev pub type_found : Data → Option Term
type_found d = type_in most_levels d >>= λ t. if is_within t then Some t else None

-- ---- paths

-- the step of this name, to which nothing belongs
abbrev pub element_found : List ℕ → Option PathPart
element_found name = if bytes_eq name (codes "ElementType") then Some element else None

-- the step of the kind of this name, to which d belongs
unfoldable pub name_found : List ℕ → Data → Option PathPart
name_found name d = do
  x ← as_str d
  if bytes_eq name (codes "Name") then Some (by_name x) else None

abbrev pub part_found : Data → Option PathPart
part_found (json.string s) = element_found s
part_found (json.object ms) = only_member ms >>= λ p. name_found p.0 p.1
part_found _ = None

abbrev pub path_found : Data → Option (List PathPart)
path_found d = as_array d >>= each_found part_found
