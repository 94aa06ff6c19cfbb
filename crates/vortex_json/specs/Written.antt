-- The JSON of types and of what they are made of, as a value of `serde_json`. A kind is a text where nothing belongs
-- to it, and else an object of one member, which is named for the kind and holds what belongs to it.
--     kind_json, flag_json     a kind of whole numbers, and whether rows may be null
--     json_of                  a type
--     part_json, path_json     a step of a path, and a path
use Rattle.std.specs.Prelude.{ℕ, ℤ, Bool, List, [], ◌∷◌, codes, Option, Some, None}
use Rattle.serde_json.specs.Data.{Data, Items, no_items, item, no_members, member, unsigned}
use Rattle.serde_json.specs.Data as json
use Rattle.serde_json.specs.Find.{of_integer}
use Rattle.vortex_terms.specs.Term.{WholeKind, Term, null, boolean, primitive, decimal, utf8, binary, structure, list, extension, fixed_size_list, Fields, no_fields, field}
use Rattle.vortex_terms.specs.Types.{names_of}
use Rattle.vortex_terms.specs.Path.{PathPart, by_name, element}
use Rattle.vortex_number.specs.PType.{ptype_text}
use Rattle.vortex_number.specs.WholeKind.{ptype_of}

-- an object of one member
abbrev pub only : List ℕ → Data → Data
only name d = json.object (member name d no_members)

-- a list of two
abbrev pub two : Data → Data → Data
two d e = json.array (item d (item e no_items))

-- a list of three
abbrev pub three : Data → Data → Data → Data
three d e f = json.array (item d (item e (item f no_items)))

-- each as a value, in order
abbrev pub each_json : {A : Type 0} → (A → Data) → List A → Items
each_json write [] = no_items
each_json write (x ∷ xs) = item (write x) (each_json write xs)

abbrev pub text_json : List ℕ → Data
text_json s = json.string s

abbrev pub count_json : ℕ → Data
count_json n = json.number (unsigned n)

-- a kind of whole numbers, as "u8"
abbrev pub kind_json : WholeKind → Data
kind_json k = text_json (ptype_text (ptype_of k))

-- whether rows may be null
abbrev pub flag_json : Bool → Data
flag_json n = json.boolean n

-- digits and scale, as {"precision":10,"scale":2}
abbrev pub digits_json : ℕ → ℤ → Data
digits_json p s =
    json.object (member (codes "precision") (count_json p)
    (member (codes "scale") (json.number (of_integer s)) no_members))

-- metadata as a list of numbers, or null where there are none
abbrev pub metadata_json : Option (List ℕ) → Data
metadata_json None = json.null
metadata_json (Some m) = json.array (each_json count_json m)

-- the types and the names of fields, as {"dtypes":[..],"names":["a"]}
abbrev pub fields_json : Items → Items → Data
fields_json dtypes names =
    json.object (member (codes "dtypes") (json.array dtypes) (member (codes "names") (json.array names) no_members))

-- an id, metadata and a storage, as {"id":"x","metadata":[4],"storage_dtype":..}
abbrev pub extension_json : List ℕ → Data → Data → Data
extension_json id metadata storage =
    json.object (member (codes "id") (text_json id) (member (codes "metadata") metadata
    (member (codes "storage_dtype") storage no_members)))

-- the type of a field, as {"inner":{"Owned":..}}
abbrev pub owned_json : Data → Data
owned_json d = only (codes "inner") (only (codes "Owned") d)

abbrev mutual
  pub json_of : Term → Data
  json_of null = text_json (codes "Null")
  json_of (boolean n) = only (codes "Bool") (flag_json n)
  json_of (primitive k n) = only (codes "Primitive") (two (kind_json k) (flag_json n))
  json_of (decimal p s n) = only (codes "Decimal") (two (digits_json p s) (flag_json n))
  json_of (utf8 n) = only (codes "Utf8") (flag_json n)
  json_of (binary n) = only (codes "Binary") (flag_json n)
  json_of (structure fs n) =
      only (codes "Struct") (two (fields_json (types_json fs) (each_json text_json (names_of fs))) (flag_json n))
  json_of (list t n) = only (codes "List") (two (json_of t) (flag_json n))
  json_of (extension id t m) = only (codes "Extension") (extension_json id (metadata_json m) (json_of t))
  json_of (fixed_size_list t k n) =
      only (codes "FixedSizeList") (three (json_of t) (count_json k) (flag_json n))

  -- the types of fields, in order
  pub types_json : Fields → Items
  types_json no_fields = no_items
  types_json (field x t fs) = item (owned_json (json_of t)) (types_json fs)

-- a step, as {"Name":"a"} or "ElementType"
abbrev pub part_json : PathPart → Data
part_json (by_name x) = only (codes "Name") (text_json x)
part_json element = text_json (codes "ElementType")

-- the steps, in order
abbrev pub path_json : List PathPart → Data
path_json path = json.array (each_json part_json path)
