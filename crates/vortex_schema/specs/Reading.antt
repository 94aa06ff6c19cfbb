-- Which type a reader finds at a place, within budgets of levels, types and bytes of text. Each type is met where it
-- stands, so one that several offsets lead to is met as often.
use Rattle.std.specs.Prelude.{ℕ, zero, suc, ◌+◌, ◌==◌, pos, Bool, List, length, Option, Some, None, if◌then◌else◌}
use Rattle.std.specs.Option.{option_map, option_map_or, option_flatten}
use Rattle.vortex_prelude.specs.Chain.{◌>>=◌}
use Rattle.vortex_prelude.specs.Absent.{or_zero, or_else}
use Rattle.vortex_flat.specs.Targets.{VectorShape, root_place, number_field, signed_field, table_field, vector_field, bytes_field, text_field, table_element, text_element}
use Rattle.vortex_terms.specs.Tests.{is_decimal}
use Rattle.vortex_terms.specs.Types.{most_levels, most_nodes, most_text}
use Rattle.vortex_terms.specs.Term.{WholeKind, unsigned_8, unsigned_16, unsigned_32, unsigned_64, signed_8, signed_16, signed_32, signed_64, Term, null, boolean, primitive, decimal, utf8, binary, structure, list, extension, fixed_size_list, Fields, no_fields, field}
use Rattle.vortex_schema.specs.declared.budget.Budget.{Budget}
use Rattle.vortex_schema.specs.declared.kind.TypeKind.{TypeKind}
use Rattle.vortex_schema.specs.declared.kind.TypeKind.TheVariants as kinds
use Rattle.vortex_schema.specs.Budget.{after_node, after_text}
use Rattle.vortex_schema.specs.Kind.{kind_from, is_extension_kind}
use Rattle.vortex_schema.specs.Schema.{flag}
use Rattle.vortex_schema.specs.declared.schema.TheConstants.{DTYPE_KIND, DTYPE_TABLE, PLAIN_NULLABLE, PRIMITIVE_PTYPE, PRIMITIVE_NULLABLE, DECIMAL_PRECISION, DECIMAL_SCALE, DECIMAL_NULLABLE, STRUCT_NAMES, STRUCT_DTYPES, STRUCT_NULLABLE, LIST_ELEMENT, LIST_NULLABLE, EXTENSION_ID, EXTENSION_STORAGE, EXTENSION_METADATA, FIXED_ELEMENT, FIXED_SIZE, FIXED_NULLABLE}

-- what was found, and what is left of the budget after it
pub record Found (A : Type 0) : Type 0 where
  pub found : A
  pub left : Budget

-- a reader of types: it is told what is left, and a place
abbrev pub Reader : Type 0
Reader = Budget → ℕ → Option (Found Term)

-- what is left after what was found
abbrev pub left_of : {A : Type 0} → Option (Found A) → Option Budget
left_of f = option_map (λ x. x.left) f

-- what was found, and the budget as it was
abbrev pub leaf : Budget → Option Term → Option (Found Term)
leaf left found = option_map (λ t. record { found = t; left = left }) found

-- a type made of the one that was found
abbrev pub around : (Term → Term) → Option (Found Term) → Option (Found Term)
around make part = option_map (λ f. record { found = make f.found; left = f.left }) part

-- the kind of the DType at place p
unfoldable pub kind_at : List ℕ → ℕ → Option TypeKind
kind_at b p = or_zero (number_field b p DTYPE_KIND 1) >>= kind_from

-- the kind of whole numbers with a number
abbrev pub ptype_from : ℕ → Option WholeKind
ptype_from n =
    if n == 0 then Some unsigned_8 else (if n == 1 then Some unsigned_16 else (if n == 2 then Some unsigned_32
    else (if n == 3 then Some unsigned_64 else (if n == 4 then Some signed_8 else (if n == 5 then Some signed_16
    else (if n == 6 then Some signed_32 else (if n == 7 then Some signed_64 else None)))))))

-- a Primitive
unfoldable pub primitive_at : List ℕ → ℕ → Option Term
primitive_at b q = do
  k ← or_zero (number_field b q PRIMITIVE_PTYPE 1) >>= ptype_from
  n ← flag b q PRIMITIVE_NULLABLE
  Some (primitive k n)

-- a Decimal
unfoldable pub decimal_at : List ℕ → ℕ → Option Term
decimal_at b q = do
  s ← or_zero (number_field b q DECIMAL_PRECISION 1)
  z ← or_else (pos 0) (signed_field b q DECIMAL_SCALE)
  n ← flag b q DECIMAL_NULLABLE
  if is_decimal s z then Some (decimal s z n) else None

-- the name and the type of field i
unfoldable pub named_type_at : List ℕ → Reader → VectorShape → VectorShape → ℕ → Budget → Option (Found (List ℕ × Term))
named_type_at b read names types i left = do
  x ← text_element b names i
  rest ← after_text (length x) left
  r ← table_element b types i
  f ← read rest r
  Some (record { found = (x, f.found); left = f.left })

-- so many fields from the i-th on
unfoldable pub fields_at : List ℕ → Reader → VectorShape → VectorShape → ℕ → ℕ → Budget → Option (Found Fields)
fields_at b read names types zero i left = Some (record { found = no_fields; left = left })
fields_at b read names types (suc count) i left = do
  first ← named_type_at b read names types i left
  others ← fields_at b read names types count (i + 1) first.left
  Some (record { found = field first.found.0 first.found.1 others.found; left = others.left })

-- a Struct
unfoldable pub struct_at : List ℕ → Reader → Budget → ℕ → Option (Found Term)
struct_at b read left q = do
  names ← option_flatten (vector_field b q STRUCT_NAMES 4)
  types ← option_flatten (vector_field b q STRUCT_DTYPES 4)
  n ← flag b q STRUCT_NULLABLE
  count ← (if names.count == types.count then Some names.count else None)
  fields ← fields_at b read names types count 0 left
  Some (record { found = structure fields.found n; left = fields.left })

-- a List
unfoldable pub list_at : List ℕ → Reader → Budget → ℕ → Option (Found Term)
list_at b read left q = do
  r ← option_flatten (table_field b q LIST_ELEMENT)
  n ← flag b q LIST_NULLABLE
  around (λ t. list t n) (read left r)

-- the place of the storage of an Extension, which is none itself
unfoldable pub storage_at : List ℕ → ℕ → Option ℕ
storage_at b q = do
  r ← option_flatten (table_field b q EXTENSION_STORAGE)
  kind ← kind_at b r
  if is_extension_kind kind then None else Some r

-- an Extension
unfoldable pub extension_at : List ℕ → Reader → Budget → ℕ → Option (Found Term)
extension_at b read left q = do
  id ← option_flatten (text_field b q EXTENSION_ID)
  metadata ← bytes_field b q EXTENSION_METADATA
  rest ← after_text (length id + option_map_or length metadata 0) left
  r ← storage_at b q
  around (λ t. extension id t metadata) (read rest r)

-- a FixedSizeList
unfoldable pub fixed_at : List ℕ → Reader → Budget → ℕ → Option (Found Term)
fixed_at b read left q = do
  r ← option_flatten (table_field b q FIXED_ELEMENT)
  size ← or_zero (number_field b q FIXED_SIZE 4)
  n ← flag b q FIXED_NULLABLE
  around (λ t. fixed_size_list t size n) (read left r)

-- the type of a kind whose table stands at q, and whose parts are read so
abbrev pub body_at : List ℕ → Reader → TypeKind → Budget → ℕ → Option (Found Term)
body_at b read kinds.Null left q = leaf left (Some null)
body_at b read kinds.Bool left q = leaf left (option_map boolean (flag b q PLAIN_NULLABLE))
body_at b read kinds.Primitive left q = leaf left (primitive_at b q)
body_at b read kinds.Decimal left q = leaf left (decimal_at b q)
body_at b read kinds.Utf8 left q = leaf left (option_map utf8 (flag b q PLAIN_NULLABLE))
body_at b read kinds.Binary left q = leaf left (option_map binary (flag b q PLAIN_NULLABLE))
body_at b read kinds.Struct left q = struct_at b read left q
body_at b read kinds.List left q = list_at b read left q
body_at b read kinds.Extension left q = extension_at b read left q
body_at b read kinds.FixedSizeList left q = fixed_at b read left q

-- the type at place p, whose parts are read so
unfoldable pub dtype_at : List ℕ → Reader → Reader
dtype_at b read left p = do
  kind ← kind_at b p
  q ← option_flatten (table_field b p DTYPE_TABLE)
  rest ← after_node left
  body_at b read kind rest q

-- the type at place p, of so many levels, types and bytes of text at most
unfoldable pub type_at : List ℕ → ℕ → Reader
type_at b zero left p = None
type_at b (suc levels) left p = dtype_at b (type_at b levels) left p

-- the budget of a whole type
abbrev pub whole : Budget
whole = record { nodes = most_nodes; text = most_text }

-- the type at place p, where one stands there that is legal and within the limits
unfoldable pub bounded_type_at : List ℕ → ℕ → Option Term
bounded_type_at b p = option_map (λ f. f.found) (type_at b most_levels whole p)

-- the type that the buffer begins with the place of, where it is legal and within the limits
unfoldable pub bounded_type_in : List ℕ → Option Term
bounded_type_in b = root_place b >>= bounded_type_at b
