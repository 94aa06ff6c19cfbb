-- Which type a reader finds in a message.
--     Node            a type whose parts are left as the messages in which they stand
--     node_in         the node of a message
--     term_in         the type of a node whose parts are read so
--     type_in         the type of a message, of so many levels at most
use Rattle.std.specs.Prelude.{ℕ, zero, suc, ◌==◌, ℤ, Bool, List, [], ◌∷◌, length, Option, Some, None, if◌then◌else◌}
use Rattle.vortex_prelude.specs.Chain.{◌>>=◌}
use Rattle.vortex_wire.specs.Field.{fields_of}
use Rattle.vortex_wire.specs.Message.{singular_u32}
use Rattle.vortex_wire.specs.Inside.{bytes_fields, texts, singular_text, optional_bytes, message, flag, singular_i32}
use Rattle.vortex_terms.specs.Term.{WholeKind, unsigned_8, unsigned_16, unsigned_32, unsigned_64, signed_8, signed_16, signed_32, signed_64, Term, null, boolean, primitive, decimal, utf8, binary, structure, list, extension, fixed_size_list}
use Rattle.vortex_terms.specs.Tests.{is_decimal}
use Rattle.vortex_terms.specs.Types.{fields_from, is_extension}
use Rattle.vortex_proto.specs.TypeMessage.{kind_and_body}
use Rattle.vortex_proto.specs.declared.schema.TheConstants.{PLAIN_NULLABLE, PRIMITIVE_PTYPE, PRIMITIVE_NULLABLE, DECIMAL_PRECISION, DECIMAL_SCALE, DECIMAL_NULLABLE, STRUCT_NAMES, STRUCT_DTYPES, STRUCT_NULLABLE, LIST_ELEMENT, LIST_NULLABLE, EXTENSION_ID, EXTENSION_STORAGE, EXTENSION_METADATA, FIXED_ELEMENT, FIXED_SIZE, FIXED_NULLABLE}

pub data Node : Type 0 where
  null_node : Node
  boolean_node : Bool → Node
  primitive_node : WholeKind → Bool → Node
  decimal_node : ℕ → ℤ → Bool → Node
  utf8_node : Bool → Node
  binary_node : Bool → Node
  -- names, and the messages of the types
  structure_node : List (List ℕ) → List (List ℕ) → Bool → Node
  list_node : List ℕ → Bool → Node
  -- id, the message of the storage, and maybe metadata
  extension_node : List ℕ → List ℕ → Option (List ℕ) → Node
  fixed_size_list_node : List ℕ → ℕ → Bool → Node

-- the kind of whole numbers with a number
abbrev pub ptype_from : ℕ → Option WholeKind
ptype_from n =
    if n == 0 then Some unsigned_8 else (if n == 1 then Some unsigned_16 else (if n == 2 then Some unsigned_32
    else (if n == 3 then Some unsigned_64 else (if n == 4 then Some signed_8 else (if n == 5 then Some signed_16
    else (if n == 6 then Some signed_32 else (if n == 7 then Some signed_64 else None)))))))

unfoldable pub null_in : List ℕ → Option Node
null_in body = do
  fields ← fields_of body
  Some null_node

unfoldable pub boolean_in : List ℕ → Option Node
boolean_in body = do
  n ← flag PLAIN_NULLABLE body
  Some (boolean_node n)

unfoldable pub primitive_in : List ℕ → Option Node
primitive_in body = do
  number ← singular_u32 PRIMITIVE_PTYPE body
  k ← ptype_from number
  n ← flag PRIMITIVE_NULLABLE body
  Some (primitive_node k n)

unfoldable pub decimal_in : List ℕ → Option Node
decimal_in body = do
  p ← singular_u32 DECIMAL_PRECISION body
  s ← singular_i32 DECIMAL_SCALE body
  n ← flag DECIMAL_NULLABLE body
  Some (decimal_node p s n)

unfoldable pub utf8_in : List ℕ → Option Node
utf8_in body = do
  n ← flag PLAIN_NULLABLE body
  Some (utf8_node n)

unfoldable pub binary_in : List ℕ → Option Node
binary_in body = do
  n ← flag PLAIN_NULLABLE body
  Some (binary_node n)

unfoldable pub structure_in : List ℕ → Option Node
structure_in body = do
  names ← texts STRUCT_NAMES body
  parts ← bytes_fields STRUCT_DTYPES body
  n ← flag STRUCT_NULLABLE body
  Some (structure_node names parts n)

unfoldable pub list_in : List ℕ → Option Node
list_in body = do
  part ← message LIST_ELEMENT body
  n ← flag LIST_NULLABLE body
  Some (list_node part n)

unfoldable pub extension_in : List ℕ → Option Node
extension_in body = do
  id ← singular_text EXTENSION_ID body
  part ← message EXTENSION_STORAGE body
  m ← optional_bytes EXTENSION_METADATA body
  Some (extension_node id part m)

unfoldable pub fixed_size_list_in : List ℕ → Option Node
fixed_size_list_in body = do
  part ← message FIXED_ELEMENT body
  k ← singular_u32 FIXED_SIZE body
  n ← flag FIXED_NULLABLE body
  Some (fixed_size_list_node part k n)

-- the node of the kind with this number, whose message is the body
unfoldable pub body_in : ℕ → List ℕ → Option Node
body_in number body =
    if number == 1 then null_in body else (if number == 2 then boolean_in body
    else (if number == 3 then primitive_in body else (if number == 4 then decimal_in body
    else (if number == 5 then utf8_in body else (if number == 6 then binary_in body
    else (if number == 7 then structure_in body else (if number == 8 then list_in body
    else (if number == 9 then extension_in body else (if number == 10 then fixed_size_list_in body
    else None)))))))))

unfoldable pub node_in : List ℕ → Option Node
node_in b = do
  found ← kind_and_body b
  body_in found.0 found.1

-- the types of these messages, each of which is read so
unfoldable pub types_in : (List ℕ → Option Term) → List (List ℕ) → Option (List Term)
types_in read [] = Some []
types_in read (part ∷ parts) = do
  t ← read part
  ts ← types_in read parts
  Some (t ∷ ts)

-- A decimal has a precision and a scale that go together.
abbrev pub decimal_of : ℕ → ℤ → Bool → Option Term
decimal_of p s n = if is_decimal p s then Some (decimal p s n) else None

-- A struct has as many types as names.
unfoldable pub structure_of : (List ℕ → Option Term) → List (List ℕ) → List (List ℕ) → Bool → Option Term
structure_of read names parts n = do
  ts ← types_in read parts
  if length names == length ts then Some (structure (fields_from names ts) n) else None

unfoldable pub list_of : (List ℕ → Option Term) → List ℕ → Bool → Option Term
list_of read part n = do
  t ← read part
  Some (list t n)

-- An extension's storage is none itself.
unfoldable pub extension_of : (List ℕ → Option Term) → List ℕ → List ℕ → Option (List ℕ) → Option Term
extension_of read id part m = do
  t ← read part
  if is_extension t then None else Some (extension id t m)

unfoldable pub fixed_size_list_of : (List ℕ → Option Term) → List ℕ → ℕ → Bool → Option Term
fixed_size_list_of read part k n = do
  t ← read part
  Some (fixed_size_list t k n)

abbrev pub term_in : (List ℕ → Option Term) → Node → Option Term
term_in read null_node = Some null
term_in read (boolean_node n) = Some (boolean n)
term_in read (primitive_node k n) = Some (primitive k n)
term_in read (decimal_node p s n) = decimal_of p s n
term_in read (utf8_node n) = Some (utf8 n)
term_in read (binary_node n) = Some (binary n)
term_in read (structure_node names parts n) = structure_of read names parts n
term_in read (list_node part n) = list_of read part n
term_in read (extension_node id part m) = extension_of read id part m
term_in read (fixed_size_list_node part k n) = fixed_size_list_of read part k n

unfoldable pub type_in : ℕ → List ℕ → Option Term
type_in zero b = None
type_in (suc levels) b = node_in b >>= term_in (type_in levels)
