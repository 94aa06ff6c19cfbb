-- What the reader finds is a message of the type, is legal and nests no deeper than it may.
use Rattle.std.proofs.Common.{◌≡◌, ℕ, zero, suc, ◌≤◌, true, cond, eqb, List, [], ◌∷◌, length, Option, Some, None, refl, sym, ap, subst, ◌∙◌, arith}
use Rattle.std.specs.Prelude.{IsSome}
use Rattle.std.specs.List.{list_all}
use Rattle.std.specs.Str.{is_utf8}
use Rattle.std.proofs.lemmas.Bool.{eqb-true}
use Rattle.std.proofs.lemmas.Option.{none-some, some_pair_parts}
use Rattle.std.proofs.lemmas.Str.{IsUtf8-from_is_utf8}
use Rattle.vortex_wire.specs.Field.{Field, fields_of}
use Rattle.vortex_wire.specs.Message.{only_field, singular_u32}
use Rattle.vortex_wire.specs.Inside.{bytes_in, bytes_fields, texts, singular_text, optional_bytes, message, flag, singular_i32}
use Rattle.vortex_wire.proofs.Options.{bound, guarded, refused, chosen, is_same}
use Rattle.vortex_wire.proofs.Bytes.{AreBytes, AllBytes, fields_are_bytes, message_is_bytes, optional_is_bytes, only_field_bytes}
use Rattle.vortex_wire.proofs.TextLaws.{both, texts_are_texts, singular_is_text, u32_below}
use Rattle.vortex_terms.specs.Term.{WholeKind, unsigned_8, unsigned_16, unsigned_32, unsigned_64, signed_8, signed_16, signed_32, signed_64, Term, null, boolean, primitive, decimal, utf8, binary, structure, list, extension, fixed_size_list, Fields}
use Rattle.vortex_terms.specs.TermCode.{kind_number}
use Rattle.vortex_terms.specs.Tests.{is_decimal}
use Rattle.vortex_terms.specs.TestLaws.{is_decimal-Decides}
use Rattle.vortex_terms.specs.Types.{Legal, LegalFields, levels, fields_levels, names_of, fields_from, is_extension}
use Rattle.vortex_proto.specs.declared.schema.TheConstants.{FIRST_KIND, LAST_KIND, PLAIN_NULLABLE, PRIMITIVE_PTYPE, PRIMITIVE_NULLABLE, DECIMAL_PRECISION, DECIMAL_SCALE, DECIMAL_NULLABLE, STRUCT_NAMES, STRUCT_DTYPES, STRUCT_NULLABLE, LIST_ELEMENT, LIST_NULLABLE, EXTENSION_ID, EXTENSION_STORAGE, EXTENSION_METADATA, FIXED_ELEMENT, FIXED_SIZE, FIXED_NULLABLE}
use Rattle.vortex_proto.specs.TypeMessage.{kind_and_body, IsTypeMessage, AreTypeMessages}
use Rattle.vortex_proto.specs.Reading.{Node, null_node, boolean_node, primitive_node, decimal_node, utf8_node, binary_node, structure_node, list_node, extension_node, fixed_size_list_node, ptype_from, null_in, boolean_in, primitive_in, decimal_in, utf8_in, binary_in, structure_in, list_in, extension_in, fixed_size_list_in, body_in, node_in, types_in, structure_of, list_of, extension_of, fixed_size_list_of, term_in, type_in}

-- the bytes are a message of the type, which is of so many levels at most
pub record IsFound (b : List ℕ) (n : ℕ) (t : Term) : Type 0 where
  pub stands : IsTypeMessage b t
  pub legal : Legal t
  pub few_levels : levels t ≤ n

-- the reader finds only what is so
abbrev pub Finds : ℕ → (List ℕ → Option Term) → Type 0
Finds n read = (part : List ℕ) (t : Term) → AreBytes part → read part ≡ Some t → IsFound part n t

-- ---- the message of the kind

pub body_bytes : (b : List ℕ) (x : ℕ × List ℕ) → kind_and_body b ≡ Some x → AreBytes b → AreBytes x.1
unfolding kind_and_body
body_bytes b x e h =
    let member = bound (only_field FIRST_KIND LAST_KIND b) _ x e in
    let found = bound member.0 _ x member.2 in
    let body = bound (bytes_in found.0.content) _ x found.2 in
    let held = only_field_bytes FIRST_KIND LAST_KIND b found.0 (member.1 ∙ ap (λ (o : Option Field). Some o) found.1) h in
    let parts = some_pair_parts found.0.number x.0 body.0 x.1 body.2 in
    subst AreBytes parts.1 (held body.0 body.1)

pub ptype_found : (n : ℕ) (k : WholeKind) → ptype_from n ≡ Some k → n ≡ kind_number k
ptype_found n k e =
    let G : Type 0 = n ≡ kind_number k in
    let here : (m : ℕ) (j : WholeKind) → kind_number j ≡ m → n ≡ m → Some j ≡ Some k → G = λ m j s a h. a ∙ sym s ∙ ap kind_number (is_same j k h) in
    chosen n 0 (Some unsigned_8) _ k G (here 0 unsigned_8 refl) (λ e.
    chosen n 1 (Some unsigned_16) _ k G (here 1 unsigned_16 refl) (λ e.
    chosen n 2 (Some unsigned_32) _ k G (here 2 unsigned_32 refl) (λ e.
    chosen n 3 (Some unsigned_64) _ k G (here 3 unsigned_64 refl) (λ e.
    chosen n 4 (Some signed_8) _ k G (here 4 signed_8 refl) (λ e.
    chosen n 5 (Some signed_16) _ k G (here 5 signed_16 refl) (λ e.
    chosen n 6 (Some signed_32) _ k G (here 6 signed_32 refl) (λ e.
    chosen n 7 (Some signed_64) None k G (here 7 signed_64 refl) (λ (e : None ≡ Some k). absurd (none-some k e)) e) e) e) e) e) e) e) e

-- ---- types without parts

leaf_found : (b : List ℕ) (n : ℕ) (t u : Term) → IsTypeMessage b t → Legal t → levels t ≡ 1 → Some t ≡ Some u → IsFound b (suc n) u
leaf_found b n t u stands legal one_level e =
    subst (IsFound b (suc n)) (is_same t u e) (record { stands = stands; legal = legal; few_levels = omega (arith, one_level) })

-- what the reader makes of one of two nodes that are the same
made : (read : List ℕ → Option Term) (node other : Node) (t : Term) → Some node ≡ Some other → term_in read other ≡ Some t → term_in read node ≡ Some t
made read node other t e h = ap (term_in read) (is_same node other e) ∙ h

some_there : {A : Type 0} (o : Option A) (x : A) → o ≡ Some x → IsSome o
some_there None x e = absurd cc
some_there (Some y) x e = refl

null_found : (b body : List ℕ) (n : ℕ) (read : List ℕ → Option Term) (node : Node) (t : Term) → kind_and_body b ≡ Some (1, body) → null_in body ≡ Some node → term_in read node ≡ Some t → IsFound b (suc n) t
unfolding null_in
null_found b body n read node t kind e h =
    let fields = bound (fields_of body) _ node e in
    leaf_found b n null t (body, kind, some_there (fields_of body) fields.0 fields.1) tt refl (made read null_node node t fields.2 h)

boolean_found : (b body : List ℕ) (n : ℕ) (read : List ℕ → Option Term) (node : Node) (t : Term) → kind_and_body b ≡ Some (2, body) → boolean_in body ≡ Some node → term_in read node ≡ Some t → IsFound b (suc n) t
unfolding boolean_in
boolean_found b body n read node t kind e h =
    let m = bound (flag PLAIN_NULLABLE body) _ node e in
    leaf_found b n (boolean m.0) t (body, kind, m.1) tt refl (made read (boolean_node m.0) node t m.2 h)

utf8_found : (b body : List ℕ) (n : ℕ) (read : List ℕ → Option Term) (node : Node) (t : Term) → kind_and_body b ≡ Some (5, body) → utf8_in body ≡ Some node → term_in read node ≡ Some t → IsFound b (suc n) t
unfolding utf8_in
utf8_found b body n read node t kind e h =
    let m = bound (flag PLAIN_NULLABLE body) _ node e in
    leaf_found b n (utf8 m.0) t (body, kind, m.1) tt refl (made read (utf8_node m.0) node t m.2 h)

binary_found : (b body : List ℕ) (n : ℕ) (read : List ℕ → Option Term) (node : Node) (t : Term) → kind_and_body b ≡ Some (6, body) → binary_in body ≡ Some node → term_in read node ≡ Some t → IsFound b (suc n) t
unfolding binary_in
binary_found b body n read node t kind e h =
    let m = bound (flag PLAIN_NULLABLE body) _ node e in
    leaf_found b n (binary m.0) t (body, kind, m.1) tt refl (made read (binary_node m.0) node t m.2 h)

primitive_found : (b body : List ℕ) (n : ℕ) (read : List ℕ → Option Term) (node : Node) (t : Term) → kind_and_body b ≡ Some (3, body) → primitive_in body ≡ Some node → term_in read node ≡ Some t → IsFound b (suc n) t
unfolding primitive_in
primitive_found b body n read node t kind e h =
    let number = bound (singular_u32 PRIMITIVE_PTYPE body) _ node e in
    let k = bound (ptype_from number.0) _ node number.2 in
    let m = bound (flag PRIMITIVE_NULLABLE body) _ node k.2 in
    leaf_found b n (primitive k.0 m.0) t (body, kind, number.1 ∙ ap (λ (n : ℕ). Some n) (ptype_found number.0 k.0 k.1), m.1) tt refl (made read (primitive_node k.0 m.0) node t m.2 h)

decimal_found : (b body : List ℕ) (n : ℕ) (read : List ℕ → Option Term) (node : Node) (t : Term) → kind_and_body b ≡ Some (4, body) → decimal_in body ≡ Some node → term_in read node ≡ Some t → IsFound b (suc n) t
unfolding decimal_in
decimal_found b body n read node t kind e h =
    let p = bound (singular_u32 DECIMAL_PRECISION body) _ node e in
    let s = bound (singular_i32 DECIMAL_SCALE body) _ node p.2 in
    let m = bound (flag DECIMAL_NULLABLE body) _ node s.2 in
    let g = guarded (is_decimal p.0 s.0) (decimal p.0 s.0 m.0) t (made read (decimal_node p.0 s.0 m.0) node t m.2 h) in
    leaf_found b n (decimal p.0 s.0 m.0) t (body, kind, p.1, s.1, m.1) ((is_decimal-Decides p.0 s.0).0 g.0) refl (ap (λ (u : Term). Some u) g.1)

-- ---- types around one part

list_found : (b body : List ℕ) (n : ℕ) (read : List ℕ → Option Term) (node : Node) (t : Term) → Finds n read → AreBytes body → kind_and_body b ≡ Some (8, body) → list_in body ≡ Some node → term_in read node ≡ Some t → IsFound b (suc n) t
unfolding list_in list_of
list_found b body n read node t finds bytes kind e h =
    let part = bound (message LIST_ELEMENT body) _ node e in
    let m = bound (flag LIST_NULLABLE body) _ node part.2 in
    let u = bound (read part.0) (λ u. Some (list u m.0)) t (made read (list_node part.0 m.0) node t m.2 h) in
    let found = finds part.0 u.0 (message_is_bytes LIST_ELEMENT body part.0 part.1 bytes) u.1 in
    subst (IsFound b (suc n)) (is_same (list u.0 m.0) t u.2) (record {
      stands = (body, part.0, kind, part.1, found.stands, m.1);
      legal = found.legal;
      few_levels = omega (arith, found.few_levels);
    })

fixed_found : (b body : List ℕ) (n : ℕ) (read : List ℕ → Option Term) (node : Node) (t : Term) → Finds n read → AreBytes body → kind_and_body b ≡ Some (10, body) → fixed_size_list_in body ≡ Some node → term_in read node ≡ Some t → IsFound b (suc n) t
unfolding fixed_size_list_in fixed_size_list_of
fixed_found b body n read node t finds bytes kind e h =
    let part = bound (message FIXED_ELEMENT body) _ node e in
    let k = bound (singular_u32 FIXED_SIZE body) _ node part.2 in
    let m = bound (flag FIXED_NULLABLE body) _ node k.2 in
    let u = bound (read part.0) (λ u. Some (fixed_size_list u k.0 m.0)) t (made read (fixed_size_list_node part.0 k.0 m.0) node t m.2 h) in
    let found = finds part.0 u.0 (message_is_bytes FIXED_ELEMENT body part.0 part.1 bytes) u.1 in
    subst (IsFound b (suc n)) (is_same (fixed_size_list u.0 k.0 m.0) t u.2) (record {
      stands = (body, part.0, kind, part.1, found.stands, k.1, m.1);
      legal = (u32_below FIXED_SIZE body k.0 k.1, found.legal);
      few_levels = omega (arith, found.few_levels);
    })

extension_found : (b body : List ℕ) (n : ℕ) (read : List ℕ → Option Term) (node : Node) (t : Term) → Finds n read → AreBytes body → kind_and_body b ≡ Some (9, body) → extension_in body ≡ Some node → term_in read node ≡ Some t → IsFound b (suc n) t
unfolding extension_in extension_of
extension_found b body n read node t finds bytes kind e h =
    let id = bound (singular_text EXTENSION_ID body) _ node e in
    let part = bound (message EXTENSION_STORAGE body) _ node id.2 in
    let m = bound (optional_bytes EXTENSION_METADATA body) _ node part.2 in
    let u = bound (read part.0) (λ u. cond (is_extension u) None (Some (extension id.0 u m.0))) t (made read (extension_node id.0 part.0 m.0) node t m.2 h) in
    let found = finds part.0 u.0 (message_is_bytes EXTENSION_STORAGE body part.0 part.1 bytes) u.1 in
    let g = refused (is_extension u.0) (extension id.0 u.0 m.0) t u.2 in
    subst (IsFound b (suc n)) g.1 (record {
      stands = (body, part.0, kind, id.1, part.1, found.stands, m.1);
      legal = (singular_is_text EXTENSION_ID body id.0 id.1, optional_is_bytes EXTENSION_METADATA body m.0 m.1 bytes, g.0, found.legal);
      few_levels = omega (arith, found.few_levels);
    })

-- ---- a struct

-- these are messages of the types of fields of these names
record AreFound (n : ℕ) (names parts : List (List ℕ)) (fs : Fields) : Type 0 where
  stand : AreTypeMessages parts fs
  names_are : names_of fs ≡ names
  legal : LegalFields fs
  few_levels : fields_levels fs ≤ n

fields_found : (n : ℕ) (read : List ℕ → Option Term) (names parts : List (List ℕ)) (ts : List Term) → Finds n read → AllBytes parts → list_all is_utf8 names ≡ true → length names ≡ length ts → types_in read parts ≡ Some ts → AreFound n names parts (fields_from names ts)
unfolding types_in
fields_found n read [] [] [] finds bytes utf8s same e = record { stand = tt; names_are = refl; legal = tt; few_levels = omega arith }
fields_found n read [] [] (t ∷ ts) finds bytes utf8s same e = absurd (omega (arith, same))
fields_found n read (x ∷ names) [] [] finds bytes utf8s same e = absurd (omega (arith, same))
fields_found n read (x ∷ names) [] (t ∷ ts) finds bytes utf8s same e = absurd (omega (arith, ap length (is_same [] (t ∷ ts) e)))
fields_found n read [] (part ∷ parts) ts finds bytes utf8s same e =
    let first = bound (read part) _ ts e in
    let others = bound (types_in read parts) (λ us. Some (first.0 ∷ us)) ts first.2 in
    absurd (omega (arith, same, ap length (is_same (first.0 ∷ others.0) ts others.2)))
fields_found n read (x ∷ names) (part ∷ parts) ts finds bytes utf8s same e =
    let first = bound (read part) _ ts e in
    let others = bound (types_in read parts) (λ us. Some (first.0 ∷ us)) ts first.2 in
    let made = is_same (first.0 ∷ others.0) ts others.2 in
    let texts = both (is_utf8 x) (list_all is_utf8 names) utf8s in
    let found = finds part first.0 bytes.0 first.1 in
    let more = fields_found n read names parts others.0 finds bytes.1 texts.1 (omega (arith, same, ap length made)) others.1 in
    subst (λ us. AreFound n (x ∷ names) (part ∷ parts) (fields_from (x ∷ names) us)) made (record {
      stand = (found.stands, more.stand);
      names_are = ap (λ ys. x ∷ ys) more.names_are;
      legal = (IsUtf8-from_is_utf8 x texts.0, found.legal, more.legal);
      few_levels = omega (arith, found.few_levels, more.few_levels);
    })

structure_found : (b body : List ℕ) (n : ℕ) (read : List ℕ → Option Term) (node : Node) (t : Term) → Finds n read → AreBytes body → kind_and_body b ≡ Some (7, body) → structure_in body ≡ Some node → term_in read node ≡ Some t → IsFound b (suc n) t
unfolding structure_in structure_of
structure_found b body n read node t finds bytes kind e h =
    let names = bound (texts STRUCT_NAMES body) _ node e in
    let parts = bound (bytes_fields STRUCT_DTYPES body) _ node names.2 in
    let m = bound (flag STRUCT_NULLABLE body) _ node parts.2 in
    let ts = bound (types_in read parts.0) (λ ts. cond (eqb (length names.0) (length ts)) (Some (structure (fields_from names.0 ts) m.0)) None) t (made read (structure_node names.0 parts.0 m.0) node t m.2 h) in
    let g = guarded (eqb (length names.0) (length ts.0)) (structure (fields_from names.0 ts.0) m.0) t ts.2 in
    let found = fields_found n read names.0 parts.0 ts.0 finds (fields_are_bytes STRUCT_DTYPES body parts.0 parts.1 bytes) (texts_are_texts STRUCT_NAMES body names.0 names.1) (eqb-true _ _ g.0) ts.1 in
    subst (IsFound b (suc n)) g.1 (record {
      stands = (body, parts.0, kind, names.1 ∙ ap (λ (xs : List (List ℕ)). Some xs) (sym found.names_are), parts.1, found.stand, m.1);
      legal = found.legal;
      few_levels = omega (arith, found.few_levels);
    })

-- ---- every type

body_found : (b body : List ℕ) (number n : ℕ) (read : List ℕ → Option Term) (node : Node) (t : Term) → Finds n read → AreBytes body → kind_and_body b ≡ Some (number, body) → body_in number body ≡ Some node → term_in read node ≡ Some t → IsFound b (suc n) t
unfolding body_in
body_found b body number n read node t finds bytes kind e h =
    let G : Type 0 = IsFound b (suc n) t in
    let of : (k : ℕ) → number ≡ k → kind_and_body b ≡ Some (k, body) = λ k s. kind ∙ ap (λ (j : ℕ). Some (j, body)) s in
    chosen number 1 (null_in body) _ node G (λ s e. null_found b body n read node t (of 1 s) e h) (λ e.
    chosen number 2 (boolean_in body) _ node G (λ s e. boolean_found b body n read node t (of 2 s) e h) (λ e.
    chosen number 3 (primitive_in body) _ node G (λ s e. primitive_found b body n read node t (of 3 s) e h) (λ e.
    chosen number 4 (decimal_in body) _ node G (λ s e. decimal_found b body n read node t (of 4 s) e h) (λ e.
    chosen number 5 (utf8_in body) _ node G (λ s e. utf8_found b body n read node t (of 5 s) e h) (λ e.
    chosen number 6 (binary_in body) _ node G (λ s e. binary_found b body n read node t (of 6 s) e h) (λ e.
    chosen number 7 (structure_in body) _ node G (λ s e. structure_found b body n read node t finds bytes (of 7 s) e h) (λ e.
    chosen number 8 (list_in body) _ node G (λ s e. list_found b body n read node t finds bytes (of 8 s) e h) (λ e.
    chosen number 9 (extension_in body) _ node G (λ s e. extension_found b body n read node t finds bytes (of 9 s) e h) (λ e.
    chosen number 10 (fixed_size_list_in body) None node G (λ s e. fixed_found b body n read node t finds bytes (of 10 s) e h) (λ (e : None ≡ Some node). absurd (none-some node e)) e) e) e) e) e) e) e) e) e) e

node_found : (b : List ℕ) (n : ℕ) (read : List ℕ → Option Term) (node : Node) (t : Term) → Finds n read → AreBytes b → node_in b ≡ Some node → term_in read node ≡ Some t → IsFound b (suc n) t
unfolding node_in
node_found b n read node t finds bytes e h =
    let kind = bound (kind_and_body b) (λ found. body_in found.0 found.1) node e in
    body_found b kind.0.1 kind.0.0 n read node t finds (body_bytes b kind.0 kind.1 bytes) kind.1 kind.2 h

-- what the reader finds is a message of the type
pub type_found : (n : ℕ) (b : List ℕ) (t : Term) → AreBytes b → type_in n b ≡ Some t → IsFound b n t
unfolding type_in
type_found zero b t bytes e = absurd (none-some t e)
type_found (suc n) b t bytes e =
    let node = bound (node_in b) (term_in (type_in n)) t e in
    node_found b n (type_in n) node.0 t (type_found n) bytes node.1 node.2
