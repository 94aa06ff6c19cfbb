-- The reader finds the type of a message where it is legal and nests no deeper than it may.
use Rattle.std.proofs.Common.{◌≡◌, ℕ, zero, suc, ◌-◌, ◌≤◌, Bool, true, false, eqb, List, [], ◌∷◌, length, Option, Some, None, ℤ, refl, sym, ap, ◌∙◌, arith}
use Rattle.std.specs.Prelude.{IsSome}
use Rattle.std.proofs.lemmas.Bool.{eq-eqb}
use Rattle.vortex_prelude.specs.Chain.{◌>>=◌}
use Rattle.vortex_wire.specs.Field.{Field, fields_of}
use Rattle.vortex_wire.specs.Message.{singular_u32}
use Rattle.vortex_wire.specs.Inside.{bytes_fields, texts, singular_text, optional_bytes, message, flag, singular_i32}
use Rattle.vortex_terms.specs.Term.{WholeKind, unsigned_8, unsigned_16, unsigned_32, unsigned_64, signed_8, signed_16, signed_32, signed_64, Term, null, boolean, primitive, decimal, utf8, binary, structure, list, extension, fixed_size_list, Fields, no_fields, field}
use Rattle.vortex_terms.specs.TermCode.{kind_number}
use Rattle.vortex_terms.specs.Tests.{is_decimal}
use Rattle.vortex_terms.specs.TestLaws.{is_decimal-Decides}
use Rattle.vortex_terms.specs.FieldLaws.{fields_from-parts, length-names_of, length-types_of}
use Rattle.vortex_terms.specs.Types.{Legal, LegalFields, levels, fields_levels, names_of, types_of, is_extension}
use Rattle.vortex_proto.specs.declared.schema.TheConstants.{PLAIN_NULLABLE, PRIMITIVE_PTYPE, PRIMITIVE_NULLABLE, DECIMAL_PRECISION, DECIMAL_SCALE, DECIMAL_NULLABLE, STRUCT_NAMES, STRUCT_DTYPES, STRUCT_NULLABLE, LIST_ELEMENT, LIST_NULLABLE, EXTENSION_ID, EXTENSION_STORAGE, EXTENSION_METADATA, FIXED_ELEMENT, FIXED_SIZE, FIXED_NULLABLE}
use Rattle.vortex_proto.specs.TypeMessage.{kind_and_body, IsTypeMessage, AreTypeMessages}
use Rattle.vortex_proto.specs.Reading.{Node, null_node, boolean_node, primitive_node, decimal_node, utf8_node, binary_node, structure_node, list_node, extension_node, fixed_size_list_node, ptype_from, null_in, boolean_in, primitive_in, decimal_in, utf8_in, binary_in, structure_in, list_in, extension_in, fixed_size_list_in, body_in, node_in, types_in, decimal_of, structure_of, list_of, extension_of, fixed_size_list_of, term_in, type_in}

one_level : (n : ℕ) (b : List ℕ) → 1 ≤ n → type_in n b ≡ (node_in b >>= term_in (type_in (n - 1)))
unfolding type_in
one_level zero b h = absurd (omega arith)
one_level (suc n) b h = let same : suc n - 1 ≡ n = omega arith in rw same refl

-- the type of a node
by_node : (n number : ℕ) (b body : List ℕ) (node : Node) (t : Term) → 1 ≤ n → kind_and_body b ≡ Some (number, body) → body_in number body ≡ Some node → term_in (type_in (n - 1)) node ≡ Some t → type_in n b ≡ Some t
unfolding node_in
by_node n number b body node t h kind e made = one_level n b h ∙ rw kind (rw e made)

null_there : (body : List ℕ) → IsSome (fields_of body) → body_in 1 body ≡ Some null_node
unfolding body_in null_in
null_there body e = by (fields_of body) e
  where
    by : (o : Option (List Field)) → IsSome o → (o >>= λ fields. Some null_node) ≡ Some null_node
    by None e = absurd cc
    by (Some fields) e = refl

boolean_there : (body : List ℕ) (n : Bool) → flag PLAIN_NULLABLE body ≡ Some n → body_in 2 body ≡ Some (boolean_node n)
unfolding body_in boolean_in
boolean_there body n e = rw e refl

utf8_there : (body : List ℕ) (n : Bool) → flag PLAIN_NULLABLE body ≡ Some n → body_in 5 body ≡ Some (utf8_node n)
unfolding body_in utf8_in
utf8_there body n e = rw e refl

binary_there : (body : List ℕ) (n : Bool) → flag PLAIN_NULLABLE body ≡ Some n → body_in 6 body ≡ Some (binary_node n)
unfolding body_in binary_in
binary_there body n e = rw e refl

ptype_again : (k : WholeKind) → ptype_from (kind_number k) ≡ Some k
ptype_again unsigned_8 = refl
ptype_again unsigned_16 = refl
ptype_again unsigned_32 = refl
ptype_again unsigned_64 = refl
ptype_again signed_8 = refl
ptype_again signed_16 = refl
ptype_again signed_32 = refl
ptype_again signed_64 = refl

primitive_there : (body : List ℕ) (k : WholeKind) (n : Bool) → singular_u32 PRIMITIVE_PTYPE body ≡ Some (kind_number k) → flag PRIMITIVE_NULLABLE body ≡ Some n → body_in 3 body ≡ Some (primitive_node k n)
unfolding body_in primitive_in
primitive_there body k n e h = rw e (rw (ptype_again k) (rw h refl))

decimal_there : (body : List ℕ) (p : ℕ) (s : ℤ) (n : Bool) → singular_u32 DECIMAL_PRECISION body ≡ Some p → singular_i32 DECIMAL_SCALE body ≡ Some s → flag DECIMAL_NULLABLE body ≡ Some n → body_in 4 body ≡ Some (decimal_node p s n)
unfolding body_in decimal_in
decimal_there body p s n e h g = rw e (rw h (rw g refl))

decimal_made : (p : ℕ) (s : ℤ) (n : Bool) → is_decimal p s ≡ true → decimal_of p s n ≡ Some (decimal p s n)
decimal_made p s n legal = rw legal refl

structure_there : (body : List ℕ) (names parts : List (List ℕ)) (n : Bool) → texts STRUCT_NAMES body ≡ Some names → bytes_fields STRUCT_DTYPES body ≡ Some parts → flag STRUCT_NULLABLE body ≡ Some n → body_in 7 body ≡ Some (structure_node names parts n)
unfolding body_in structure_in
structure_there body names parts n e h g = rw e (rw h (rw g refl))

list_there : (body part : List ℕ) (n : Bool) → message LIST_ELEMENT body ≡ Some part → flag LIST_NULLABLE body ≡ Some n → body_in 8 body ≡ Some (list_node part n)
unfolding body_in list_in
list_there body part n e h = rw e (rw h refl)

extension_there : (body id part : List ℕ) (m : Option (List ℕ)) → singular_text EXTENSION_ID body ≡ Some id → message EXTENSION_STORAGE body ≡ Some part → optional_bytes EXTENSION_METADATA body ≡ Some m → body_in 9 body ≡ Some (extension_node id part m)
unfolding body_in extension_in
extension_there body id part m e h g = rw e (rw h (rw g refl))

fixed_there : (body part : List ℕ) (k : ℕ) (n : Bool) → message FIXED_ELEMENT body ≡ Some part → singular_u32 FIXED_SIZE body ≡ Some k → flag FIXED_NULLABLE body ≡ Some n → body_in 10 body ≡ Some (fixed_size_list_node part k n)
unfolding body_in fixed_size_list_in
fixed_there body part k n e h g = rw e (rw h (rw g refl))

-- ---- types of parts

pub structure_made : (read : List ℕ → Option Term) (parts : List (List ℕ)) (fs : Fields) (n : Bool) → types_in read parts ≡ Some (types_of fs) → term_in read (structure_node (names_of fs) parts n) ≡ Some (structure fs n)
unfolding structure_of
structure_made read parts fs n e =
    let same : eqb (length (names_of fs)) (length (types_of fs)) ≡ true = eq-eqb _ _ (length-names_of fs ∙ sym (length-types_of fs)) in
    rw e (rw same (ap (λ (gs : Fields). Some (structure gs n)) (fields_from-parts fs)))

pub list_made : (read : List ℕ → Option Term) (part : List ℕ) (t : Term) (n : Bool) → read part ≡ Some t → term_in read (list_node part n) ≡ Some (list t n)
unfolding list_of
list_made read part t n e = rw e refl

pub extension_made : (read : List ℕ → Option Term) (id part : List ℕ) (t : Term) (m : Option (List ℕ)) → read part ≡ Some t → is_extension t ≡ false → term_in read (extension_node id part m) ≡ Some (extension id t m)
unfolding extension_of
extension_made read id part t m e plain = rw e (rw plain refl)

pub fixed_made : (read : List ℕ → Option Term) (part : List ℕ) (t : Term) (k : ℕ) (n : Bool) → read part ≡ Some t → term_in read (fixed_size_list_node part k n) ≡ Some (fixed_size_list t k n)
unfolding fixed_size_list_of
fixed_made read part t k n e = rw e refl

pub no_types_made : (read : List ℕ → Option Term) → types_in read [] ≡ Some []
unfolding types_in
no_types_made read = refl

pub types_made : (read : List ℕ → Option Term) (part : List ℕ) (parts : List (List ℕ)) (t : Term) (ts : List Term) → read part ≡ Some t → types_in read parts ≡ Some ts → types_in read (part ∷ parts) ≡ Some (t ∷ ts)
unfolding types_in
types_made read part parts t ts e h = rw e (rw h refl)

-- ---- every type

mutual
  pub type_there : (t : Term) (b : List ℕ) (n : ℕ) → IsTypeMessage b t → Legal t → levels t ≤ n → type_in n b ≡ Some t
  type_there null b n s legal lv = by_node n 1 b s.0 null_node null lv s.1 (null_there s.0 s.2) refl
  type_there (boolean f) b n s legal lv = by_node n 2 b s.0 (boolean_node f) (boolean f) lv s.1 (boolean_there s.0 f s.2) refl
  type_there (primitive k f) b n s legal lv = by_node n 3 b s.0 (primitive_node k f) (primitive k f) lv s.1 (primitive_there s.0 k f s.2 s.3) refl
  type_there (decimal p z f) b n s legal lv = by_node n 4 b s.0 (decimal_node p z f) (decimal p z f) lv s.1 (decimal_there s.0 p z f s.2 s.3 s.4) (decimal_made p z f ((is_decimal-Decides p z).1 legal))
  type_there (utf8 f) b n s legal lv = by_node n 5 b s.0 (utf8_node f) (utf8 f) lv s.1 (utf8_there s.0 f s.2) refl
  type_there (binary f) b n s legal lv = by_node n 6 b s.0 (binary_node f) (binary f) lv s.1 (binary_there s.0 f s.2) refl
  type_there (structure fs f) b n s legal lv =
      by_node n 7 b s.0 (structure_node (names_of fs) s.1 f) (structure fs f) (omega (arith, lv)) s.2 (structure_there s.0 (names_of fs) s.1 f s.3 s.4 s.6)
      (structure_made (type_in (n - 1)) s.1 fs f (types_there fs s.1 (n - 1) s.5 legal (omega (arith, lv))))
  type_there (list t f) b n s legal lv =
      by_node n 8 b s.0 (list_node s.1 f) (list t f) (omega (arith, lv)) s.2 (list_there s.0 s.1 f s.3 s.5)
      (list_made (type_in (n - 1)) s.1 t f (type_there t s.1 (n - 1) s.4 legal (omega (arith, lv))))
  type_there (extension id t m) b n s legal lv =
      by_node n 9 b s.0 (extension_node id s.1 m) (extension id t m) (omega (arith, lv)) s.2 (extension_there s.0 id s.1 m s.3 s.4 s.6)
      (extension_made (type_in (n - 1)) id s.1 t m (type_there t s.1 (n - 1) s.5 legal.3 (omega (arith, lv))) legal.2)
  type_there (fixed_size_list t k f) b n s legal lv =
      by_node n 10 b s.0 (fixed_size_list_node s.1 k f) (fixed_size_list t k f) (omega (arith, lv)) s.2 (fixed_there s.0 s.1 k f s.3 s.5 s.6)
      (fixed_made (type_in (n - 1)) s.1 t k f (type_there t s.1 (n - 1) s.4 legal.1 (omega (arith, lv))))

  types_there : (fs : Fields) (parts : List (List ℕ)) (n : ℕ) → AreTypeMessages parts fs → LegalFields fs → fields_levels fs ≤ n → types_in (type_in n) parts ≡ Some (types_of fs)
  types_there no_fields [] n s legal lv = no_types_made (type_in n)
  types_there no_fields (part ∷ parts) n s legal lv = absurd s
  types_there (field x t fs) [] n s legal lv = absurd s
  types_there (field x t fs) (part ∷ parts) n s legal lv =
      types_made (type_in n) part parts t (types_of fs) (type_there t part n s.0 legal.1 (omega (arith, lv))) (types_there fs parts n s.1 legal.2 (omega (arith, lv)))
