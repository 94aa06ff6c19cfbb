-- What the reader finds stands there, is legal and within the budgets, and leaves the rest of them.
use Rattle.std.proofs.Common.{◌≡◌, ℕ, zero, suc, ◌+◌, ◌-◌, ◌*◌, ◌≤◌, Bool, true, false, cond, eqb, leb, List, [], ◌∷◌, length, Option, Some, None, ℤ, pos, refl, sym, ap, subst, ◌∙◌, arith}
use Rattle.std.specs.Prelude.{option_and_then}
use Rattle.std.specs.Option.{option_map, option_map_or, option_flatten}
use Rattle.std.proofs.lemmas.Bool.{leb-true, eqb-true}
use Rattle.vortex_prelude.specs.Absent.{or_zero, or_else}
use Rattle.vortex_flat.specs.Targets.{VectorShape, number_field, signed_field, table_field, vector_field, bytes_field, text_field, table_element, text_element}
use Rattle.vortex_terms.specs.Term.{WholeKind, unsigned_8, unsigned_16, unsigned_32, unsigned_64, signed_8, signed_16, signed_32, signed_64, Term, null, boolean, primitive, decimal, utf8, binary, structure, list, extension, fixed_size_list, Fields, no_fields, field}
use Rattle.vortex_terms.specs.TermCode.{kind_number}
use Rattle.vortex_terms.specs.Tests.{is_decimal}
use Rattle.vortex_terms.specs.TestLaws.{is_decimal-Decides}
use Rattle.vortex_terms.specs.Types.{IsBytes, Legal, LegalFields, levels, nodes, text_length, fields_levels, fields_nodes, fields_text_length, field_count, is_extension}
use Rattle.vortex_schema.specs.declared.budget.Budget.{Budget}
use Rattle.vortex_schema.specs.declared.kind.TypeKind.{TypeKind}
use Rattle.vortex_schema.specs.declared.kind.TypeKind.TheVariants as kinds
use Rattle.vortex_schema.specs.Kind.{kind_from, is_extension_kind}
use Rattle.vortex_schema.specs.Schema.{flag}
use Rattle.vortex_schema.specs.declared.schema.TheConstants.{DTYPE_KIND, DTYPE_TABLE, PLAIN_NULLABLE, PRIMITIVE_PTYPE, PRIMITIVE_NULLABLE, DECIMAL_PRECISION, DECIMAL_SCALE, DECIMAL_NULLABLE, STRUCT_NAMES, STRUCT_DTYPES, STRUCT_NULLABLE, LIST_ELEMENT, LIST_NULLABLE, EXTENSION_ID, EXTENSION_STORAGE, EXTENSION_METADATA, FIXED_ELEMENT, FIXED_SIZE, FIXED_NULLABLE}
use Rattle.vortex_schema.specs.TypeAt.{IsKindAt, IsTypeAt, AreFieldsAt}
use Rattle.vortex_schema.specs.Budget.{after_node, after_text}
use Rattle.vortex_schema.specs.Reading.{Found, Reader, leaf, around, kind_at, ptype_from, primitive_at, decimal_at, named_type_at, fields_at, struct_at, list_at, storage_at, extension_at, fixed_at, body_at, dtype_at, type_at}
use Rattle.vortex_schema.proofs.Options.{bound, mapped, flattened, guarded, refused, chosen}
use Rattle.vortex_schema.proofs.Legal.{number_field_4-below, text_element-IsUtf8, text_field-IsUtf8, bytes_field-IsBytes}

-- what was found at p, of so many levels at most
pub record IsFound (b : List ℕ) (n : ℕ) (left : Budget) (p : ℕ) (f : Found Term) : Type 0 where
  pub stands : IsTypeAt b p f.found
  pub legal : Legal f.found
  pub few_levels : levels f.found ≤ n
  pub nodes_taken : f.left.nodes + nodes f.found ≡ left.nodes
  pub text_taken : f.left.text + text_length f.found ≡ left.text

-- the reader finds only what stands there
abbrev pub Finds : List ℕ → ℕ → Reader → Type 0
Finds b n read = (left : Budget) (p : ℕ) (f : Found Term) → read left p ≡ Some f → IsFound b n left p f

-- ---- budgets

one_node : (left rest : Budget) → after_node left ≡ Some rest → (rest.nodes + 1 ≡ left.nodes) × (rest.text ≡ left.text)
one_node left rest e =
    let g = guarded (leb 1 left.nodes) (record left { nodes = left.nodes - 1 }) rest e in
    let some : 1 ≤ left.nodes = leb-true _ _ g.0 in
    (omega (arith, ap (λ (x : Budget). x.nodes) g.1), sym (ap (λ (x : Budget). x.text) g.1))

some_text : (n : ℕ) (left rest : Budget) → after_text n left ≡ Some rest → (rest.text + n ≡ left.text) × (rest.nodes ≡ left.nodes)
some_text n left rest e =
    let g = guarded (leb n left.text) (record left { text = left.text - n }) rest e in
    let some : n ≤ left.text = leb-true _ _ g.0 in
    (omega (arith, ap (λ (x : Budget). x.text) g.1), sym (ap (λ (x : Budget). x.nodes) g.1))

-- what is left after the node of the type itself
record IsRest (left rest : Budget) : Type 0 where
  pub nodes_rest : rest.nodes + 1 ≡ left.nodes
  pub text_rest : rest.text ≡ left.text

-- ---- numbers of kinds

-- the number of a kind
abbrev pub number_of : TypeKind → ℕ
number_of kinds.Null = 1
number_of kinds.Bool = 2
number_of kinds.Primitive = 3
number_of kinds.Decimal = 4
number_of kinds.Utf8 = 5
number_of kinds.Binary = 6
number_of kinds.Struct = 7
number_of kinds.List = 8
number_of kinds.Extension = 9
number_of kinds.FixedSizeList = 10

pub kind_found : (n : ℕ) (k : TypeKind) → kind_from n ≡ Some k → n ≡ number_of k
kind_found n k e =
    let G : Type 0 = n ≡ number_of k in
    let here : (m : ℕ) (j : TypeKind) → number_of j ≡ m → n ≡ m → j ≡ k → G = λ m j s a h. a ∙ sym s ∙ ap number_of h in
    chosen n 1 kinds.Null _ k G (here 1 kinds.Null refl) (λ e.
    chosen n 2 kinds.Bool _ k G (here 2 kinds.Bool refl) (λ e.
    chosen n 3 kinds.Primitive _ k G (here 3 kinds.Primitive refl) (λ e.
    chosen n 4 kinds.Decimal _ k G (here 4 kinds.Decimal refl) (λ e.
    chosen n 5 kinds.Utf8 _ k G (here 5 kinds.Utf8 refl) (λ e.
    chosen n 6 kinds.Binary _ k G (here 6 kinds.Binary refl) (λ e.
    chosen n 7 kinds.Struct _ k G (here 7 kinds.Struct refl) (λ e.
    chosen n 8 kinds.List _ k G (here 8 kinds.List refl) (λ e.
    chosen n 9 kinds.Extension _ k G (here 9 kinds.Extension refl) (λ e.
    chosen n 10 kinds.FixedSizeList None k G (here 10 kinds.FixedSizeList refl) (λ (e : None ≡ Some k). absurd cc) e) e) e) e) e) e) e) e) e) e

pub ptype_found : (n : ℕ) (k : WholeKind) → ptype_from n ≡ Some k → n ≡ kind_number k
ptype_found n k e =
    let G : Type 0 = n ≡ kind_number k in
    let here : (m : ℕ) (j : WholeKind) → kind_number j ≡ m → n ≡ m → j ≡ k → G = λ m j s a h. a ∙ sym s ∙ ap kind_number h in
    chosen n 0 unsigned_8 _ k G (here 0 unsigned_8 refl) (λ e.
    chosen n 1 unsigned_16 _ k G (here 1 unsigned_16 refl) (λ e.
    chosen n 2 unsigned_32 _ k G (here 2 unsigned_32 refl) (λ e.
    chosen n 3 unsigned_64 _ k G (here 3 unsigned_64 refl) (λ e.
    chosen n 4 signed_8 _ k G (here 4 signed_8 refl) (λ e.
    chosen n 5 signed_16 _ k G (here 5 signed_16 refl) (λ e.
    chosen n 6 signed_32 _ k G (here 6 signed_32 refl) (λ e.
    chosen n 7 signed_64 None k G (here 7 signed_64 refl) (λ (e : None ≡ Some k). absurd cc) e) e) e) e) e) e) e) e

-- ---- a DType

-- a DType that was found, by its kind
record ByKind (b : List ℕ) (read : Reader) (left : Budget) (p : ℕ) (f : Found Term) : Type 0 where
  kind : TypeKind
  table : ℕ
  rest : Budget
  kind_is : or_zero (number_field b p DTYPE_KIND 1) ≡ Some (number_of kind)
  table_is : table_field b p DTYPE_TABLE ≡ Some (Some table)
  is_rest : IsRest left rest
  body : body_at b read kind rest table ≡ Some f

pub kind_stands : (b : List ℕ) (p : ℕ) (kind : TypeKind) → kind_at b p ≡ Some kind → or_zero (number_field b p DTYPE_KIND 1) ≡ Some (number_of kind)
unfolding kind_at
kind_stands b p kind e =
    let n = bound (or_zero (number_field b p DTYPE_KIND 1)) kind_from kind e in
    n.1 ∙ ap Some (kind_found n.0 kind n.2)

by_kind : (b : List ℕ) (read : Reader) (left : Budget) (p : ℕ) (f : Found Term) → dtype_at b read left p ≡ Some f → ByKind b read left p f
unfolding dtype_at
by_kind b read left p f e =
    let kind = bound (kind_at b p) (λ kind. option_and_then (λ q. option_and_then (λ rest. body_at b read kind rest q) (after_node left)) (option_flatten (table_field b p DTYPE_TABLE))) f e in
    let q = bound (option_flatten (table_field b p DTYPE_TABLE)) (λ q. option_and_then (λ rest. body_at b read kind.0 rest q) (after_node left)) f kind.2 in
    let rest = bound (after_node left) (λ rest. body_at b read kind.0 rest q.0) f q.2 in
    let one = one_node left rest.0 rest.1 in
    record {
      kind = kind.0;
      table = q.0;
      rest = rest.0;
      kind_is = kind_stands b p kind.0 kind.1;
      table_is = flattened (table_field b p DTYPE_TABLE) q.0 q.1;
      is_rest = record { nodes_rest = one.0; text_rest = one.1 };
      body = rest.2;
    }

-- ---- types without parts

leaf_found : (b : List ℕ) (n p : ℕ) (left rest : Budget) (t : Term) (f : Found Term) → IsTypeAt b p t → Legal t → levels t ≡ 1 → nodes t ≡ 1 → text_length t ≡ 0 → IsRest left rest → leaf rest (Some t) ≡ Some f → IsFound b (suc n) left p f
leaf_found b n p left rest t f stands legal one_level one_node no_text is_rest e =
    let same : record { found = t; left = rest } ≡ f = cc in
    subst (IsFound b (suc n) left p) same (record {
      stands = stands;
      legal = legal;
      few_levels = omega (arith, one_level);
      nodes_taken = omega (arith, one_node, is_rest.nodes_rest);
      text_taken = omega (arith, no_text, is_rest.text_rest);
    })

leaf_some : (rest : Budget) (o : Option Term) (f : Found Term) → leaf rest o ≡ Some f → (t : Term) × (o ≡ Some t) × (leaf rest (Some t) ≡ Some f)
leaf_some rest None f e = absurd cc
leaf_some rest (Some t) f e = (t, refl, e)

null_found : (b : List ℕ) (n p q : ℕ) (left rest : Budget) (f : Found Term) → IsKindAt b p null q → IsRest left rest → leaf rest (Some null) ≡ Some f → IsFound b (suc n) left p f
null_found b n p q left rest f kind is_rest e = leaf_found b n p left rest null f (q, kind) tt refl refl refl is_rest e

bool_found : (b : List ℕ) (n p q : ℕ) (left rest : Budget) (f : Found Term) → IsKindAt b p (boolean true) q → IsRest left rest → leaf rest (option_map boolean (flag b q PLAIN_NULLABLE)) ≡ Some f → IsFound b (suc n) left p f
bool_found b n p q left rest f kind is_rest e =
    let t = leaf_some rest (option_map boolean (flag b q PLAIN_NULLABLE)) f e in
    let m = mapped boolean (flag b q PLAIN_NULLABLE) t.0 t.1 in
    leaf_found b n p left rest (boolean m.0) f (q, kind, m.1) tt refl refl refl is_rest (ap (λ u. leaf rest (Some u)) m.2 ∙ t.2)

utf8_found : (b : List ℕ) (n p q : ℕ) (left rest : Budget) (f : Found Term) → IsKindAt b p (utf8 true) q → IsRest left rest → leaf rest (option_map utf8 (flag b q PLAIN_NULLABLE)) ≡ Some f → IsFound b (suc n) left p f
utf8_found b n p q left rest f kind is_rest e =
    let t = leaf_some rest (option_map utf8 (flag b q PLAIN_NULLABLE)) f e in
    let m = mapped utf8 (flag b q PLAIN_NULLABLE) t.0 t.1 in
    leaf_found b n p left rest (utf8 m.0) f (q, kind, m.1) tt refl refl refl is_rest (ap (λ u. leaf rest (Some u)) m.2 ∙ t.2)

binary_found : (b : List ℕ) (n p q : ℕ) (left rest : Budget) (f : Found Term) → IsKindAt b p (binary true) q → IsRest left rest → leaf rest (option_map binary (flag b q PLAIN_NULLABLE)) ≡ Some f → IsFound b (suc n) left p f
binary_found b n p q left rest f kind is_rest e =
    let t = leaf_some rest (option_map binary (flag b q PLAIN_NULLABLE)) f e in
    let m = mapped binary (flag b q PLAIN_NULLABLE) t.0 t.1 in
    leaf_found b n p left rest (binary m.0) f (q, kind, m.1) tt refl refl refl is_rest (ap (λ u. leaf rest (Some u)) m.2 ∙ t.2)

-- what a Primitive's table says
record ByPrimitive (b : List ℕ) (q : ℕ) (t : Term) : Type 0 where
  whole_kind : WholeKind
  flagged : Bool
  kind_is : or_zero (number_field b q PRIMITIVE_PTYPE 1) ≡ Some (kind_number whole_kind)
  flag_is : flag b q PRIMITIVE_NULLABLE ≡ Some flagged
  type_is : primitive whole_kind flagged ≡ t

by_primitive : (b : List ℕ) (q : ℕ) (t : Term) → primitive_at b q ≡ Some t → ByPrimitive b q t
unfolding primitive_at
by_primitive b q t e =
    let k = bound (option_and_then ptype_from (or_zero (number_field b q PRIMITIVE_PTYPE 1))) (λ k. option_and_then (λ n. Some (primitive k n)) (flag b q PRIMITIVE_NULLABLE)) t e in
    let m = bound (or_zero (number_field b q PRIMITIVE_PTYPE 1)) ptype_from k.0 k.1 in
    let n = bound (flag b q PRIMITIVE_NULLABLE) (λ n. Some (primitive k.0 n)) t k.2 in
    record { whole_kind = k.0; flagged = n.0; kind_is = m.1 ∙ ap Some (ptype_found m.0 k.0 m.2); flag_is = n.1; type_is = some_is (primitive k.0 n.0) t n.2 }
  where
    some_is : (u v : Term) → Some u ≡ Some v → u ≡ v
    some_is u v e = cc

primitive_found : (b : List ℕ) (n p q : ℕ) (left rest : Budget) (f : Found Term) → IsKindAt b p (primitive unsigned_8 true) q → IsRest left rest → leaf rest (primitive_at b q) ≡ Some f → IsFound b (suc n) left p f
primitive_found b n p q left rest f kind is_rest e =
    let t = leaf_some rest (primitive_at b q) f e in
    let m = by_primitive b q t.0 t.1 in
    leaf_found b n p left rest (primitive m.whole_kind m.flagged) f (q, kind, m.kind_is, m.flag_is) tt refl refl refl is_rest (ap (λ u. leaf rest (Some u)) m.type_is ∙ t.2)

-- what a Decimal's table says
record ByDecimal (b : List ℕ) (q : ℕ) (t : Term) : Type 0 where
  precision : ℕ
  scale : ℤ
  flagged : Bool
  precision_is : or_zero (number_field b q DECIMAL_PRECISION 1) ≡ Some precision
  scale_is : or_else (pos 0) (signed_field b q DECIMAL_SCALE) ≡ Some scale
  flag_is : flag b q DECIMAL_NULLABLE ≡ Some flagged
  in_range : is_decimal precision scale ≡ true
  type_is : decimal precision scale flagged ≡ t

by_decimal : (b : List ℕ) (q : ℕ) (t : Term) → decimal_at b q ≡ Some t → ByDecimal b q t
unfolding decimal_at
by_decimal b q t e =
    let s = bound (or_zero (number_field b q DECIMAL_PRECISION 1)) (λ s. option_and_then (λ z. option_and_then (λ n. cond (is_decimal s z) (Some (decimal s z n)) None) (flag b q DECIMAL_NULLABLE)) (or_else (pos 0) (signed_field b q DECIMAL_SCALE))) t e in
    let z = bound (or_else (pos 0) (signed_field b q DECIMAL_SCALE)) (λ z. option_and_then (λ n. cond (is_decimal s.0 z) (Some (decimal s.0 z n)) None) (flag b q DECIMAL_NULLABLE)) t s.2 in
    let n = bound (flag b q DECIMAL_NULLABLE) (λ n. cond (is_decimal s.0 z.0) (Some (decimal s.0 z.0 n)) None) t z.2 in
    let g = guarded (is_decimal s.0 z.0) (decimal s.0 z.0 n.0) t n.2 in
    record { precision = s.0; scale = z.0; flagged = n.0; precision_is = s.1; scale_is = z.1; flag_is = n.1; in_range = g.0; type_is = g.1 }

decimal_found : (b : List ℕ) (n p q : ℕ) (left rest : Budget) (f : Found Term) → IsKindAt b p (decimal 0 (pos 0) true) q → IsRest left rest → leaf rest (decimal_at b q) ≡ Some f → IsFound b (suc n) left p f
decimal_found b n p q left rest f kind is_rest e =
    let t = leaf_some rest (decimal_at b q) f e in
    let m = by_decimal b q t.0 t.1 in
    leaf_found b n p left rest (decimal m.precision m.scale m.flagged) f (q, kind, m.precision_is, m.scale_is, m.flag_is) ((is_decimal-Decides m.precision m.scale).0 m.in_range) refl refl refl is_rest (ap (λ u. leaf rest (Some u)) m.type_is ∙ t.2)

-- ---- types around one part

around_some : (make : Term → Term) (part : Option (Found Term)) (f : Found Term) → around make part ≡ Some f → (g : Found Term) × (part ≡ Some g) × (record { found = make g.found; left = g.left } ≡ f)
around_some make None f e = absurd cc
around_some make (Some g) f e = (g, refl, cc)

one_part : (b : List ℕ) (n p r extra : ℕ) (left rest : Budget) (t : Term) (g f : Found Term) → IsTypeAt b p t → Legal t → levels t ≡ 1 + levels g.found → nodes t ≡ 1 + nodes g.found → text_length t ≡ extra + text_length g.found
    → rest.nodes + 1 ≡ left.nodes → rest.text + extra ≡ left.text → IsFound b n rest r g → record { found = t; left = g.left } ≡ f → IsFound b (suc n) left p f
one_part b n p r extra left rest t g f stands legal more_levels more_nodes more_text nodes_rest text_rest part e =
    subst (IsFound b (suc n) left p) e (record {
      stands = stands;
      legal = legal;
      few_levels = omega (arith, more_levels, part.few_levels);
      nodes_taken = omega (arith, more_nodes, part.nodes_taken, nodes_rest);
      text_taken = omega (arith, more_text, part.text_taken, text_rest);
    })

list_found : (b : List ℕ) (n p q : ℕ) (read : Reader) (left rest : Budget) (f : Found Term) → Finds b n read → IsKindAt b p (list null true) q → IsRest left rest → list_at b read rest q ≡ Some f → IsFound b (suc n) left p f
unfolding list_at
list_found b n p q read left rest f finds kind is_rest e =
    let r = bound (option_flatten (table_field b q LIST_ELEMENT)) (λ r. option_and_then (λ m. around (λ t. list t m) (read rest r)) (flag b q LIST_NULLABLE)) f e in
    let m = bound (flag b q LIST_NULLABLE) (λ m. around (λ t. list t m) (read rest r.0)) f r.2 in
    let g = around_some (λ t. list t m.0) (read rest r.0) f m.2 in
    let part = finds rest r.0 g.0 g.1 in
    one_part b n p r.0 0 left rest (list g.0.found m.0) g.0 f (q, r.0, kind, flattened (table_field b q LIST_ELEMENT) r.0 r.1, part.stands, m.1) part.legal
    (omega arith) (omega arith) (omega arith) is_rest.nodes_rest (omega (arith, is_rest.text_rest)) part g.2

fixed_found : (b : List ℕ) (n p q : ℕ) (read : Reader) (left rest : Budget) (f : Found Term) → IsBytes b → Finds b n read → IsKindAt b p (fixed_size_list null 0 true) q → IsRest left rest → fixed_at b read rest q ≡ Some f → IsFound b (suc n) left p f
unfolding fixed_at
fixed_found b n p q read left rest f bytes finds kind is_rest e =
    let r = bound (option_flatten (table_field b q FIXED_ELEMENT)) (λ r. option_and_then (λ k. option_and_then (λ m. around (λ t. fixed_size_list t k m) (read rest r)) (flag b q FIXED_NULLABLE)) (or_zero (number_field b q FIXED_SIZE 4))) f e in
    let k = bound (or_zero (number_field b q FIXED_SIZE 4)) (λ k. option_and_then (λ m. around (λ t. fixed_size_list t k m) (read rest r.0)) (flag b q FIXED_NULLABLE)) f r.2 in
    let m = bound (flag b q FIXED_NULLABLE) (λ m. around (λ t. fixed_size_list t k.0 m) (read rest r.0)) f k.2 in
    let g = around_some (λ t. fixed_size_list t k.0 m.0) (read rest r.0) f m.2 in
    let part = finds rest r.0 g.0 g.1 in
    one_part b n p r.0 0 left rest (fixed_size_list g.0.found k.0 m.0) g.0 f (q, r.0, kind, flattened (table_field b q FIXED_ELEMENT) r.0 r.1, part.stands, k.1, m.1) (number_field_4-below b q FIXED_SIZE k.0 bytes k.1, part.legal)
    (omega arith) (omega arith) (omega arith) is_rest.nodes_rest (omega (arith, is_rest.text_rest)) part g.2

-- the storage of an extension
record ByStorage (b : List ℕ) (q r : ℕ) : Type 0 where
  kind : TypeKind
  place_is : table_field b q EXTENSION_STORAGE ≡ Some (Some r)
  kind_is : or_zero (number_field b r DTYPE_KIND 1) ≡ Some (number_of kind)
  not_extension : is_extension_kind kind ≡ false

by_storage : (b : List ℕ) (q r : ℕ) → storage_at b q ≡ Some r → ByStorage b q r
unfolding storage_at
by_storage b q r e =
    let s = bound (option_flatten (table_field b q EXTENSION_STORAGE)) (λ s. option_and_then (λ kind. cond (is_extension_kind kind) None (Some s)) (kind_at b s)) r e in
    let k = bound (kind_at b s.0) (λ kind. cond (is_extension_kind kind) None (Some s.0)) r s.2 in
    let g = refused (is_extension_kind k.0) s.0 r k.2 in
    record {
      kind = k.0;
      place_is = flattened (table_field b q EXTENSION_STORAGE) s.0 s.1 ∙ ap (λ x. Some (Some x)) g.1;
      kind_is = ap (λ x. or_zero (number_field b x DTYPE_KIND 1)) (sym g.1) ∙ kind_stands b s.0 k.0 k.1;
      not_extension = g.0;
    }

-- the type at the place of such a storage is no extension
plain_kind : (k : TypeKind) → is_extension_kind k ≡ false → number_of k ≡ 9 → ⊥
plain_kind kinds.Null e h = omega arith
plain_kind kinds.Bool e h = omega arith
plain_kind kinds.Primitive e h = omega arith
plain_kind kinds.Decimal e h = omega arith
plain_kind kinds.Utf8 e h = omega arith
plain_kind kinds.Binary e h = omega arith
plain_kind kinds.Struct e h = omega arith
plain_kind kinds.List e h = omega arith
plain_kind kinds.Extension e h = cc
plain_kind kinds.FixedSizeList e h = omega arith

some_number : (m n : ℕ) → Some m ≡ Some n → m ≡ n
some_number m n e = cc

plain_type : (b : List ℕ) (r : ℕ) (k : TypeKind) (t : Term) → or_zero (number_field b r DTYPE_KIND 1) ≡ Some (number_of k) → is_extension_kind k ≡ false → IsTypeAt b r t → is_extension t ≡ false
plain_type b r k null e h s = refl
plain_type b r k (boolean n) e h s = refl
plain_type b r k (primitive l n) e h s = refl
plain_type b r k (decimal p z n) e h s = refl
plain_type b r k (utf8 n) e h s = refl
plain_type b r k (binary n) e h s = refl
plain_type b r k (structure fs n) e h s = refl
plain_type b r k (list t n) e h s = refl
plain_type b r k (extension id t m) e h s = absurd (plain_kind k h (some_number (number_of k) 9 (sym e ∙ s.2.0)))
plain_type b r k (fixed_size_list t l n) e h s = refl

extension_found : (b : List ℕ) (n p q : ℕ) (read : Reader) (left rest : Budget) (f : Found Term) → IsBytes b → Finds b n read → IsKindAt b p (extension [] null None) q → IsRest left rest → extension_at b read rest q ≡ Some f → IsFound b (suc n) left p f
unfolding extension_at
extension_found b n p q read left rest f bytes finds kind is_rest e =
    let id = bound (option_flatten (text_field b q EXTENSION_ID)) (λ id. option_and_then (λ m. option_and_then (λ rest. option_and_then (λ r. around (λ t. extension id t m) (read rest r)) (storage_at b q)) (after_text (length id + option_map_or length m 0) rest)) (bytes_field b q EXTENSION_METADATA)) f e in
    let m = bound (bytes_field b q EXTENSION_METADATA) (λ m. option_and_then (λ rest. option_and_then (λ r. around (λ t. extension id.0 t m) (read rest r)) (storage_at b q)) (after_text (length id.0 + option_map_or length m 0) rest)) f id.2 in
    let extra = length id.0 + option_map_or length m.0 0 in
    let next = bound (after_text extra rest) (λ rest. option_and_then (λ r. around (λ t. extension id.0 t m.0) (read rest r)) (storage_at b q)) f m.2 in
    let r = bound (storage_at b q) (λ r. around (λ t. extension id.0 t m.0) (read next.0 r)) f next.2 in
    let g = around_some (λ t. extension id.0 t m.0) (read next.0 r.0) f r.2 in
    let part = finds next.0 r.0 g.0 g.1 in
    let storage = by_storage b q r.0 r.1 in
    let spent = some_text extra rest next.0 next.1 in
    let id_is = flattened (text_field b q EXTENSION_ID) id.0 id.1 in
    one_part b n p r.0 extra left next.0 (extension id.0 g.0.found m.0) g.0 f
    (q, r.0, kind, id_is, storage.place_is, part.stands, m.1)
    (text_field-IsUtf8 b q EXTENSION_ID id.0 id_is, bytes_field-IsBytes b q EXTENSION_METADATA m.0 bytes m.1, plain_type b r.0 storage.kind g.0.found storage.kind_is storage.not_extension part.stands, part.legal)
    (omega arith) (omega arith) (omega arith) (omega (arith, spent.1, is_rest.nodes_rest)) (omega (arith, spent.0, is_rest.text_rest)) part g.2

-- ---- a Struct

-- fields that were found from the i-th on
pub record AreFound (b : List ℕ) (n : ℕ) (names types : VectorShape) (count i : ℕ) (left : Budget) (f : Found Fields) : Type 0 where
  pub stand : AreFieldsAt b names types i f.found
  pub legal : LegalFields f.found
  pub count_is : field_count f.found ≡ count
  pub few_levels : fields_levels f.found ≤ n
  pub nodes_taken : f.left.nodes + fields_nodes f.found ≡ left.nodes
  pub text_taken : f.left.text + fields_text_length f.found ≡ left.text

-- a field that was found
record ByField (b : List ℕ) (n : ℕ) (names types : VectorShape) (i : ℕ) (left : Budget) (f : Found (List ℕ × Term)) : Type 0 where
  name_is : text_element b names i ≡ Some f.found.0
  place : ℕ
  place_is : table_element b types i ≡ Some place
  rest : Budget
  type_is : IsFound b n rest place (record { found = f.found.1; left = f.left })
  nodes_rest : rest.nodes ≡ left.nodes
  text_rest : rest.text + length f.found.0 ≡ left.text

some_named : (x : List ℕ) (g : Found Term) (f : Found (List ℕ × Term)) → Some (record { found = (x, g.found); left = g.left }) ≡ Some f → record { found = (x, g.found); left = g.left } ≡ f
some_named x g f e = cc

by_field : (b : List ℕ) (n : ℕ) (read : Reader) (names types : VectorShape) (i : ℕ) (left : Budget) (f : Found (List ℕ × Term)) → Finds b n read → named_type_at b read names types i left ≡ Some f → ByField b n names types i left f
unfolding named_type_at
by_field b n read names types i left f finds e =
    let x = bound (text_element b names i) (λ x. option_and_then (λ rest. option_and_then (λ r. option_and_then (λ (g : Found Term). Some (record { found = (x, g.found); left = g.left })) (read rest r)) (table_element b types i)) (after_text (length x) left)) f e in
    let rest = bound (after_text (length x.0) left) (λ rest. option_and_then (λ r. option_and_then (λ (g : Found Term). Some (record { found = (x.0, g.found); left = g.left })) (read rest r)) (table_element b types i)) f x.2 in
    let r = bound (table_element b types i) (λ r. option_and_then (λ (g : Found Term). Some (record { found = (x.0, g.found); left = g.left })) (read rest.0 r)) f rest.2 in
    let g = bound (read rest.0 r.0) (λ (g : Found Term). Some (record { found = (x.0, g.found); left = g.left })) f r.2 in
    let spent = some_text (length x.0) left rest.0 rest.1 in
    subst (ByField b n names types i left) (some_named x.0 g.0 f g.2) (record {
      name_is = x.1;
      place = r.0;
      place_is = r.1;
      rest = rest.0;
      type_is = finds rest.0 r.0 g.0 g.1;
      nodes_rest = spent.1;
      text_rest = spent.0;
    })

some_fields : (f g : Found Fields) → Some f ≡ Some g → f ≡ g
some_fields f g e = cc

one_more : (b : List ℕ) (n : ℕ) (names types : VectorShape) (count i : ℕ) (left : Budget) (first : Found (List ℕ × Term)) (others : Found Fields) → ByField b n names types i left first → AreFound b n names types count (i + 1) first.left others
    → AreFound b n names types (suc count) i left (record { found = field first.found.0 first.found.1 others.found; left = others.left })
one_more b n names types count i left first others one more = record {
  stand = (one.name_is, (one.place, one.place_is, one.type_is.stands), subst (λ j. AreFieldsAt b names types j others.found) (let next : i + 1 ≡ suc i = omega arith in next) more.stand);
  legal = (text_element-IsUtf8 b names i first.found.0 one.name_is, one.type_is.legal, more.legal);
  count_is = ap suc more.count_is;
  few_levels = omega (arith, one.type_is.few_levels, more.few_levels);
  nodes_taken = omega (arith, one.nodes_rest, one.type_is.nodes_taken, more.nodes_taken);
  text_taken = omega (arith, one.text_rest, one.type_is.text_taken, more.text_taken);
}

pub fields_found : (b : List ℕ) (n : ℕ) (read : Reader) (names types : VectorShape) (count i : ℕ) (left : Budget) (f : Found Fields) → Finds b n read → fields_at b read names types count i left ≡ Some f → AreFound b n names types count i left f
unfolding fields_at
fields_found b n read names types zero i left f finds e =
    subst (AreFound b n names types zero i left) (some_fields (record { found = no_fields; left = left }) f e) (record { stand = tt; legal = tt; count_is = refl; few_levels = omega arith; nodes_taken = omega arith; text_taken = omega arith })
fields_found b n read names types (suc count) i left f finds e =
    let first = bound (named_type_at b read names types i left) (λ first. option_and_then (λ (others : Found Fields). Some (record { found = field first.found.0 first.found.1 others.found; left = others.left })) (fields_at b read names types count (i + 1) first.left)) f e in
    let others = bound (fields_at b read names types count (i + 1) first.0.left) (λ (others : Found Fields). Some (record { found = field first.0.found.0 first.0.found.1 others.found; left = others.left })) f first.2 in
    subst (AreFound b n names types (suc count) i left) (some_fields (record { found = field first.0.found.0 first.0.found.1 others.0.found; left = others.0.left }) f others.2)
    (one_more b n names types count i left first.0 others.0 (by_field b n read names types i left first.0 finds first.1) (fields_found b n read names types count (i + 1) first.0.left others.0 finds others.1))

some_found : (f g : Found Term) → Some f ≡ Some g → f ≡ g
some_found f g e = cc

struct_found : (b : List ℕ) (n p q : ℕ) (read : Reader) (left rest : Budget) (f : Found Term) → Finds b n read → IsKindAt b p (structure no_fields true) q → IsRest left rest → struct_at b read rest q ≡ Some f → IsFound b (suc n) left p f
unfolding struct_at
struct_found b n p q read left rest f finds kind is_rest e =
    let names = bound (option_flatten (vector_field b q STRUCT_NAMES 4)) (λ names. option_and_then (λ types. option_and_then (λ m. option_and_then (λ count. option_and_then (λ (fs : Found Fields). Some (record { found = structure fs.found m; left = fs.left })) (fields_at b read names types count 0 rest)) (cond (eqb names.count types.count) (Some names.count) None)) (flag b q STRUCT_NULLABLE)) (option_flatten (vector_field b q STRUCT_DTYPES 4))) f e in
    let types = bound (option_flatten (vector_field b q STRUCT_DTYPES 4)) (λ types. option_and_then (λ m. option_and_then (λ count. option_and_then (λ (fs : Found Fields). Some (record { found = structure fs.found m; left = fs.left })) (fields_at b read names.0 types count 0 rest)) (cond (eqb names.0.count types.count) (Some names.0.count) None)) (flag b q STRUCT_NULLABLE)) f names.2 in
    let m = bound (flag b q STRUCT_NULLABLE) (λ m. option_and_then (λ count. option_and_then (λ (fs : Found Fields). Some (record { found = structure fs.found m; left = fs.left })) (fields_at b read names.0 types.0 count 0 rest)) (cond (eqb names.0.count types.0.count) (Some names.0.count) None)) f types.2 in
    let count = bound (cond (eqb names.0.count types.0.count) (Some names.0.count) None) (λ count. option_and_then (λ (fs : Found Fields). Some (record { found = structure fs.found m.0; left = fs.left })) (fields_at b read names.0 types.0 count 0 rest)) f m.2 in
    let fs = bound (fields_at b read names.0 types.0 count.0 0 rest) (λ (fs : Found Fields). Some (record { found = structure fs.found m.0; left = fs.left })) f count.2 in
    let g = guarded (eqb names.0.count types.0.count) names.0.count count.0 count.1 in
    let same : names.0.count ≡ types.0.count = eqb-true _ _ g.0 in
    let found = fields_found b n read names.0 types.0 count.0 0 rest fs.0 finds fs.1 in
    subst (IsFound b (suc n) left p) (some_found (record { found = structure fs.0.found m.0; left = fs.0.left }) f fs.2) (record {
      stands = (q, names.0, types.0, kind, flattened (vector_field b q STRUCT_NAMES 4) names.0 names.1, g.1 ∙ sym found.count_is, flattened (vector_field b q STRUCT_DTYPES 4) types.0 types.1, sym same ∙ g.1 ∙ sym found.count_is, found.stand, m.1);
      legal = found.legal;
      few_levels = omega (arith, found.few_levels);
      nodes_taken = omega (arith, found.nodes_taken, is_rest.nodes_rest);
      text_taken = omega (arith, found.text_taken, is_rest.text_rest);
    })

-- ---- every type

body_found : (b : List ℕ) (n p q : ℕ) (read : Reader) (kind : TypeKind) (left rest : Budget) (f : Found Term) → IsBytes b → Finds b n read → or_zero (number_field b p DTYPE_KIND 1) ≡ Some (number_of kind) → table_field b p DTYPE_TABLE ≡ Some (Some q) → IsRest left rest
    → body_at b read kind rest q ≡ Some f → IsFound b (suc n) left p f
body_found b n p q read kinds.Null left rest f bytes finds k t is_rest e = null_found b n p q left rest f (k, t) is_rest e
body_found b n p q read kinds.Bool left rest f bytes finds k t is_rest e = bool_found b n p q left rest f (k, t) is_rest e
body_found b n p q read kinds.Primitive left rest f bytes finds k t is_rest e = primitive_found b n p q left rest f (k, t) is_rest e
body_found b n p q read kinds.Decimal left rest f bytes finds k t is_rest e = decimal_found b n p q left rest f (k, t) is_rest e
body_found b n p q read kinds.Utf8 left rest f bytes finds k t is_rest e = utf8_found b n p q left rest f (k, t) is_rest e
body_found b n p q read kinds.Binary left rest f bytes finds k t is_rest e = binary_found b n p q left rest f (k, t) is_rest e
body_found b n p q read kinds.Struct left rest f bytes finds k t is_rest e = struct_found b n p q read left rest f finds (k, t) is_rest e
body_found b n p q read kinds.List left rest f bytes finds k t is_rest e = list_found b n p q read left rest f finds (k, t) is_rest e
body_found b n p q read kinds.Extension left rest f bytes finds k t is_rest e = extension_found b n p q read left rest f bytes finds (k, t) is_rest e
body_found b n p q read kinds.FixedSizeList left rest f bytes finds k t is_rest e = fixed_found b n p q read left rest f bytes finds (k, t) is_rest e

pub type_found : (b : List ℕ) (n : ℕ) → IsBytes b → Finds b n (type_at b n)
unfolding type_at
type_found b zero bytes left p f e = absurd cc
type_found b (suc n) bytes left p f e =
    let k = by_kind b (type_at b n) left p f e in
    body_found b n p k.table (type_at b n) k.kind left k.rest f bytes (type_found b n bytes) k.kind_is k.table_is k.is_rest k.body
