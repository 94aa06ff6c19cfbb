-- What stands at a place, is legal and within the budgets, the reader finds.
use Rattle.std.proofs.Common.{◌≡◌, ℕ, suc, ◌+◌, ◌-◌, ◌≤◌, Bool, true, false, eqb, List, length, Option, Some, ℤ, pos, refl, sym, ap, subst, ◌∙◌, arith}
use Rattle.std.specs.Prelude.{option_and_then}
use Rattle.std.specs.Option.{option_map_or}
use Rattle.std.proofs.lemmas.Bool.{le-leb, eq-eqb}
use Rattle.vortex_prelude.specs.Absent.{or_zero, or_else}
use Rattle.vortex_flat.specs.Targets.{VectorShape, number_field, signed_field, table_field, vector_field, bytes_field, text_field, table_element, text_element}
use Rattle.vortex_terms.specs.Term.{WholeKind, unsigned_8, unsigned_16, unsigned_32, unsigned_64, signed_8, signed_16, signed_32, signed_64, Term, null, boolean, primitive, decimal, utf8, binary, structure, list, extension, fixed_size_list, Fields, no_fields, field}
use Rattle.vortex_terms.specs.TermCode.{kind_number}
use Rattle.vortex_terms.specs.Tests.{is_decimal}
use Rattle.vortex_terms.specs.TestLaws.{is_decimal-Decides}
use Rattle.vortex_terms.specs.Types.{Legal, LegalFields, levels, nodes, text_length, fields_levels, fields_nodes, fields_text_length, field_count, type_number, is_extension}
use Rattle.vortex_schema.specs.declared.budget.Budget.{Budget}
use Rattle.vortex_schema.specs.declared.kind.TypeKind.{TypeKind}
use Rattle.vortex_schema.specs.declared.kind.TypeKind.TheVariants as kinds
use Rattle.vortex_schema.specs.Kind.{kind_of, kind_from, is_extension_kind}
use Rattle.vortex_schema.specs.Schema.{flag}
use Rattle.vortex_schema.specs.declared.schema.TheConstants.{DTYPE_KIND, PRIMITIVE_PTYPE, PRIMITIVE_NULLABLE, DECIMAL_PRECISION, DECIMAL_SCALE, DECIMAL_NULLABLE, STRUCT_NAMES, STRUCT_DTYPES, STRUCT_NULLABLE, LIST_ELEMENT, LIST_NULLABLE, EXTENSION_ID, EXTENSION_STORAGE, EXTENSION_METADATA, FIXED_ELEMENT, FIXED_SIZE, FIXED_NULLABLE}
use Rattle.vortex_schema.specs.TypeAt.{IsKindAt, IsTypeAt, AreFieldsAt}
use Rattle.vortex_schema.specs.Budget.{after_node, after_text}
use Rattle.vortex_schema.specs.Reading.{Found, Reader, kind_at, ptype_from, primitive_at, decimal_at, named_type_at, fields_at, struct_at, list_at, storage_at, extension_at, fixed_at, body_at, dtype_at, type_at}
use Rattle.vortex_schema.specs.inner.InPlace.{after_type}
use Rattle.vortex_schema.proofs.Walking.{one_level}

-- ---- budgets

-- so much is left after fields
abbrev pub after_fields : Fields → Budget → Budget
after_fields fs left = record { nodes = left.nodes - fields_nodes fs; text = left.text - fields_text_length fs }

-- the type is found, and so much is left
abbrev pub found_type : Term → Budget → Option (Found Term)
found_type t left = Some (record { found = t; left = after_type t left })

-- the budget without the node of the type itself
abbrev pub within : Budget → Budget
within left = record { nodes = left.nodes - 1; text = left.text }

-- the budget without so many bytes of text
abbrev pub beside : ℕ → Budget → Budget
beside n left = record { nodes = left.nodes; text = left.text - n }

-- this was found, and so much is left
abbrev and_left : {A : Type 0} → A → Budget → Option (Found A)
and_left x left = Some (record { found = x; left = left })

pub same_budget : (l m : Budget) → l.nodes ≡ m.nodes → l.text ≡ m.text → l ≡ m
same_budget l m e h = λ i. record { nodes = e i; text = h i }

same_found : {A : Type 0} (x : A) (l m : Budget) → l.nodes ≡ m.nodes → l.text ≡ m.text → and_left x l ≡ and_left x m
same_found x l m e h = λ i. and_left x (record { nodes = e i; text = h i })

node_there : (left : Budget) → 1 ≤ left.nodes → after_node left ≡ Some (within left)
node_there left h = rw (le-leb _ _ h) refl

text_there : (n : ℕ) (left : Budget) → n ≤ left.text → after_text n left ≡ Some (beside n left)
text_there n left h = rw (le-leb _ _ h) refl

-- ---- kinds

kind_again : (t : Term) → kind_from (type_number t) ≡ Some (kind_of t)
kind_again null = refl
kind_again (boolean n) = refl
kind_again (primitive k n) = refl
kind_again (decimal s z n) = refl
kind_again (utf8 n) = refl
kind_again (binary n) = refl
kind_again (structure fs n) = refl
kind_again (list t n) = refl
kind_again (extension id t m) = refl
kind_again (fixed_size_list t k n) = refl

kind_there : (b : List ℕ) (p : ℕ) (t : Term) → or_zero (number_field b p DTYPE_KIND 1) ≡ Some (type_number t) → kind_at b p ≡ Some (kind_of t)
unfolding kind_at
kind_there b p t e = ap (option_and_then kind_from) e ∙ kind_again t

ptype_again : (k : WholeKind) → ptype_from (kind_number k) ≡ Some k
ptype_again unsigned_8 = refl
ptype_again unsigned_16 = refl
ptype_again unsigned_32 = refl
ptype_again unsigned_64 = refl
ptype_again signed_8 = refl
ptype_again signed_16 = refl
ptype_again signed_32 = refl
ptype_again signed_64 = refl

pub dtype_there : (b : List ℕ) (read : Reader) (left : Budget) (p : ℕ) (t : Term) (q : ℕ) → IsKindAt b p t q → 1 ≤ left.nodes → dtype_at b read left p ≡ body_at b read (kind_of t) (within left) q
unfolding dtype_at
dtype_there b read left p t q kind h = rw (kind_there b p t kind.0, kind.1, node_there left h) refl

-- ---- types without parts

pub primitive_there : (b : List ℕ) (q : ℕ) (k : WholeKind) (n : Bool) → or_zero (number_field b q PRIMITIVE_PTYPE 1) ≡ Some (kind_number k) → flag b q PRIMITIVE_NULLABLE ≡ Some n → primitive_at b q ≡ Some (primitive k n)
unfolding primitive_at
primitive_there b q k n e h =
    let k_is : option_and_then ptype_from (or_zero (number_field b q PRIMITIVE_PTYPE 1)) ≡ Some k = ap (option_and_then ptype_from) e ∙ ptype_again k in
    rw (k_is, h) refl

pub decimal_there : (b : List ℕ) (q s : ℕ) (z : ℤ) (n : Bool) → or_zero (number_field b q DECIMAL_PRECISION 1) ≡ Some s → or_else (pos 0) (signed_field b q DECIMAL_SCALE) ≡ Some z → flag b q DECIMAL_NULLABLE ≡ Some n → is_decimal s z ≡ true → decimal_at b q ≡ Some (decimal s z n)
unfolding decimal_at
decimal_there b q s z n e h g legal = rw (e, h, g, legal) refl

-- ---- types with parts

pub list_there : (b : List ℕ) (read : Reader) (left : Budget) (q r : ℕ) (t : Term) (n : Bool) → table_field b q LIST_ELEMENT ≡ Some (Some r) → flag b q LIST_NULLABLE ≡ Some n → read (within left) r ≡ found_type t (within left) → list_at b read (within left) q ≡ found_type (list t n) left
unfolding list_at
list_there b read left q r t n e h part = rw (e, h, part) (same_found (list t n) (after_type t (within left)) (after_type (list t n) left) (omega arith) (omega arith))

pub fixed_there : (b : List ℕ) (read : Reader) (left : Budget) (q r : ℕ) (t : Term) (k : ℕ) (n : Bool) → table_field b q FIXED_ELEMENT ≡ Some (Some r) → or_zero (number_field b q FIXED_SIZE 4) ≡ Some k → flag b q FIXED_NULLABLE ≡ Some n → read (within left) r ≡ found_type t (within left)
    → fixed_at b read (within left) q ≡ found_type (fixed_size_list t k n) left
unfolding fixed_at
fixed_there b read left q r t k n e g h part = rw (e, g, h, part) (same_found (fixed_size_list t k n) (after_type t (within left)) (after_type (fixed_size_list t k n) left) (omega arith) (omega arith))

plain_kind : (b : List ℕ) (r : ℕ) (t : Term) → IsTypeAt b r t → is_extension t ≡ false → (k : TypeKind) × (kind_at b r ≡ Some k) × (is_extension_kind k ≡ false)
plain_kind b r null s e = (kinds.Null, kind_there b r null s.1.0, refl)
plain_kind b r (boolean n) s e = (kinds.Bool, kind_there b r (boolean n) s.1.0, refl)
plain_kind b r (primitive k n) s e = (kinds.Primitive, kind_there b r (primitive k n) s.1.0, refl)
plain_kind b r (decimal p z n) s e = (kinds.Decimal, kind_there b r (decimal p z n) s.1.0, refl)
plain_kind b r (utf8 n) s e = (kinds.Utf8, kind_there b r (utf8 n) s.1.0, refl)
plain_kind b r (binary n) s e = (kinds.Binary, kind_there b r (binary n) s.1.0, refl)
plain_kind b r (structure fs n) s e = (kinds.Struct, kind_there b r (structure fs n) s.3.0, refl)
plain_kind b r (list t n) s e = (kinds.List, kind_there b r (list t n) s.2.0, refl)
plain_kind b r (extension id t m) s e = absurd cc
plain_kind b r (fixed_size_list t k n) s e = (kinds.FixedSizeList, kind_there b r (fixed_size_list t k n) s.2.0, refl)

pub storage_there : (b : List ℕ) (q r : ℕ) (t : Term) → table_field b q EXTENSION_STORAGE ≡ Some (Some r) → IsTypeAt b r t → is_extension t ≡ false → storage_at b q ≡ Some r
unfolding storage_at
storage_there b q r t e s plain = let k = plain_kind b r t s plain in rw (e, k.1, k.2) refl

pub extension_there : (b : List ℕ) (read : Reader) (left : Budget) (q r : ℕ) (id : List ℕ) (t : Term) (m : Option (List ℕ)) → text_field b q EXTENSION_ID ≡ Some (Some id) → bytes_field b q EXTENSION_METADATA ≡ Some m → storage_at b q ≡ Some r
    → length id + option_map_or length m 0 ≤ left.text → read (beside (length id + option_map_or length m 0) (within left)) r ≡ found_type t (beside (length id + option_map_or length m 0) (within left))
    → extension_at b read (within left) q ≡ found_type (extension id t m) left
unfolding extension_at
extension_there b read left q r id t m e g h room part =
    let extra = length id + option_map_or length m 0 in
    rw (e, g, text_there extra (within left) room, h, part) (same_found (extension id t m) (after_type t (beside extra (within left))) (after_type (extension id t m) left) (omega arith) (omega arith))

pub struct_there : (b : List ℕ) (read : Reader) (left : Budget) (q : ℕ) (names types : VectorShape) (fs : Fields) (n : Bool) → vector_field b q STRUCT_NAMES 4 ≡ Some (Some names) → names.count ≡ field_count fs → vector_field b q STRUCT_DTYPES 4 ≡ Some (Some types) → types.count ≡ field_count fs
    → flag b q STRUCT_NULLABLE ≡ Some n → fields_at b read names types (field_count fs) 0 (within left) ≡ Some (record { found = fs; left = after_fields fs (within left) })
    → struct_at b read (within left) q ≡ found_type (structure fs n) left
unfolding struct_at
struct_there b read left q names types fs n e c h d g part =
    let same : eqb names.count types.count ≡ true = eq-eqb _ _ (c ∙ sym d) in
    let fields : fields_at b read names types names.count 0 (within left) ≡ Some (record { found = fs; left = after_fields fs (within left) }) = ap (λ count. fields_at b read names types count 0 (within left)) c ∙ part in
    rw (e, h, g, same, fields) (same_found (structure fs n) (after_fields fs (within left)) (after_type (structure fs n) left) (omega arith) (omega arith))

pub named_there : (b : List ℕ) (read : Reader) (names types : VectorShape) (i : ℕ) (left : Budget) (x : List ℕ) (r : ℕ) (t : Term) → text_element b names i ≡ Some x → length x ≤ left.text → table_element b types i ≡ Some r → read (beside (length x) left) r ≡ found_type t (beside (length x) left)
    → named_type_at b read names types i left ≡ Some (record { found = (x, t); left = after_type t (beside (length x) left) })
unfolding named_type_at
named_there b read names types i left x r t e room h part = rw (e, text_there (length x) left room, h, part) refl

pub no_fields_there : (b : List ℕ) (read : Reader) (names types : VectorShape) (i : ℕ) (left : Budget) → fields_at b read names types 0 i left ≡ Some (record { found = no_fields; left = after_fields no_fields left })
unfolding fields_at
no_fields_there b read names types i left = same_found no_fields left (after_fields no_fields left) (omega arith) (omega arith)

pub more_fields_there : (b : List ℕ) (read : Reader) (names types : VectorShape) (i : ℕ) (left : Budget) (x : List ℕ) (t : Term) (fs : Fields) → named_type_at b read names types i left ≡ Some (record { found = (x, t); left = after_type t (beside (length x) left) })
    → fields_at b read names types (field_count fs) (i + 1) (after_type t (beside (length x) left)) ≡ Some (record { found = fs; left = after_fields fs (after_type t (beside (length x) left)) })
    → fields_at b read names types (suc (field_count fs)) i left ≡ Some (record { found = field x t fs; left = after_fields (field x t fs) left })
unfolding fields_at
more_fields_there b read names types i left x t fs e h = rw (e, h) (same_found (field x t fs) (after_fields fs (after_type t (beside (length x) left))) (after_fields (field x t fs) left) (omega arith) (omega arith))

-- ---- every type

-- a type of a kind whose body is found
by_body : (b : List ℕ) (n : ℕ) (left : Budget) (p q : ℕ) (t : Term) (found : Option (Found Term)) → IsKindAt b p t q → 1 ≤ n → 1 ≤ left.nodes → body_at b (type_at b (n - 1)) (kind_of t) (within left) q ≡ found → type_at b n left p ≡ found
by_body b n left p q t found kind h g e = one_level b n left p h ∙ dtype_there b (type_at b (n - 1)) left p t q kind g ∙ e

pub leaf_there : (t : Term) (left : Budget) → nodes t ≡ 1 → text_length t ≡ 0 → Some (record { found = t; left = within left }) ≡ found_type t left
leaf_there t left e h = same_found t (within left) (after_type t left) (omega (arith, e)) (omega (arith, h))

mutual
  pub type_there : (t : Term) (b : List ℕ) (n : ℕ) (left : Budget) (p : ℕ) → IsTypeAt b p t → Legal t → levels t ≤ n → nodes t ≤ left.nodes → text_length t ≤ left.text → type_at b n left p ≡ found_type t left
  type_there null b n left p s legal lv nd tx = by_body b n left p s.0 null _ s.1 lv nd (leaf_there null left refl refl)
  type_there (boolean f) b n left p s legal lv nd tx = by_body b n left p s.0 (boolean f) _ s.1 lv nd (rw s.2 (leaf_there (boolean f) left refl refl))
  type_there (primitive k f) b n left p s legal lv nd tx = by_body b n left p s.0 (primitive k f) _ s.1 lv nd (rw (primitive_there b s.0 k f s.2 s.3) (leaf_there (primitive k f) left refl refl))
  type_there (decimal d z f) b n left p s legal lv nd tx = by_body b n left p s.0 (decimal d z f) _ s.1 lv nd (rw (decimal_there b s.0 d z f s.2 s.3 s.4 ((is_decimal-Decides d z).1 legal)) (leaf_there (decimal d z f) left refl refl))
  type_there (utf8 f) b n left p s legal lv nd tx = by_body b n left p s.0 (utf8 f) _ s.1 lv nd (rw s.2 (leaf_there (utf8 f) left refl refl))
  type_there (binary f) b n left p s legal lv nd tx = by_body b n left p s.0 (binary f) _ s.1 lv nd (rw s.2 (leaf_there (binary f) left refl refl))
  type_there (structure fs f) b n left p s legal lv nd tx =
      by_body b n left p s.0 (structure fs f) _ s.3 (omega (arith, lv)) (omega (arith, nd))
      (struct_there b (type_at b (n - 1)) left s.0 s.1 s.2 fs f s.4 s.5 s.6 s.7 s.9 (fields_there fs b s.1 s.2 0 (n - 1) (within left) s.8 legal (omega (arith, lv)) (omega (arith, nd)) tx))
  type_there (list t f) b n left p s legal lv nd tx =
      by_body b n left p s.0 (list t f) _ s.2 (omega (arith, lv)) (omega (arith, nd))
      (list_there b (type_at b (n - 1)) left s.0 s.1 t f s.3 s.5 (type_there t b (n - 1) (within left) s.1 s.4 legal (omega (arith, lv)) (omega (arith, nd)) tx))
  type_there (extension id t m) b n left p s legal lv nd tx =
      by_body b n left p s.0 (extension id t m) _ s.2 (omega (arith, lv)) (omega (arith, nd))
      (extension_there b (type_at b (n - 1)) left s.0 s.1 id t m s.3 s.6 (storage_there b s.0 s.1 t s.4 s.5 legal.2) (omega (arith, tx))
      (type_there t b (n - 1) (beside (length id + option_map_or length m 0) (within left)) s.1 s.5 legal.3 (omega (arith, lv)) (omega (arith, nd)) (omega (arith, tx))))
  type_there (fixed_size_list t k f) b n left p s legal lv nd tx =
      by_body b n left p s.0 (fixed_size_list t k f) _ s.2 (omega (arith, lv)) (omega (arith, nd))
      (fixed_there b (type_at b (n - 1)) left s.0 s.1 t k f s.3 s.5 s.6 (type_there t b (n - 1) (within left) s.1 s.4 legal.1 (omega (arith, lv)) (omega (arith, nd)) tx))

  pub fields_there : (fs : Fields) (b : List ℕ) (names types : VectorShape) (i n : ℕ) (left : Budget) → AreFieldsAt b names types i fs → LegalFields fs → fields_levels fs ≤ n → fields_nodes fs ≤ left.nodes → fields_text_length fs ≤ left.text
      → fields_at b (type_at b n) names types (field_count fs) i left ≡ Some (record { found = fs; left = after_fields fs left })
  fields_there no_fields b names types i n left s legal lv nd tx = no_fields_there b (type_at b n) names types i left
  fields_there (field x t fs) b names types i n left s legal lv nd tx =
      more_fields_there b (type_at b n) names types i left x t fs
      (named_there b (type_at b n) names types i left x s.1.0 t s.0 (omega (arith, tx)) s.1.1 (type_there t b n (beside (length x) left) s.1.0 s.1.2 legal.1 (omega (arith, lv)) (omega (arith, nd)) (omega (arith, tx))))
      (fields_there fs b names types (i + 1) n (after_type t (beside (length x) left)) (subst (λ j. AreFieldsAt b names types j fs) (let next : suc i ≡ i + 1 = omega arith in next) s.2) legal.2 (omega (arith, lv)) (omega (arith, nd)) (omega (arith, tx)))
