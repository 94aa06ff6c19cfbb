-- At most one type stands at a place.
use Rattle.std.proofs.Common.{◌≡◌, ℕ, suc, List, Option, Some, pos, refl, sym, ap, subst, ◌∙◌, arith}
use Rattle.vortex_prelude.specs.Absent.{or_zero, or_else}
use Rattle.vortex_flat.specs.Targets.{VectorShape, number_field, signed_field, table_field, vector_field, bytes_field, text_field, table_element, text_element}
use Rattle.vortex_terms.specs.Term.{Term, null, boolean, primitive, decimal, utf8, binary, structure, list, extension, fixed_size_list, Fields, no_fields, field}
use Rattle.vortex_terms.specs.TermCode.{kind_number, kind_number-inj}
use Rattle.vortex_terms.specs.Types.{field_count, type_number}
use Rattle.vortex_schema.specs.Schema.{flag}
use Rattle.vortex_schema.specs.declared.schema.TheConstants.{DTYPE_KIND, PLAIN_NULLABLE, PRIMITIVE_PTYPE, PRIMITIVE_NULLABLE, DECIMAL_PRECISION, DECIMAL_SCALE, DECIMAL_NULLABLE, STRUCT_NAMES, STRUCT_DTYPES, STRUCT_NULLABLE, LIST_ELEMENT, LIST_NULLABLE, EXTENSION_ID, EXTENSION_STORAGE, EXTENSION_METADATA, FIXED_ELEMENT, FIXED_SIZE, FIXED_NULLABLE}
use Rattle.vortex_schema.specs.TypeAt.{IsKindAt, IsTypeAt, AreFieldsAt}
use Rattle.vortex_schema.proofs.Options.{some_same}

is_same : {A : Type 0} (x y : A) → Some x ≡ Some y → x ≡ y
is_same x y e = cc

-- what stands under one place is one thing
under : {A : Type 0} (f : ℕ → Option A) (q r : ℕ) (x y : A) → q ≡ r → f q ≡ Some x → f r ≡ Some y → x ≡ y
under f q r x y e h k = some_same (f r) x y (subst (λ s. f s ≡ Some x) e h) k

target : (f : ℕ → Option (Option ℕ)) (q r x y : ℕ) → q ≡ r → f q ≡ Some (Some x) → f r ≡ Some (Some y) → x ≡ y
target f q r x y e h k = is_same x y (under f q r (Some x) (Some y) e h k)

vector : (f : ℕ → Option (Option VectorShape)) (q r : ℕ) (x y : VectorShape) → q ≡ r → f q ≡ Some (Some x) → f r ≡ Some (Some y) → x ≡ y
vector f q r x y e h k = is_same x y (under f q r (Some x) (Some y) e h k)

text_same : (f : ℕ → Option (Option (List ℕ))) (q r : ℕ) (x y : List ℕ) → q ≡ r → f q ≡ Some (Some x) → f r ≡ Some (Some y) → x ≡ y
text_same f q r x y e h k = is_same x y (under f q r (Some x) (Some y) e h k)

-- the number of the kind at a place
number_there : (t : Term) (b : List ℕ) (p : ℕ) → IsTypeAt b p t → or_zero (number_field b p DTYPE_KIND 1) ≡ Some (type_number t)
number_there null b p h = h.1.0
number_there (boolean n) b p h = h.1.0
number_there (primitive k n) b p h = h.1.0
number_there (decimal s z n) b p h = h.1.0
number_there (utf8 n) b p h = h.1.0
number_there (binary n) b p h = h.1.0
number_there (structure fs n) b p h = h.3.0
number_there (list t n) b p h = h.2.0
number_there (extension id t m) b p h = h.2.0
number_there (fixed_size_list t k n) b p h = h.2.0

one_number : (t u : Term) (b : List ℕ) (p : ℕ) → IsTypeAt b p t → IsTypeAt b p u → type_number t ≡ type_number u
one_number t u b p h k = is_same (type_number t) (type_number u) (sym (number_there t b p h) ∙ number_there u b p k)

-- the table of the kind
one_table : (b : List ℕ) (p : ℕ) (t u : Term) (q r : ℕ) → IsKindAt b p t q → IsKindAt b p u r → q ≡ r
one_table b p t u q r h k = is_same q r (some_same _ (Some q) (Some r) h.1 k.1)

mutual
  pub one_type : (t u : Term) (b : List ℕ) (p : ℕ) → IsTypeAt b p t → IsTypeAt b p u → t ≡ u
  one_type null null b p h k = refl
  one_type (boolean n) (boolean m) b p h k =
      let q = one_table b p (boolean n) (boolean m) h.0 k.0 h.1 k.1 in
      ap boolean (under (λ q. flag b q PLAIN_NULLABLE) h.0 k.0 n m q h.2 k.2)
  one_type (primitive c n) (primitive d m) b p h k =
      let q = one_table b p (primitive c n) (primitive d m) h.0 k.0 h.1 k.1 in
      let kind = kind_number-inj c d (under (λ q. or_zero (number_field b q PRIMITIVE_PTYPE 1)) h.0 k.0 (kind_number c) (kind_number d) q h.2 k.2) in
      let nullable = under (λ q. flag b q PRIMITIVE_NULLABLE) h.0 k.0 n m q h.3 k.3 in
      λ i. primitive (kind i) (nullable i)
  one_type (decimal s z n) (decimal r y m) b p h k =
      let q = one_table b p (decimal s z n) (decimal r y m) h.0 k.0 h.1 k.1 in
      let precision = under (λ q. or_zero (number_field b q DECIMAL_PRECISION 1)) h.0 k.0 s r q h.2 k.2 in
      let scale = under (λ q. or_else (pos 0) (signed_field b q DECIMAL_SCALE)) h.0 k.0 z y q h.3 k.3 in
      let nullable = under (λ q. flag b q DECIMAL_NULLABLE) h.0 k.0 n m q h.4 k.4 in
      λ i. decimal (precision i) (scale i) (nullable i)
  one_type (utf8 n) (utf8 m) b p h k =
      let q = one_table b p (utf8 n) (utf8 m) h.0 k.0 h.1 k.1 in
      ap utf8 (under (λ q. flag b q PLAIN_NULLABLE) h.0 k.0 n m q h.2 k.2)
  one_type (binary n) (binary m) b p h k =
      let q = one_table b p (binary n) (binary m) h.0 k.0 h.1 k.1 in
      ap binary (under (λ q. flag b q PLAIN_NULLABLE) h.0 k.0 n m q h.2 k.2)
  one_type (structure fs n) (structure gs m) b p h k =
      let q = one_table b p (structure fs n) (structure gs m) h.0 k.0 h.3 k.3 in
      let names = vector (λ q. vector_field b q STRUCT_NAMES 4) h.0 k.0 h.1 k.1 q h.4 k.4 in
      let types = vector (λ q. vector_field b q STRUCT_DTYPES 4) h.0 k.0 h.2 k.2 q h.6 k.6 in
      let count = sym h.5 ∙ ap (λ (v : VectorShape). v.count) names ∙ k.5 in
      let there = subst (λ (v : VectorShape). AreFieldsAt b v h.2 0 gs) (sym names) (subst (λ (v : VectorShape). AreFieldsAt b k.1 v 0 gs) (sym types) k.8) in
      let fields = one_list fs gs b h.1 h.2 0 count h.8 there in
      let nullable = under (λ q. flag b q STRUCT_NULLABLE) h.0 k.0 n m q h.9 k.9 in
      λ i. structure (fields i) (nullable i)
  one_type (list t n) (list u m) b p h k =
      let q = one_table b p (list t n) (list u m) h.0 k.0 h.2 k.2 in
      let r = target (λ q. table_field b q LIST_ELEMENT) h.0 k.0 h.1 k.1 q h.3 k.3 in
      let element = one_type t u b h.1 h.4 (subst (λ r. IsTypeAt b r u) (sym r) k.4) in
      let nullable = under (λ q. flag b q LIST_NULLABLE) h.0 k.0 n m q h.5 k.5 in
      λ i. list (element i) (nullable i)
  one_type (extension id t m) (extension jd u l) b p h k =
      let q = one_table b p (extension id t m) (extension jd u l) h.0 k.0 h.2 k.2 in
      let name = text_same (λ q. text_field b q EXTENSION_ID) h.0 k.0 id jd q h.3 k.3 in
      let r = target (λ q. table_field b q EXTENSION_STORAGE) h.0 k.0 h.1 k.1 q h.4 k.4 in
      let storage = one_type t u b h.1 h.5 (subst (λ r. IsTypeAt b r u) (sym r) k.5) in
      let metadata = under (λ q. bytes_field b q EXTENSION_METADATA) h.0 k.0 m l q h.6 k.6 in
      λ i. extension (name i) (storage i) (metadata i)
  one_type (fixed_size_list t c n) (fixed_size_list u d m) b p h k =
      let q = one_table b p (fixed_size_list t c n) (fixed_size_list u d m) h.0 k.0 h.2 k.2 in
      let r = target (λ q. table_field b q FIXED_ELEMENT) h.0 k.0 h.1 k.1 q h.3 k.3 in
      let element = one_type t u b h.1 h.4 (subst (λ r. IsTypeAt b r u) (sym r) k.4) in
      let size = under (λ q. or_zero (number_field b q FIXED_SIZE 4)) h.0 k.0 c d q h.5 k.5 in
      let nullable = under (λ q. flag b q FIXED_NULLABLE) h.0 k.0 n m q h.6 k.6 in
      λ i. fixed_size_list (element i) (size i) (nullable i)
  one_type t u b p h k = absurd (omega (arith, one_number t u b p h k))

  one_list : (fs gs : Fields) (b : List ℕ) (names types : VectorShape) (i : ℕ) → field_count fs ≡ field_count gs → AreFieldsAt b names types i fs → AreFieldsAt b names types i gs → fs ≡ gs
  one_list no_fields no_fields b names types i e h k = refl
  one_list no_fields (field y u gs) b names types i e h k = absurd (omega arith)
  one_list (field x t fs) no_fields b names types i e h k = absurd (omega arith)
  one_list (field x t fs) (field y u gs) b names types i e h k =
      let name = some_same (text_element b names i) x y h.0 k.0 in
      let r = some_same (table_element b types i) h.1.0 k.1.0 h.1.1 k.1.1 in
      let first = one_type t u b h.1.0 h.1.2 (subst (λ r. IsTypeAt b r u) (sym r) k.1.2) in
      let others = one_list fs gs b names types (suc i) (omega (arith, e)) h.2 k.2 in
      λ j. field (name j) (first j) (others j)
