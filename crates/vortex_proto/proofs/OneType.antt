-- A message is of at most one type.
use Rattle.std.proofs.Common.{◌≡◌, ℕ, List, [], ◌∷◌, Option, Some, refl, sym, ap, subst, ◌∙◌, arith}
use Rattle.std.proofs.lemmas.Option.{some_pair_parts}
use Rattle.vortex_wire.specs.Message.{singular_u32}
use Rattle.vortex_wire.specs.Inside.{bytes_fields, texts, singular_text, optional_bytes, message, flag, singular_i32}
use Rattle.vortex_wire.proofs.Options.{some_same}
use Rattle.vortex_terms.specs.Term.{Term, null, boolean, primitive, decimal, utf8, binary, structure, list, extension, fixed_size_list, Fields, no_fields, field}
use Rattle.vortex_terms.specs.TermCode.{kind_number, kind_number-inj}
use Rattle.vortex_terms.specs.Types.{names_of, type_number}
use Rattle.vortex_proto.specs.declared.schema.TheConstants.{PLAIN_NULLABLE, PRIMITIVE_PTYPE, PRIMITIVE_NULLABLE, DECIMAL_PRECISION, DECIMAL_SCALE, DECIMAL_NULLABLE, STRUCT_NAMES, STRUCT_DTYPES, STRUCT_NULLABLE, LIST_ELEMENT, LIST_NULLABLE, EXTENSION_ID, EXTENSION_STORAGE, EXTENSION_METADATA, FIXED_ELEMENT, FIXED_SIZE, FIXED_NULLABLE}
use Rattle.vortex_proto.specs.TypeMessage.{kind_and_body, IsKind, IsTypeMessage, AreTypeMessages}

-- what is found in one message is one thing
under : {A : Type 0} (f : List ℕ → Option A) (b c : List ℕ) (x y : A) → b ≡ c → f b ≡ Some x → f c ≡ Some y → x ≡ y
under f b c x y e h k = some_same (f c) x y (subst (λ d. f d ≡ Some x) e h) k

-- the kind of a message
kind_there : (t : Term) (b : List ℕ) → IsTypeMessage b t → (body : List ℕ) × (kind_and_body b ≡ Some (type_number t, body))
kind_there null b h = (h.0, h.1)
kind_there (boolean n) b h = (h.0, h.1)
kind_there (primitive k n) b h = (h.0, h.1)
kind_there (decimal p s n) b h = (h.0, h.1)
kind_there (utf8 n) b h = (h.0, h.1)
kind_there (binary n) b h = (h.0, h.1)
kind_there (structure fs n) b h = (h.0, h.2)
kind_there (list t n) b h = (h.0, h.2)
kind_there (extension id t m) b h = (h.0, h.2)
kind_there (fixed_size_list t k n) b h = (h.0, h.2)

both_parts : (b : List ℕ) (m n : ℕ) (body other : List ℕ) → kind_and_body b ≡ Some (m, body) → kind_and_body b ≡ Some (n, other) → (m ≡ n) × (body ≡ other)
both_parts b m n body other h k = some_pair_parts m n body other (sym h ∙ k)

one_number : (t u : Term) (b : List ℕ) → IsTypeMessage b t → IsTypeMessage b u → type_number t ≡ type_number u
one_number t u b h k =
    let x = kind_there t b h in
    let y = kind_there u b k in
    (both_parts b (type_number t) (type_number u) x.0 y.0 x.1 y.1).0

one_body : (b : List ℕ) (t u : Term) (body other : List ℕ) → IsKind b t body → IsKind b u other → body ≡ other
one_body b t u body other h k = (both_parts b (type_number t) (type_number u) body other h k).1

first_name : (x y : List ℕ) (xs ys : List (List ℕ)) → x ∷ xs ≡ y ∷ ys → (x ≡ y) × (xs ≡ ys)
first_name x y xs ys e = (cc, cc)

mutual
  pub one_type : (t u : Term) (b : List ℕ) → IsTypeMessage b t → IsTypeMessage b u → t ≡ u
  one_type null null b h k = refl
  one_type (boolean n) (boolean m) b h k =
      let body = one_body b (boolean n) (boolean m) h.0 k.0 h.1 k.1 in
      ap boolean (under (flag PLAIN_NULLABLE) h.0 k.0 n m body h.2 k.2)
  one_type (primitive c n) (primitive d m) b h k =
      let body = one_body b (primitive c n) (primitive d m) h.0 k.0 h.1 k.1 in
      let kind = kind_number-inj c d (under (singular_u32 PRIMITIVE_PTYPE) h.0 k.0 (kind_number c) (kind_number d) body h.2 k.2) in
      let nullable = under (flag PRIMITIVE_NULLABLE) h.0 k.0 n m body h.3 k.3 in
      λ i. primitive (kind i) (nullable i)
  one_type (decimal p z n) (decimal r y m) b h k =
      let body = one_body b (decimal p z n) (decimal r y m) h.0 k.0 h.1 k.1 in
      let precision = under (singular_u32 DECIMAL_PRECISION) h.0 k.0 p r body h.2 k.2 in
      let scale = under (singular_i32 DECIMAL_SCALE) h.0 k.0 z y body h.3 k.3 in
      let nullable = under (flag DECIMAL_NULLABLE) h.0 k.0 n m body h.4 k.4 in
      λ i. decimal (precision i) (scale i) (nullable i)
  one_type (utf8 n) (utf8 m) b h k =
      let body = one_body b (utf8 n) (utf8 m) h.0 k.0 h.1 k.1 in
      ap utf8 (under (flag PLAIN_NULLABLE) h.0 k.0 n m body h.2 k.2)
  one_type (binary n) (binary m) b h k =
      let body = one_body b (binary n) (binary m) h.0 k.0 h.1 k.1 in
      ap binary (under (flag PLAIN_NULLABLE) h.0 k.0 n m body h.2 k.2)
  one_type (structure fs n) (structure gs m) b h k =
      let body = one_body b (structure fs n) (structure gs m) h.0 k.0 h.2 k.2 in
      let names = under (texts STRUCT_NAMES) h.0 k.0 (names_of fs) (names_of gs) body h.3 k.3 in
      let parts = under (bytes_fields STRUCT_DTYPES) h.0 k.0 h.1 k.1 body h.4 k.4 in
      let fields = one_list fs gs h.1 names h.5 (subst (λ ps. AreTypeMessages ps gs) (sym parts) k.5) in
      let nullable = under (flag STRUCT_NULLABLE) h.0 k.0 n m body h.6 k.6 in
      λ i. structure (fields i) (nullable i)
  one_type (list t n) (list u m) b h k =
      let body = one_body b (list t n) (list u m) h.0 k.0 h.2 k.2 in
      let part = under (message LIST_ELEMENT) h.0 k.0 h.1 k.1 body h.3 k.3 in
      let element = one_type t u h.1 h.4 (subst (λ p. IsTypeMessage p u) (sym part) k.4) in
      let nullable = under (flag LIST_NULLABLE) h.0 k.0 n m body h.5 k.5 in
      λ i. list (element i) (nullable i)
  one_type (extension id t m) (extension jd u l) b h k =
      let body = one_body b (extension id t m) (extension jd u l) h.0 k.0 h.2 k.2 in
      let name = under (singular_text EXTENSION_ID) h.0 k.0 id jd body h.3 k.3 in
      let part = under (message EXTENSION_STORAGE) h.0 k.0 h.1 k.1 body h.4 k.4 in
      let storage = one_type t u h.1 h.5 (subst (λ p. IsTypeMessage p u) (sym part) k.5) in
      let metadata = under (optional_bytes EXTENSION_METADATA) h.0 k.0 m l body h.6 k.6 in
      λ i. extension (name i) (storage i) (metadata i)
  one_type (fixed_size_list t c n) (fixed_size_list u d m) b h k =
      let body = one_body b (fixed_size_list t c n) (fixed_size_list u d m) h.0 k.0 h.2 k.2 in
      let part = under (message FIXED_ELEMENT) h.0 k.0 h.1 k.1 body h.3 k.3 in
      let element = one_type t u h.1 h.4 (subst (λ p. IsTypeMessage p u) (sym part) k.4) in
      let size = under (singular_u32 FIXED_SIZE) h.0 k.0 c d body h.5 k.5 in
      let nullable = under (flag FIXED_NULLABLE) h.0 k.0 n m body h.6 k.6 in
      λ i. fixed_size_list (element i) (size i) (nullable i)
  one_type t u b h k = absurd (omega (arith, one_number t u b h k))

  one_list : (fs gs : Fields) (parts : List (List ℕ)) → names_of fs ≡ names_of gs → AreTypeMessages parts fs → AreTypeMessages parts gs → fs ≡ gs
  one_list no_fields no_fields parts e h k = refl
  one_list no_fields (field y u gs) [] e h k = absurd k
  one_list no_fields (field y u gs) (part ∷ parts) e h k = absurd h
  one_list (field x t fs) no_fields [] e h k = absurd h
  one_list (field x t fs) no_fields (part ∷ parts) e h k = absurd k
  one_list (field x t fs) (field y u gs) [] e h k = absurd h
  one_list (field x t fs) (field y u gs) (part ∷ parts) e h k =
      let names = first_name x y (names_of fs) (names_of gs) e in
      let first = one_type t u part h.0 k.0 in
      let others = one_list fs gs parts names.1 h.1 k.1 in
      λ j. field (names.0 j) (first j) (others j)
