-- What is a stream of the column type and of primitive arrays, the readers find.
use Rattle.std.proofs.Common.{◌≡◌, ℕ, ◌+◌, ◌*◌, ◌<◌, Bool, true, false, cond, eqb, leb, List, [], ◌∷◌, ◌++◌, length, take, drop, All, Option, Some, None, ℤ, refl, sym, ap, subst, ◌∙◌, append_assoc, length-append, arith}
use Rattle.std.specs.Prelude.{codes}
use Rattle.std.specs.Option.{option_map}
use Rattle.std.specs.List.{list_all, AllByRecursion}
use Rattle.std.proofs.lemmas.Bool.{le-leb}
use Rattle.std.proofs.lemmas.List.{take_at, drop_at}
use Rattle.std.proofs.lemmas.List.Elements.{recursion_from_All}
use Rattle.vortex_flat.specs.Numbers.{little_endian, number}
use Rattle.vortex_prelude.specs.Chain.{◌>>=◌}
use Rattle.vortex_flat.specs.Targets.{number_field}
use Rattle.vortex_flat.proofs.TableLemmas.{bind_some}
use Rattle.vortex_prelude.specs.Absent.{or_zero}
use Rattle.vortex_stream.specs.Header.{Content, array_content, buffer_content, type_content, Header, MessageTable, message_table_of, content_at, header_of}
use Rattle.vortex_stream.specs.Stream.{IsMessage, AreArrays}
use Rattle.vortex_select.specs.Column.{ColumnType, i64_column, i64_values, column_type_of, body_parts, primitive_buffer_in, primitive_buffer_of, IsPrimitiveArray}
use Rattle.vortex_select.specs.inner.Decoding.{names_at, prefix_of, length_prefixed_of, type_size_of, after_type_of, is_primitive, primitive_count, primitive_header_of, primitive_array_of}
use Rattle.vortex_select.specs.Theorem.{IsColumnStream, IsSomeStream}
use Rattle.vortex_select.proofs.ArrayFound.{buffer_len}
use lib.Pointwise.{bytes_decides}

-- ---- messages

-- the bytes fall into x and rest
prefix_there : (bytes x rest : List ℕ) → bytes ≡ x ++ rest → prefix_of (length x) bytes ≡ Some (x, rest)
prefix_there bytes x rest e =
    let front : take (length x) bytes ≡ x = ap (take (length x)) e ∙ take_at x rest (length x) refl in
    let back : drop (length x) bytes ≡ rest = ap (drop (length x)) e ∙ drop_at x rest (length x) refl in
    let fits : leb (length x) (length bytes) ≡ true = le-leb _ _ (omega (arith, ap length e, length-append x rest)) in
    rw (fits, front, back) refl

number_there : (bytes prefix rest : List ℕ) → bytes ≡ prefix ++ rest → length prefix ≡ 4 → number bytes 0 4 ≡ Some (little_endian prefix)
unfolding number
number_there bytes prefix rest e four =
    let front : take 4 bytes ≡ prefix = ap (take 4) e ∙ take_at prefix rest 4 four in
    let fits : leb (0 + 4) (length bytes) ≡ true = le-leb _ _ (omega (arith, ap length e, length-append prefix rest)) in
    rw (fits, front) refl

length_prefixed_there : (bytes prefix x rest : List ℕ) → bytes ≡ prefix ++ (x ++ rest) → length prefix ≡ 4 → little_endian prefix ≡ length x → length_prefixed_of bytes ≡ Some (x, rest)
unfolding length_prefixed_of
length_prefixed_there bytes prefix x rest e four len =
    let n : number bytes 0 4 ≡ Some (length x) = number_there bytes prefix (x ++ rest) e four ∙ ap Some len in
    let behind : drop 4 bytes ≡ x ++ rest = ap (drop 4) e ∙ drop_at prefix (x ++ rest) 4 four in
    ap (λ (o : Option ℕ). o >>= λ len. prefix_of len (drop 4 bytes)) n ∙ prefix_there (drop 4 bytes) x rest behind

-- the parts of a message, from the right
grouped : (a b c d : List ℕ) → a ++ b ++ c ++ d ≡ a ++ (b ++ (c ++ d))
grouped a b c d = simp append_assoc

message_there : (bytes body rest : List ℕ) (content : Content) → (m : IsMessage bytes content body rest) → length_prefixed_of bytes ≡ Some (m.header, body ++ rest)
message_there bytes body rest content m = length_prefixed_there bytes m.prefix m.header (body ++ rest) (m.parts ∙ grouped m.prefix m.header body rest) m.prefix_len m.header_len

-- ---- headers

abbrev array_if : Option ℕ → Option (List (List ℕ)) → Option Content
array_if rows names = rows >>= λ r. names >>= λ n. Some (array_content r n)

no_type_of_array : (rows : Option ℕ) (names : Option (List (List ℕ))) → array_if rows names ≡ Some type_content → ⊥
no_type_of_array None names e = cc
no_type_of_array (Some r) None e = cc
no_type_of_array (Some r) (Some n) e = cc

no_type_of_buffer : (o : Option ℕ) → option_map buffer_content o ≡ Some type_content → ⊥
no_type_of_buffer None e = cc
no_type_of_buffer (Some n) e = cc

no_array_of_buffer : (o : Option ℕ) (rows : ℕ) (names : List (List ℕ)) → option_map buffer_content o ≡ Some (array_content rows names) → ⊥
no_array_of_buffer None rows names e = cc
no_array_of_buffer (Some n) rows names e = cc

third_of : (one two three : Bool) (a b : Option Content) → (a ≡ Some type_content → ⊥) → (b ≡ Some type_content → ⊥) → cond one a (cond two b (cond three (Some type_content) None)) ≡ Some type_content → three ≡ true
third_of true two three a b no_a no_b e = absurd (no_a e)
third_of false true three a b no_a no_b e = absurd (no_b e)
third_of false false true a b no_a no_b e = refl
third_of false false false a b no_a no_b e = absurd cc

first_of : (one two three : Bool) (a b : Option Content) (rows : ℕ) (names : List (List ℕ)) → (b ≡ Some (array_content rows names) → ⊥) → cond one a (cond two b (cond three (Some type_content) None)) ≡ Some (array_content rows names) → (one ≡ true) × (a ≡ Some (array_content rows names))
first_of true two three a b rows names no_b e = (refl, e)
first_of false true three a b rows names no_b e = absurd (no_b e)
first_of false false true a b rows names no_b e = absurd cc
first_of false false false a b rows names no_b e = absurd cc

array_parts : (found_rows : Option ℕ) (found_names : Option (List (List ℕ))) (rows : ℕ) (names : List (List ℕ)) → array_if found_rows found_names ≡ Some (array_content rows names) → (found_rows ≡ Some rows) × (found_names ≡ Some names)
array_parts None found_names rows names e = absurd cc
array_parts (Some r) None rows names e = absurd cc
array_parts (Some r) (Some n) rows names e = (cc, cc)

type_kind : (header : List ℕ) (inner kind : ℕ) → content_at header inner kind ≡ Some type_content → eqb kind 3 ≡ true
unfolding content_at
type_kind header inner kind e = third_of (eqb kind 1) (eqb kind 2) (eqb kind 3) (array_if (or_zero (number_field header inner 0 4)) (names_at header inner)) (option_map buffer_content (or_zero (number_field header inner 0 1))) (no_type_of_array _ _) (no_type_of_buffer _) e

array_kind : (header : List ℕ) (inner kind rows : ℕ) (names : List (List ℕ)) → content_at header inner kind ≡ Some (array_content rows names) → (eqb kind 1 ≡ true) × (array_if (or_zero (number_field header inner 0 4)) (names_at header inner) ≡ Some (array_content rows names))
unfolding content_at
array_kind header inner kind rows names e = first_of (eqb kind 1) (eqb kind 2) (eqb kind 3) (array_if (or_zero (number_field header inner 0 4)) (names_at header inner)) (option_map buffer_content (or_zero (number_field header inner 0 1))) rows names (no_array_of_buffer _ rows names) e

-- what a header stands for, by its table
record ByTable (header : List ℕ) (content : Content) (size : ℕ) : Type 0 where
  pub table : MessageTable
  pub table_is : message_table_of header ≡ Some table
  pub content_is : content_at header table.inner table.kind ≡ Some content
  pub size_is : table.body_size ≡ size

same_header : (a b : Header) → Some a ≡ Some b → a ≡ b
same_header a b e = cc

by_table : (header : List ℕ) (content : Content) (size : ℕ) → header_of header ≡ Some (record { content = content; body_size = size }) → ByTable header content size
unfolding header_of
by_table header content size e =
    let whole : Header = record { content = content; body_size = size } in
    let m = bind_some (message_table_of header) (λ m. content_at header m.inner m.kind >>= λ c. Some (record { content = c; body_size = m.body_size })) whole e in
    let c = bind_some (content_at header m.0.inner m.0.kind) (λ c. Some (record { content = c; body_size = m.0.body_size })) whole m.2 in
    let same = same_header (record { content = c.0; body_size = m.0.body_size }) whole c.2 in
    record { table = m.0; table_is = m.1; content_is = c.1 ∙ ap (λ (h : Header). Some h.content) same; size_is = ap (λ (h : Header). h.body_size) same }

type_size_there : (header : List ℕ) (size : ℕ) → header_of header ≡ Some (record { content = type_content; body_size = size }) → type_size_of header ≡ Some size
unfolding type_size_of
type_size_there header size e =
    let b = by_table header type_content size e in
    rw (b.table_is, type_kind header b.table.inner b.table.kind b.content_is, b.size_is) refl

-- what follows the message of the type
pub after_type_there : (bytes body rest : List ℕ) (t : ColumnType) → IsMessage bytes type_content body rest → column_type_of body ≡ Some t → after_type_of bytes ≡ Some rest
unfolding after_type_of
after_type_there bytes body rest t m column = rw (message_there bytes body rest type_content m, type_size_there m.header (length body) m.header_is, prefix_there (body ++ rest) body rest refl, column) refl

each_primitive : (names : List (List ℕ)) → AllByRecursion (λ name. name ≡ codes "vortex.primitive") names → list_all is_primitive names ≡ true
each_primitive [] h = refl
each_primitive (x ∷ xs) h = rw ((bytes_decides x (codes "vortex.primitive")).1 h.0) (each_primitive xs h.1)

count_there : (names : List (List ℕ)) → All (λ name. name ≡ codes "vortex.primitive") names → primitive_count (Some names) ≡ Some (length names)
unfolding primitive_count
count_there names h = rw (each_primitive names (recursion_from_All (λ name. name ≡ codes "vortex.primitive") names h)) refl

primitive_header_there : (header : List ℕ) (rows size : ℕ) (names : List (List ℕ)) → header_of header ≡ Some (record { content = array_content rows names; body_size = size }) → All (λ name. name ≡ codes "vortex.primitive") names
    → primitive_header_of header ≡ Some (record { rows = rows; names = length names; body_size = size })
unfolding primitive_header_of
primitive_header_there header rows size names e h =
    let b = by_table header (array_content rows names) size e in
    let k = array_kind header b.table.inner b.table.kind rows names b.content_is in
    let p = array_parts (or_zero (number_field header b.table.inner 0 4)) (names_at header b.table.inner) rows names k.1 in
    rw (b.table_is, p.0, p.1, count_there names h, k.0, b.size_is) refl

-- ---- arrays

-- a message of a primitive array is found, and its buffer is its rows
pub record ArrayThere (bytes rest : List ℕ) (rows : List ℤ) : Type 0 where
  pub buffer : List ℕ
  pub count : ℕ
  pub found : primitive_array_of bytes ≡ Some (buffer, rest)
  pub values : rows ≡ i64_values count buffer
  pub len : length buffer ≡ 8 * count

mapped : {A B : Type 0} (f : A → B) (o : Option A) (y : B) → option_map f o ≡ Some y → (x : A) × (o ≡ Some x) × (y ≡ f x)
mapped f None y e = absurd cc
mapped f (Some x) y e = (x, refl, cc)

found_by : (bytes header body rest buffer : List ℕ) (count names : ℕ) → length_prefixed_of bytes ≡ Some (header, body ++ rest) → primitive_header_of header ≡ Some (record { rows = count; names = names; body_size = length body })
    → primitive_buffer_of count names body ≡ Some buffer → primitive_array_of bytes ≡ Some (buffer, rest)
unfolding primitive_array_of
found_by bytes header body rest buffer count names m h b = rw (m, h, prefix_there (body ++ rest) body rest refl, b) refl

pub array_there : (bytes : List ℕ) (count : ℕ) (names : List (List ℕ)) (body rest : List ℕ) (rows : List ℤ) → IsMessage bytes (array_content count names) body rest → IsPrimitiveArray i64_column count names body rows → ArrayThere bytes rest rows
array_there bytes count names body rest rows m h =
    let b = mapped (i64_values count) (primitive_buffer_of count (length names) body) rows h.rows_are in
    let parts = bind_some (body_parts body) (primitive_buffer_in count (length names)) b.0 b.1 in
    record {
      buffer = b.0;
      count = count;
      found = found_by bytes m.header body rest b.0 count (length names) (message_there bytes body rest (array_content count names) m) (primitive_header_there m.header count (length body) names m.header_is h.names_are) b.1;
      values = b.2;
      len = buffer_len count (length names) parts.0 b.0 parts.2;
    }

-- the bytes are messages of primitive arrays, and nothing else
abbrev pub ArePrimitiveArrays : List ℕ → Type 0
ArePrimitiveArrays bytes = (arrays : List (List ℤ)) × AreArrays IsPrimitiveArray i64_column bytes arrays

none_is_not_some : {A : Type 0} (o : Option A) (x : A) → o ≡ None → o ≡ Some x → ⊥
none_is_not_some None x e h = cc
none_is_not_some (Some y) x e h = cc

some_same : {A : Type 0} (o : Option A) (x y : A) → o ≡ Some x → o ≡ Some y → x ≡ y
some_same None x y e h = absurd cc
some_same (Some z) x y e h = cc

behind_first : (bytes : List ℕ) (p : List ℕ × List ℕ) (arrays : List (List ℤ)) → 0 < length bytes → primitive_array_of bytes ≡ Some p → AreArrays IsPrimitiveArray i64_column bytes arrays → ArePrimitiveArrays p.1
behind_first bytes p [] some found h = absurd (omega (arith, ap length h))
behind_first bytes p (rows ∷ arrays) some found h =
    let a = array_there bytes h.0 h.1 h.2 h.3 rows h.4 h.5 in
    let same : (a.buffer, h.3) ≡ p = some_same (primitive_array_of bytes) (a.buffer, h.3) p a.found found in
    (arrays, subst (λ (q : List ℕ × List ℕ). AreArrays IsPrimitiveArray i64_column q.1 arrays) same h.6)

-- behind the first array stand arrays again
pub arrays_behind : (bytes : List ℕ) (p : List ℕ × List ℕ) → 0 < length bytes → primitive_array_of bytes ≡ Some p → ArePrimitiveArrays bytes → ArePrimitiveArrays p.1
arrays_behind bytes p some found h = behind_first bytes p h.0 some found h.1

none_first : (bytes : List ℕ) (arrays : List (List ℤ)) → 0 < length bytes → primitive_array_of bytes ≡ None → AreArrays IsPrimitiveArray i64_column bytes arrays → ⊥
none_first bytes [] some none h = omega (arith, ap length h)
none_first bytes (rows ∷ arrays) some none h =
    let a = array_there bytes h.0 h.1 h.2 h.3 rows h.4 h.5 in
    none_is_not_some (primitive_array_of bytes) (a.buffer, h.3) none a.found

-- where no array is found, no arrays stand
pub no_arrays : (bytes : List ℕ) → 0 < length bytes → primitive_array_of bytes ≡ None → ArePrimitiveArrays bytes → ⊥
no_arrays bytes some none h = none_first bytes h.0 some none h.1

-- ---- streams

only_column : (t : ColumnType) → t ≡ i64_column
only_column i64_column = refl

-- where no type is found, no stream stands
pub no_type : (bytes : List ℕ) → after_type_of bytes ≡ None → IsSomeStream bytes → ⊥
no_type bytes none h = none_is_not_some (after_type_of bytes) h.2.rest none (after_type_there bytes h.2.body h.2.rest h.0 h.2.message h.2.is_type)

-- behind the type of a stream stand its arrays
its_arrays : (bytes start : List ℕ) (t : ColumnType) (arrays : List (List ℤ)) → after_type_of bytes ≡ Some start → IsColumnStream bytes t arrays → AreArrays IsPrimitiveArray i64_column start arrays
its_arrays bytes start t arrays found s =
    let same : s.rest ≡ start = some_same (after_type_of bytes) s.rest start (after_type_there bytes s.body s.rest t s.message s.is_type) found in
    subst (λ (l : List ℕ). AreArrays IsPrimitiveArray i64_column l arrays) same (subst (λ t. AreArrays IsPrimitiveArray t s.rest arrays) (only_column t) s.are_arrays)

pub stream_arrays : (bytes start : List ℕ) → after_type_of bytes ≡ Some start → IsSomeStream bytes → ArePrimitiveArrays start
stream_arrays bytes start found h = (h.1, its_arrays bytes start h.0 h.1 found h.2)

-- ---- at most one meaning

no_first : (bytes body rest : List ℕ) (content : Content) → bytes ≡ [] → IsMessage bytes content body rest → ⊥
no_first bytes body rest content e m = omega (arith, ap length (sym e ∙ m.parts ∙ grouped m.prefix m.header body rest), length-append m.prefix (m.header ++ (body ++ rest)), m.prefix_len)

arrays_same : (bytes : List ℕ) (a b : List (List ℤ)) → AreArrays IsPrimitiveArray i64_column bytes a → AreArrays IsPrimitiveArray i64_column bytes b → a ≡ b
arrays_same bytes [] [] h k = refl
arrays_same bytes [] (s ∷ b) h k = absurd (no_first bytes k.2 k.3 (array_content k.0 k.1) h k.4)
arrays_same bytes (r ∷ a) [] h k = absurd (no_first bytes h.2 h.3 (array_content h.0 h.1) k h.4)
arrays_same bytes (r ∷ a) (s ∷ b) h k =
    let x = array_there bytes h.0 h.1 h.2 h.3 r h.4 h.5 in
    let y = array_there bytes k.0 k.1 k.2 k.3 s k.4 k.5 in
    let first : List ℕ × List ℕ = (x.buffer, h.3) in
    let second : List ℕ × List ℕ = (y.buffer, k.3) in
    let same : first ≡ second = some_same (primitive_array_of bytes) (x.buffer, h.3) (y.buffer, k.3) x.found y.found in
    let buffer : x.buffer ≡ y.buffer = ap (λ (q : List ℕ × List ℕ). q.0) same in
    let rest : h.3 ≡ k.3 = ap (λ (q : List ℕ × List ℕ). q.1) same in
    let count : x.count ≡ y.count = omega (arith, x.len, y.len, ap length buffer) in
    let rows : r ≡ s = x.values ∙ ap (λ n. i64_values n x.buffer) count ∙ ap (i64_values y.count) buffer ∙ sym y.values in
    let others : a ≡ b = arrays_same h.3 a b h.6 (subst (λ (l : List ℕ). AreArrays IsPrimitiveArray i64_column l b) (sym rest) k.6) in
    ap (λ (l : List ℤ). l ∷ a) rows ∙ ap (λ (l : List (List ℤ)). s ∷ l) others

-- bytes stand for one type and one list of arrays at most
pub one_meaning : (bytes : List ℕ) (t u : ColumnType) (a b : List (List ℤ)) → IsColumnStream bytes t a → IsColumnStream bytes u b → (t ≡ u) × (a ≡ b)
one_meaning bytes t u a b h k =
    let found = after_type_there bytes k.body k.rest u k.message k.is_type in
    (only_column t ∙ sym (only_column u), arrays_same k.rest a b (its_arrays bytes k.rest t a found h) (its_arrays bytes k.rest u b found k))
