-- What the reader of arrays finds is a message of a primitive array.
use Rattle.std.proofs.Common.{◌≡◌, ℕ, ◌*◌, true, cond, eqb, ltb, List, [], ◌∷◌, ◌++◌, length, take, All, Option, Some, None, refl, sym, ap, subst, ◌∙◌, arith}
use Rattle.std.specs.Prelude.{codes, ◌&&◌}
use Rattle.std.specs.Option.{option_map, option_flatten}
use Rattle.std.specs.List.{list_all, AllByRecursion}
use Rattle.std.proofs.lemmas.Bool.{eqb-true, and_parts}
use Rattle.std.proofs.lemmas.List.{length-take}
use Rattle.std.proofs.lemmas.List.Elements.{All-from_recursion}
use Rattle.vortex_prelude.specs.Chain.{◌>>=◌}
use Rattle.vortex_flat.specs.Table.{root_at}
use Rattle.vortex_flat.specs.Targets.{number_field, table_field}
use Rattle.vortex_flat.proofs.TableLemmas.{bind_some, guard_some}
use Rattle.vortex_prelude.specs.Absent.{or_zero}
use Rattle.vortex_stream.specs.Header.{Content, array_content, MessageTable, message_table_of, content_at, header_of}
use Rattle.vortex_stream.specs.Stream.{IsMessage}
use Rattle.vortex_select.specs.Column.{i64_column, i64_values, BodyParts, body_parts, buffer_in, descriptors_at, primitive_node_at, primitive_buffer_in, primitive_buffer_of, IsPrimitiveArray}
use Rattle.vortex_select.specs.inner.Decoding.{names_at, prefix_of, length_prefixed_of, is_primitive, primitive_count, PrimitiveHeader, primitive_header_of, primitive_array_of}
use Rattle.vortex_select.proofs.Framing.{prefix_found, length_prefixed_found, regroup}
use lib.Pointwise.{bytes_decides}

each_primitive : (names : List (List ℕ)) → list_all is_primitive names ≡ true → AllByRecursion (λ name. name ≡ codes "vortex.primitive") names
each_primitive [] h = tt
each_primitive (x ∷ xs) h = let p = and_parts (is_primitive x) (list_all is_primitive xs) h in ((bytes_decides x (codes "vortex.primitive")).0 p.0, each_primitive xs p.1)

pub all_primitive : (names : List (List ℕ)) → list_all is_primitive names ≡ true → All (λ name. name ≡ codes "vortex.primitive") names
all_primitive names h = All-from_recursion (λ name. name ≡ codes "vortex.primitive") names (each_primitive names h)

pub record PrimitiveNames (found : Option (List (List ℕ))) (n : ℕ) : Type 0 where
  pub names : List (List ℕ)
  pub found_is : found ≡ Some names
  pub primitive : list_all is_primitive names ≡ true
  pub count : length names ≡ n

count_found : (found : Option (List (List ℕ))) (n : ℕ) → primitive_count found ≡ Some n → PrimitiveNames found n
unfolding primitive_count
count_found found n e =
    let b = bind_some found (λ ns. cond (list_all is_primitive ns) (Some (length ns)) None) n e in
    let g = guard_some (list_all is_primitive b.0) (length b.0) n b.2 in
    record { names = b.0; found_is = b.1; primitive = g.0; count = g.1 }

pub record HeaderFound (header : List ℕ) (p : PrimitiveHeader) : Type 0 where
  pub names : List (List ℕ)
  pub header_is : header_of header ≡ Some (record { content = array_content p.rows names; body_size = p.body_size })
  pub primitive : All (λ name. name ≡ codes "vortex.primitive") names
  pub count : length names ≡ p.names

content_found : (header : List ℕ) (inner kind rows : ℕ) (names : List (List ℕ)) → kind ≡ 1 → or_zero (number_field header inner 0 4) ≡ Some rows → (names_at header inner) ≡ Some names
    → content_at header inner kind ≡ Some (array_content rows names)
unfolding content_at
content_found header inner kind rows names one r n = rw (one, r, n) refl

header_from : (header : List ℕ) (m : MessageTable) (content : Content) → message_table_of header ≡ Some m → content_at header m.inner m.kind ≡ Some content → header_of header ≡ Some (record { content = content; body_size = m.body_size })
unfolding header_of
header_from header m content e c = rw (e, c) refl

pub header_found : (header : List ℕ) (p : PrimitiveHeader) → primitive_header_of header ≡ Some p → HeaderFound header p
unfolding primitive_header_of
header_found header p e =
    let m = bind_some (message_table_of header) (λ m. or_zero (number_field header m.inner 0 4) >>= λ rows. primitive_count (names_at header m.inner) >>= λ names. cond (eqb m.kind 1) (Some (record { rows = rows; names = names; body_size = m.body_size })) None) p e in
    let rows = bind_some (or_zero (number_field header m.0.inner 0 4)) (λ rows. primitive_count (names_at header m.0.inner) >>= λ names. cond (eqb m.0.kind 1) (Some (record { rows = rows; names = names; body_size = m.0.body_size })) None) p m.2 in
    let names = bind_some (primitive_count (names_at header m.0.inner)) (λ names. cond (eqb m.0.kind 1) (Some (record { rows = rows.0; names = names; body_size = m.0.body_size })) None) p rows.2 in
    let made : PrimitiveHeader = record { rows = rows.0; names = names.0; body_size = m.0.body_size } in
    let g = guard_some (eqb m.0.kind 1) made p names.2 in
    let n = count_found (names_at header m.0.inner) names.0 names.1 in
    let whole : HeaderFound header made = record {
      names = n.names;
      header_is = header_from header m.0 (array_content rows.0 n.names) m.1 (content_found header m.0.inner m.0.kind rows.0 n.names (eqb-true m.0.kind 1 g.0) rows.1 n.found_is);
      primitive = all_primitive n.names n.primitive;
      count = n.count;
    } in
    subst (HeaderFound header) g.1 whole

-- the buffer has 8 bytes for each row
pub buffer_len : (count names : ℕ) (parts : BodyParts) (buffer : List ℕ) → primitive_buffer_in count names parts ≡ Some buffer → length buffer ≡ 8 * count
unfolding primitive_buffer_in
buffer_len count names parts buffer e =
    let root = bind_some (root_at parts.flat) (λ root. option_flatten (table_field parts.flat root.place 0) >>= λ place. primitive_node_at parts.flat place >>= λ node. buffer_in parts.region (descriptors_at parts.flat root.place) node.buffer >>= λ b. cond (ltb node.encoding names && eqb (length b) (8 * count)) (Some b) None) buffer e in
    let place = bind_some (option_flatten (table_field parts.flat root.0.place 0)) (λ place. primitive_node_at parts.flat place >>= λ node. buffer_in parts.region (descriptors_at parts.flat root.0.place) node.buffer >>= λ b. cond (ltb node.encoding names && eqb (length b) (8 * count)) (Some b) None) buffer root.2 in
    let node = bind_some (primitive_node_at parts.flat place.0) (λ node. buffer_in parts.region (descriptors_at parts.flat root.0.place) node.buffer >>= λ b. cond (ltb node.encoding names && eqb (length b) (8 * count)) (Some b) None) buffer place.2 in
    let b = bind_some (buffer_in parts.region (descriptors_at parts.flat root.0.place) node.0.buffer) (λ b. cond (ltb node.0.encoding names && eqb (length b) (8 * count)) (Some b) None) buffer node.2 in
    let g = guard_some (ltb node.0.encoding names && eqb (length b.0) (8 * count)) b.0 buffer b.2 in
    sym (ap length g.1) ∙ eqb-true (length b.0) (8 * count) (and_parts (ltb node.0.encoding names) (eqb (length b.0) (8 * count)) g.0).1

-- a message of a primitive array, its buffer and what follows it
pub record ArrayFound (bytes buffer rest : List ℕ) : Type 0 where
  pub count : ℕ
  pub names : List (List ℕ)
  pub body : List ℕ
  pub message : IsMessage bytes (array_content count names) body rest
  pub array : IsPrimitiveArray i64_column count names body (i64_values count buffer)
  pub len : length buffer ≡ 8 * count

pub array_found : (bytes : List ℕ) (p : List ℕ × List ℕ) → primitive_array_of bytes ≡ Some p → ArrayFound bytes p.0 p.1
unfolding primitive_array_of
array_found bytes p e =
    let header = bind_some (length_prefixed_of bytes) (λ h. primitive_header_of h.0 >>= λ primitive. prefix_of primitive.body_size h.1 >>= λ body. primitive_buffer_of primitive.rows primitive.names body.0 >>= λ buffer. Some (buffer, body.1)) p e in
    let primitive = bind_some (primitive_header_of header.0.0) (λ primitive. prefix_of primitive.body_size header.0.1 >>= λ body. primitive_buffer_of primitive.rows primitive.names body.0 >>= λ buffer. Some (buffer, body.1)) p header.2 in
    let body = bind_some (prefix_of primitive.0.body_size header.0.1) (λ body. primitive_buffer_of primitive.0.rows primitive.0.names body.0 >>= λ buffer. Some (buffer, body.1)) p primitive.2 in
    let buffer = bind_some (primitive_buffer_of primitive.0.rows primitive.0.names body.0.0) (λ buffer. Some (buffer, body.0.1)) p body.2 in
    let parts = bind_some (body_parts body.0.0) (primitive_buffer_in primitive.0.rows primitive.0.names) buffer.0 buffer.1 in
    let h = length_prefixed_found bytes header.0 header.1 in
    let f = prefix_found primitive.0.body_size header.0.1 body.0 body.1 in
    let head = header_found header.0.0 primitive.0 primitive.1 in
    let made : List ℕ × List ℕ = (buffer.0, body.0.1) in
    let same : made ≡ p = cc in
    let whole : ArrayFound bytes buffer.0 body.0.1 = record {
      count = primitive.0.rows;
      names = head.names;
      body = body.0.0;
      message = record {
        prefix = take 4 bytes;
        header = header.0.0;
        parts = h.parts ∙ ap (λ (l : List ℕ). take 4 bytes ++ (header.0.0 ++ l)) f.parts ∙ regroup (take 4 bytes) header.0.0 body.0.0 body.0.1;
        prefix_len = omega (arith, length-take 4 bytes, h.long);
        header_len = h.len;
        header_is = head.header_is ∙ ap (λ (n : ℕ). Some (record { content = array_content primitive.0.rows head.names; body_size = n })) (sym f.len);
      };
      array = record {
        names_are = head.primitive;
        rows_are = ap (λ n. option_map (i64_values primitive.0.rows) (primitive_buffer_of primitive.0.rows n body.0.0)) head.count ∙ ap (option_map (i64_values primitive.0.rows)) buffer.1;
      };
      len = buffer_len primitive.0.rows primitive.0.names parts.0 buffer.0 parts.2;
    } in
    subst (λ (q : List ℕ × List ℕ). ArrayFound bytes q.0 q.1) same whole
