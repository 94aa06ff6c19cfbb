-- What the readers of messages find is a message, and what is a message they find.
use Rattle.std.proofs.Common.{◌≡◌, ℕ, ◌≤◌, cond, eqb, leb, List, ◌++◌, length, take, drop, Some, None, refl, sym, ap, subst, ◌∙◌, arith, append_assoc, take-append-drop}
use Rattle.std.proofs.lemmas.Bool.{leb-true, eqb-true}
use Rattle.std.proofs.lemmas.List.{length-take}
use Rattle.vortex_flat.specs.Numbers.{little_endian, number}
use Rattle.vortex_prelude.specs.Chain.{◌>>=◌}
use Rattle.vortex_flat.proofs.TableLemmas.{bind_some, guard_some}
use Rattle.vortex_stream.specs.Header.{type_content, message_table_of, content_at, header_of}
use Rattle.vortex_stream.specs.Stream.{IsMessage}
use Rattle.vortex_select.specs.Column.{ColumnType, i64_column, column_type_of}
use Rattle.vortex_select.specs.inner.Decoding.{prefix_of, length_prefixed_of, type_size_of, after_type_of}

-- a front and what follows it are the bytes
pub record IsSplit (n : ℕ) (bytes x rest : List ℕ) : Type 0 where
  pub parts : bytes ≡ x ++ rest
  pub len : length x ≡ n

pub prefix_found : (n : ℕ) (bytes : List ℕ) (p : List ℕ × List ℕ) → prefix_of n bytes ≡ Some p → IsSplit n bytes p.0 p.1
prefix_found n bytes p e =
    let made : List ℕ × List ℕ = (take n bytes, drop n bytes) in
    let g = guard_some (leb n (length bytes)) made p e in
    let le : n ≤ length bytes = leb-true _ _ g.0 in
    subst (λ (q : List ℕ × List ℕ). IsSplit n bytes q.0 q.1) g.1 (record { parts = sym (take-append-drop n bytes); len = omega (arith, length-take n bytes) })

-- the number of the first four bytes
pub number_front : (bytes : List ℕ) (n : ℕ) → number bytes 0 4 ≡ Some n → (4 ≤ length bytes) × (little_endian (take 4 bytes) ≡ n)
unfolding number
number_front bytes n e =
    let g = guard_some (leb 4 (length bytes)) (little_endian (take 4 bytes)) n e in
    (leb-true _ _ g.0, g.1)

-- bytes behind their length
pub record IsLengthPrefixed (bytes x rest : List ℕ) : Type 0 where
  pub parts : bytes ≡ take 4 bytes ++ (x ++ rest)
  pub long : 4 ≤ length bytes
  pub len : little_endian (take 4 bytes) ≡ length x

pub length_prefixed_found : (bytes : List ℕ) (p : List ℕ × List ℕ) → length_prefixed_of bytes ≡ Some p → IsLengthPrefixed bytes p.0 p.1
unfolding length_prefixed_of
length_prefixed_found bytes p e =
    let len = bind_some (number bytes 0 4) (λ n. prefix_of n (drop 4 bytes)) p e in
    let n = number_front bytes len.0 len.1 in
    let f = prefix_found len.0 (drop 4 bytes) p len.2 in
    record {
      parts = sym (take-append-drop 4 bytes) ∙ ap (λ (l : List ℕ). take 4 bytes ++ l) f.parts;
      long = n.0;
      len = n.1 ∙ sym f.len;
    }

pub type_size_found : (header : List ℕ) (size : ℕ) → type_size_of header ≡ Some size → header_of header ≡ Some (record { content = type_content; body_size = size })
unfolding type_size_of header_of content_at
type_size_found header size e =
    let m = bind_some (message_table_of header) (λ m. cond (eqb m.kind 3) (Some m.body_size) None) size e in
    let g = guard_some (eqb m.0.kind 3) m.0.body_size size m.2 in
    let three : m.0.kind ≡ 3 = eqb-true _ _ g.0 in
    rw (m.1, three, g.1) refl

-- the parts of a message, from the left
pub regroup : (a b c d : List ℕ) → a ++ (b ++ (c ++ d)) ≡ a ++ b ++ c ++ d
regroup a b c d = sym (simp append_assoc)

pub record AfterType (bytes rest : List ℕ) : Type 0 where
  pub body : List ℕ
  pub message : IsMessage bytes type_content body rest
  pub column : column_type_of body ≡ Some i64_column

only_column : (c : ColumnType) → c ≡ i64_column
only_column i64_column = refl

pub after_type_found : (bytes rest : List ℕ) → after_type_of bytes ≡ Some rest → AfterType bytes rest
unfolding after_type_of
after_type_found bytes rest e =
    let header = bind_some (length_prefixed_of bytes) (λ h. type_size_of h.0 >>= λ size. prefix_of size h.1 >>= λ body. column_type_of body.0 >>= λ c. Some body.1) rest e in
    let size = bind_some (type_size_of header.0.0) (λ size. prefix_of size header.0.1 >>= λ body. column_type_of body.0 >>= λ c. Some body.1) rest header.2 in
    let body = bind_some (prefix_of size.0 header.0.1) (λ body. column_type_of body.0 >>= λ c. Some body.1) rest size.2 in
    let column = bind_some (column_type_of body.0.0) (λ c. Some body.0.1) rest body.2 in
    let h = length_prefixed_found bytes header.0 header.1 in
    let b = prefix_found size.0 header.0.1 body.0 body.1 in
    let rest-is : body.0.1 ≡ rest = cc in
    record {
      body = body.0.0;
      message = record {
        prefix = take 4 bytes;
        header = header.0.0;
        parts = h.parts ∙ ap (λ (l : List ℕ). take 4 bytes ++ (header.0.0 ++ l)) (b.parts ∙ ap (λ (l : List ℕ). body.0.0 ++ l) rest-is) ∙ regroup (take 4 bytes) header.0.0 body.0.0 rest;
        prefix_len = omega (arith, length-take 4 bytes, h.long);
        header_len = h.len;
        header_is = type_size_found header.0.0 size.0 size.1 ∙ ap (λ (n : ℕ). Some (record { content = type_content; body_size = n })) (sym b.len);
      };
      column = column.1 ∙ ap Some (only_column column.0);
    }
