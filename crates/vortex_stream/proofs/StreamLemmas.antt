-- Messages and arrays of a stream, cut and joined.
use Rattle.std.proofs.Common.{◌≡◌, ℕ, List, [], ◌∷◌, ◌++◌, refl, sym, ap, subst, ◌∙◌, append_assoc, append-nil}
use Rattle.vortex_stream.specs.Header.{Content, array_content}
use Rattle.vortex_stream.specs.Stream.{IsMessage, AreArrays}

-- more bytes behind a message
pub message_append : (bytes : List ℕ) (content : Content) (body rest more : List ℕ) → IsMessage bytes content body rest → IsMessage (bytes ++ more) content body (rest ++ more)
message_append bytes content body rest more m = record {
  prefix = m.prefix;
  header = m.header;
  parts = ap (λ (l : List ℕ). l ++ more) m.parts ∙ append_assoc (m.prefix ++ m.header ++ body) rest more;
  prefix_len = m.prefix_len;
  header_len = m.header_len;
  header_is = m.header_is;
}

-- the bytes of a message alone
pub record MessageBytes (bytes : List ℕ) (content : Content) (body rest : List ℕ) : Type 0 where
  pub own : List ℕ
  pub parts : bytes ≡ own ++ rest
  pub message : IsMessage own content body []

pub message_bytes : (bytes : List ℕ) (content : Content) (body rest : List ℕ) → IsMessage bytes content body rest → MessageBytes bytes content body rest
message_bytes bytes content body rest m = record {
  own = m.prefix ++ m.header ++ body;
  parts = m.parts;
  message = record {
    prefix = m.prefix;
    header = m.header;
    parts = sym (append-nil (m.prefix ++ m.header ++ body));
    prefix_len = m.prefix_len;
    header_len = m.header_len;
    header_is = m.header_is;
  };
}

-- the arrays of bytes one after another
pub arrays_append : {T R : Type 0} (IsArray : T → ℕ → List (List ℕ) → List ℕ → R → Type 0) (t : T) (xs ys : List ℕ) (first second : List R)
    → AreArrays IsArray t xs first → AreArrays IsArray t ys second → AreArrays IsArray t (xs ++ ys) (first ++ second)
arrays_append IsArray t xs ys [] second h k = subst (λ (l : List ℕ). AreArrays IsArray t (l ++ ys) second) (sym h) k
arrays_append IsArray t xs ys (a ∷ first) second h k =
    (h.0, h.1, h.2, h.3 ++ ys, message_append xs (array_content h.0 h.1) h.2 h.3 ys h.4, h.5, arrays_append IsArray t h.3 ys first second h.6 k)

-- one message of an array
pub one_array : {T R : Type 0} (IsArray : T → ℕ → List (List ℕ) → List ℕ → R → Type 0) (t : T) (bytes : List ℕ) (count : ℕ) (names : List (List ℕ)) (body : List ℕ) (rows : R)
    → IsMessage bytes (array_content count names) body [] → IsArray t count names body rows → AreArrays IsArray t bytes (rows ∷ [])
one_array IsArray t bytes count names body rows m h = (count, names, body, [], m, h, refl)
