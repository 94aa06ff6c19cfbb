-- What a header that was taken says of the bytes.
use Rattle.std.proofs.Common.{◌≡◌, inl, inr, ℕ, ◌<◌, true, false, List, ◌++◌, length, Option, Some, None, refl, sym, ap, subst, ◌∙◌, append_assoc}
use Rattle.std.specs.Option.{option_map}
use Rattle.vortex_terms.specs.Term.{Term}
use Rattle.vortex_flat.specs.Numbers.{little_endian}
use Rattle.vortex_schema.specs.TypeAt.{IsTypeIn}
use Rattle.vortex_stream.specs.Header.{Content, Header, type_content, header_of, kind_of}
use Rattle.vortex_stream.specs.Stream.{IsMessage}
use Rattle.vortex_stream.specs.declared.kind.MessageKind.{MessageKind}
use Rattle.vortex_stream.specs.declared.kind.MessageKind.TheVariants as kinds
use Rattle.vortex_stream.specs.declared.error.IpcError.{IpcError}
use Rattle.vortex_stream.specs.declared.error.IpcError.TheVariants as error
use Rattle.vortex_ipc.specs.declared.decoder.TakenHeader.{TakenHeader}
use Rattle.vortex_ipc.specs.declared.header.ContentHead.{ContentHead}
use Rattle.vortex_ipc.specs.declared.header.Head.{Head}
use Rattle.vortex_ipc.specs.declared.message.DecoderMessage.{DecoderMessage}
use Rattle.vortex_body.specs.Reading.{node_of}
use Rattle.vortex_ipc.specs.Message.{message_of}
use Rattle.vortex_ipc.specs.Decoding.{BeginsWithLength, HasHeader, HasNoHeader, HasNoNode, HasNoType, HasMessage, IsAdmitted, NeedsMore, IsFlawed, is_answered}
use Rattle.vortex_ipc.specs.inner.Heads.{IsHeadOf, content_head, head_of}
use Rattle.vortex_ipc.proofs.Contents.{array_from, type_from}
use Rattle.vortex_ipc.specs.inner.Begun.{HeadStandsFor, IsTaken, NoBodyBy, NoHeaderBy, StopsBy, taken_bytes}

-- ---- lengths and headers

-- the bytes begin with the length that was taken
pub begins : (prefix q : List ℕ) → length prefix ≡ 4 → BeginsWithLength (prefix ++ q) (little_endian prefix) q
begins prefix q len = record { prefix = prefix; parts = refl; prefix_len = len; size_is = refl }

-- more is needed of a header
pub cut_header : (held : List (List ℕ)) (wanted : Option MessageKind) (prefix q : List ℕ) (size : ℕ) → length prefix ≡ 4 → size ≡ little_endian prefix → length q < little_endian prefix → NeedsMore held wanted (prefix ++ q) size q
cut_header held wanted prefix q size len e lt = subst (λ (n : ℕ). NeedsMore held wanted (prefix ++ q) n q) (sym e) (inr (inl (begins prefix q len, lt)))

-- more is needed of a length
pub cut_length : (held : List (List ℕ)) (wanted : Option MessageKind) (q : List ℕ) → length q < 4 → NeedsMore held wanted q 4 q
cut_length held wanted q lt = inl (refl, refl, lt)

-- no header stands there
pub no_header : (prefix q header rest : List ℕ) → length prefix ≡ 4 → q ≡ header ++ rest → length header ≡ little_endian prefix → header_of header ≡ None → HasNoHeader (prefix ++ q)
no_header prefix q header rest len parts size none =
    (header, rest, record { prefix = prefix; parts = ap (λ (l : List ℕ). prefix ++ l) parts; prefix_len = len; size_is = sym size }, none)

-- what is kept of a header is kept of one
pub record HasContent (held : List (List ℕ)) (h : List ℕ) (head : Head) : Type 0 where
  pub content : Content
  pub header_is : header_of h ≡ Some (record { content = content; body_size = head.body_size })
  pub content_is : content_head held content ≡ head.content

head_from : (held : List (List ℕ)) (o : Option Header) (head : Head) → option_map (head_of held) o ≡ Some head → (content : Content) × (o ≡ Some (record { content = content; body_size = head.body_size })) × (content_head held content ≡ head.content)
head_from held None head e = absurd cc
head_from held (Some x) head e =
    let same : head_of held x ≡ head = cc in
    subst (λ (k : Head). (content : Content) × (Some x ≡ Some (record { content = content; body_size = k.body_size })) × (content_head held content ≡ k.content)) same (x.content, refl, refl)

pub head_is : (held : List (List ℕ)) (h : List ℕ) (head : Head) → option_map (head_of held) (header_of h) ≡ Some head → HasContent held h head
head_is held h head e = let f = head_from held (header_of h) head e in record { content = f.0; header_is = f.1; content_is = f.2 }

-- so much of it is kept as a body wants
pub is_head_of : (held : List (List ℕ)) (t : TakenHeader) → IsTaken held t → IsHeadOf t.header.bytes t.head.content
is_head_of held t i =
    let h = head_is held t.header.bytes t.head i.head_is in
    record {
      content = h.content;
      body_size = t.head.body_size;
      header_is = h.header_is;
      kind_is = ap (λ (c : ContentHead). c.kind) h.content_is;
      exponent_is = ap (λ (c : ContentHead). c.exponent) h.content_is;
      rows_is = ap (λ (c : ContentHead). c.rows) h.content_is;
    }

-- the bytes begin with the header that was taken
pub has_header : (held : List (List ℕ)) (t : TakenHeader) (q : List ℕ) (i : IsTaken held t) (h : HasContent held t.header.bytes t.head) → HasHeader (taken_bytes t ++ q) h.content t.head.body_size q
has_header held t q i h = record {
  header = t.header.bytes;
  begins = record {
    prefix = t.prefix.bytes;
    parts = append_assoc t.prefix.bytes t.header.bytes q;
    prefix_len = i.prefix_len;
    size_is = i.size_is;
  };
  header_is = h.header_is;
}

kind_is : (held : List (List ℕ)) (t : TakenHeader) (h : HasContent held t.header.bytes t.head) → kind_of h.content ≡ t.head.content.kind
kind_is held t h = ap (λ (c : ContentHead). c.kind) h.content_is

-- ---- steps

no_head : (held : List (List ℕ)) (o : Option Header) → option_map (head_of held) o ≡ None → o ≡ None
no_head held None e = refl
no_head held (Some h) e = absurd (some_none (head_of held h) e)
  where
    some_none : (x : Head) → ◌≡◌ {A = Option Head} (Some x) None → ⊥
    some_none x e = cc

-- the header that was taken is none
pub none_taken : (held : List (List ℕ)) (prefix q header rest : List ℕ) (e : IpcError) → length prefix ≡ 4 → q ≡ header ++ rest → length header ≡ little_endian prefix → option_map (head_of held) (header_of header) ≡ None → e ≡ error.MalformedHeader → NoHeaderBy (prefix ++ q) e
none_taken held prefix q header rest e len parts size none is = inr (is, no_header prefix q header rest len parts size (no_head held (header_of header) none))

-- it is one
pub is_taken : (held : List (List ℕ)) (t : TakenHeader) → length t.prefix.bytes ≡ 4 → length t.header.bytes ≡ little_endian t.prefix.bytes → option_map (head_of held) (header_of t.header.bytes) ≡ Some t.head → IsTaken held t
is_taken held t len size head = record { prefix_len = len; size_is = sym size; head_is = head }

-- what was taken before the rest
pub taken_parts : (t : TakenHeader) (q rest : List ℕ) → q ≡ t.header.bytes ++ rest → t.prefix.bytes ++ q ≡ taken_bytes t ++ rest
taken_parts t q rest e = ap (λ (l : List ℕ). t.prefix.bytes ++ l) e ∙ sym (append_assoc t.prefix.bytes t.header.bytes rest)

-- lack of memory, or no header, stops a step
pub stops_early : (held : List (List ℕ)) (wanted : Option MessageKind) (bytes : List ℕ) (e : IpcError) → NoHeaderBy bytes e → StopsBy held wanted bytes e
stops_early held wanted bytes e (inl memory) = inl memory
stops_early held wanted bytes e (inr h) = inr (subst (IsFlawed held wanted bytes) (sym h.0) h.1)

-- ---- the answers to a header that was taken

-- it is of another kind
pub other_kind : (held : List (List ℕ)) (wanted : Option MessageKind) (t : TakenHeader) (q : List ℕ) (e : IpcError) → IsTaken held t → e ≡ error.WrongKind (Some t.head.content.kind) → is_answered wanted t.head.content.kind ≡ false → StopsBy held wanted (taken_bytes t ++ q) e
other_kind held wanted t q e i is other =
    let h = head_is held t.header.bytes t.head i.head_is in
    inr (subst (IsFlawed held wanted (taken_bytes t ++ q)) (sym is) (h.content, t.head.body_size, q, has_header held t q i h, kind_is held t h, other))

-- it names an encoding that is not held
pub unknown_encoding : (held : List (List ℕ)) (wanted : Option MessageKind) (t : TakenHeader) (q : List ℕ) (e : IpcError) → IsTaken held t → e ≡ error.UnknownEncoding → is_answered wanted t.head.content.kind ≡ true → t.head.content.held ≡ false → StopsBy held wanted (taken_bytes t ++ q) e
unknown_encoding held wanted t q e i is asked unknown =
    let h = head_is held t.header.bytes t.head i.head_is in
    inr (subst (IsFlawed held wanted (taken_bytes t ++ q)) (sym is) (h.content, t.head.body_size, q, has_header held t q i h, ap (is_answered wanted) (kind_is held t h) ∙ asked, ap (λ (c : ContentHead). c.held) h.content_is ∙ unknown))

-- it is admitted
admitted : (held : List (List ℕ)) (wanted : Option MessageKind) (t : TakenHeader) (h : HasContent held t.header.bytes t.head) → is_answered wanted t.head.content.kind ≡ true → t.head.content.held ≡ true → IsAdmitted held wanted h.content
admitted held wanted t h asked known = (ap (is_answered wanted) (kind_is held t h) ∙ asked, ap (λ (c : ContentHead). c.held) h.content_is ∙ known)

-- more is needed of its body
pub cut_body : (held : List (List ℕ)) (wanted : Option MessageKind) (t : TakenHeader) (q : List ℕ) (size : ℕ) → IsTaken held t → is_answered wanted t.head.content.kind ≡ true → t.head.content.held ≡ true → size ≡ t.head.body_size → length q < t.head.body_size → NeedsMore held wanted (taken_bytes t ++ q) size q
cut_body held wanted t q size i asked known e lt =
    let h = head_is held t.header.bytes t.head i.head_is in
    subst (λ (n : ℕ). NeedsMore held wanted (taken_bytes t ++ q) n q) (sym e) (inr (inr (h.content, has_header held t q i h, admitted held wanted t h asked known, lt)))

-- it is the header of a whole message
whole : (held : List (List ℕ)) (t : TakenHeader) (q body rest : List ℕ) (i : IsTaken held t) (h : HasContent held t.header.bytes t.head) → q ≡ body ++ rest → length body ≡ t.head.body_size → IsMessage (taken_bytes t ++ q) h.content body rest
whole held t q body rest i h parts len = record {
  prefix = t.prefix.bytes;
  header = t.header.bytes;
  parts = ap (λ (l : List ℕ). taken_bytes t ++ l) parts ∙ sym (append_assoc (taken_bytes t) body rest);
  prefix_len = i.prefix_len;
  header_len = i.size_is;
  header_is = h.header_is ∙ ap (λ n. Some (record { content = h.content; body_size = n })) (sym len);
}

-- the message stands there
pub has_message : (held : List (List ℕ)) (wanted : Option MessageKind) (t : TakenHeader) (q body rest : List ℕ) (message : DecoderMessage) → IsTaken held t → is_answered wanted t.head.content.kind ≡ true → t.head.content.held ≡ true → q ≡ body ++ rest → length body ≡ t.head.body_size
    → HeadStandsFor t.header.bytes body message → HasMessage held wanted (taken_bytes t ++ q) (message_of message) rest
has_message held wanted t q body rest message i asked known parts len stands =
    let h = head_is held t.header.bytes t.head i.head_is in
    (h.content, body, whole held t q body rest i h parts len, admitted held wanted t h asked known, stands h.content t.head.body_size h.header_is)

-- no type stands in its body
no_type : (held : List (List ℕ)) (wanted : Option MessageKind) (t : TakenHeader) (q body rest : List ℕ) → IsTaken held t → is_answered wanted t.head.content.kind ≡ true → q ≡ body ++ rest → length body ≡ t.head.body_size
    → t.head.content.kind ≡ kinds.DType → ((u : Term) → IsTypeIn body u → ⊥) → HasNoType wanted (taken_bytes t ++ q)
no_type held wanted t q body rest i asked parts len kind none =
    let h = head_is held t.header.bytes t.head i.head_is in
    let m = whole held t q body rest i h parts len in
    let is : h.content ≡ type_content = type_from h.content (kind_is held t h ∙ kind) in
    (body, rest, subst (λ (c : Content). IsMessage (taken_bytes t ++ q) c body rest) is m, ap (is_answered wanted) (sym kind) ∙ asked, none)

-- no node is found in its body
no_node : (held : List (List ℕ)) (wanted : Option MessageKind) (t : TakenHeader) (q body rest : List ℕ) → IsTaken held t → is_answered wanted t.head.content.kind ≡ true → t.head.content.held ≡ true → q ≡ body ++ rest → length body ≡ t.head.body_size
    → t.head.content.kind ≡ kinds.Array → node_of body ≡ None → HasNoNode held wanted (taken_bytes t ++ q)
no_node held wanted t q body rest i asked known parts len kind none =
    let h = head_is held t.header.bytes t.head i.head_is in
    let m = whole held t q body rest i h parts len in
    let c = array_from h.content (kind_is held t h ∙ kind) in
    (c.0, c.1, body, rest, subst (λ (x : Content). IsMessage (taken_bytes t ++ q) x body rest) c.2 m, subst (IsAdmitted held wanted) c.2 (admitted held wanted t h asked known), none)

pub stops_by_body : (held : List (List ℕ)) (wanted : Option MessageKind) (t : TakenHeader) (q body rest : List ℕ) (e f : IpcError) → IsTaken held t → is_answered wanted t.head.content.kind ≡ true → t.head.content.held ≡ true → q ≡ body ++ rest → length body ≡ t.head.body_size
    → NoBodyBy t.head.content body f → e ≡ f → StopsBy held wanted (taken_bytes t ++ q) e
stops_by_body held wanted t q body rest e f i asked known parts len (inl memory) same = inl (same ∙ memory)
stops_by_body held wanted t q body rest e f i asked known parts len (inr (inl other)) same =
    inr (subst (IsFlawed held wanted (taken_bytes t ++ q)) (sym (same ∙ other.0)) (no_type held wanted t q body rest i asked parts len other.1 other.2))
stops_by_body held wanted t q body rest e f i asked known parts len (inr (inr other)) same =
    inr (subst (IsFlawed held wanted (taken_bytes t ++ q)) (sym (same ∙ other.0)) (no_node held wanted t q body rest i asked known parts len other.1 other.2))
