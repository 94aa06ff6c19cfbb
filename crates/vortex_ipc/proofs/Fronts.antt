-- The front of bytes is one thing, and stays what it is when more bytes follow.
use Rattle.std.proofs.Common.{◌≡◌, inl, inr, ℕ, ◌+◌, ◌≤◌, List, [], ◌++◌, length, take, drop, Option, Some, None, sym, ap, subst, ◌∙◌, arith, append_assoc}
use Rattle.std.proofs.Math.Seq.{take-append_seam, drop-append_seam}
use Rattle.std.proofs.lemmas.List.{length-append, nil_from_length}
use Rattle.vortex_flat.specs.Numbers.{little_endian}
use Rattle.vortex_stream.specs.Header.{Content, Header, header_of}
use Rattle.vortex_stream.specs.Stream.{IsMessage}
use Rattle.vortex_stream.specs.declared.kind.MessageKind.{MessageKind}
use Rattle.vortex_ipc.specs.Message.{Message}
use Rattle.vortex_ipc.specs.Decoding.{BeginsWithLength, BeginsWithHeader, HasHeader, HasMessage, NeedsMore}

-- ---- one front

pub same_front : (a b x y : List ℕ) → a ++ x ≡ b ++ y → length a ≡ length b → a ≡ b
same_front a b x y e len =
    sym (take-append_seam a x) ∙ ap (λ n. take n (a ++ x)) len ∙ ap (take (length b)) e ∙ take-append_seam b y

pub same_back : (a b x y : List ℕ) → a ++ x ≡ b ++ y → length a ≡ length b → x ≡ y
same_back a b x y e len =
    sym (drop-append_seam a x) ∙ ap (λ n. drop n (a ++ x)) len ∙ ap (drop (length b)) e ∙ drop-append_seam b y

pub record SameLength (size other : ℕ) (rest left : List ℕ) : Type 0 where
  pub size_is : size ≡ other
  pub rest_is : rest ≡ left

pub one_length : (bytes : List ℕ) (size other : ℕ) (rest left : List ℕ) → BeginsWithLength bytes size rest → BeginsWithLength bytes other left → SameLength size other rest left
one_length bytes size other rest left a b =
    let e : a.prefix ++ rest ≡ b.prefix ++ left = sym a.parts ∙ b.parts in
    let len : length a.prefix ≡ length b.prefix = a.prefix_len ∙ sym b.prefix_len in
    record {
      size_is = sym a.size_is ∙ ap little_endian (same_front a.prefix b.prefix rest left e len) ∙ b.size_is;
      rest_is = same_back a.prefix b.prefix rest left e len;
    }

-- what a header says
abbrev pub saying : Content → ℕ → Header
saying content size = record { content = content; body_size = size }

abbrev size_in : Option Header → ℕ
size_in None = 0
size_in (Some h) = h.body_size

abbrev content_in : Content → Option Header → Content
content_in c None = c
content_in c (Some h) = h.content

pub record SameHeader (content other : Content) (size number : ℕ) (rest left : List ℕ) : Type 0 where
  pub content_is : content ≡ other
  pub size_is : size ≡ number
  pub rest_is : rest ≡ left

pub one_header : (bytes : List ℕ) (content other : Content) (size number : ℕ) (rest left : List ℕ) → HasHeader bytes content size rest → HasHeader bytes other number left → SameHeader content other size number rest left
one_header bytes content other size number rest left a b =
    let s = one_length bytes (length a.header) (length b.header) (a.header ++ rest) (b.header ++ left) a.begins b.begins in
    let h : a.header ≡ b.header = same_front a.header b.header rest left s.rest_is s.size_is in
    let said = sym a.header_is ∙ ap header_of h ∙ b.header_is in
    record {
      content_is = ap (content_in content) said;
      size_is = ap size_in said;
      rest_is = same_back a.header b.header rest left s.rest_is s.size_is;
    }

-- ---- more bytes behind

pub length_append : (bytes : List ℕ) (size : ℕ) (rest more : List ℕ) → BeginsWithLength bytes size rest → BeginsWithLength (bytes ++ more) size (rest ++ more)
length_append bytes size rest more b = record {
  prefix = b.prefix;
  parts = ap (λ (l : List ℕ). l ++ more) b.parts ∙ append_assoc b.prefix rest more;
  prefix_len = b.prefix_len;
  size_is = b.size_is;
}

pub begin_append : (bytes header rest more : List ℕ) → BeginsWithHeader bytes header rest → BeginsWithHeader (bytes ++ more) header (rest ++ more)
begin_append bytes header rest more b =
    subst (BeginsWithLength (bytes ++ more) (length header)) (append_assoc header rest more) (length_append bytes (length header) (header ++ rest) more b)

pub header_append : (bytes : List ℕ) (content : Content) (size : ℕ) (rest more : List ℕ) → HasHeader bytes content size rest → HasHeader (bytes ++ more) content size (rest ++ more)
header_append bytes content size rest more h = record {
  header = h.header;
  begins = begin_append bytes h.header rest more h.begins;
  header_is = h.header_is;
}

-- ---- messages

pub regroup : (a b c d : List ℕ) → a ++ b ++ c ++ d ≡ a ++ (b ++ (c ++ d))
regroup a b c d = simp append_assoc

-- the header of a message
pub message_header : (bytes : List ℕ) (content : Content) (body rest : List ℕ) → IsMessage bytes content body rest → HasHeader bytes content (length body) (body ++ rest)
message_header bytes content body rest m = record {
  header = m.header;
  begins = record {
    prefix = m.prefix;
    parts = m.parts ∙ regroup m.prefix m.header body rest;
    prefix_len = m.prefix_len;
    size_is = m.header_len;
  };
  header_is = m.header_is;
}

pub no_more : (there more front rest : List ℕ) → length (there ++ more) ≤ length front → there ++ more ≡ front ++ rest → rest ≡ []
no_more there more front rest le e =
    let len : length (there ++ more) ≡ length front + length rest = ap length e ∙ length-append front rest in
    nil_from_length rest (omega (arith, le, len))

-- where no more was added than a part was missing, nothing is behind the message
pub exact : (held : List (List ℕ)) (wanted : Option MessageKind) (bytes there more : List ℕ) (size : ℕ) (message : Message) (rest : List ℕ) → NeedsMore held wanted bytes size there → length (there ++ more) ≤ size → HasMessage held wanted (bytes ++ more) message rest → rest ≡ []
exact held wanted bytes there more size message rest (inl n) le m =
    let h = message_header (bytes ++ more) m.0 m.1 rest m.2 in
    let parts : there ++ more ≡ h.begins.prefix ++ (h.header ++ (m.1 ++ rest)) = subst (λ (l : List ℕ). l ++ more ≡ h.begins.prefix ++ (h.header ++ (m.1 ++ rest))) n.0 h.begins.parts in
    let len = ap length parts ∙ length-append h.begins.prefix (h.header ++ (m.1 ++ rest)) in
    nil_from_length rest (omega (arith, le, len, n.1, h.begins.prefix_len, length-append h.header (m.1 ++ rest), length-append m.1 rest))
exact held wanted bytes there more size message rest (inr (inl n)) le m =
    let h = message_header (bytes ++ more) m.0 m.1 rest m.2 in
    let s = one_length (bytes ++ more) size (length h.header) (there ++ more) (h.header ++ (m.1 ++ rest)) (length_append bytes size there more n.0) h.begins in
    let len = ap length s.rest_is ∙ length-append h.header (m.1 ++ rest) in
    nil_from_length rest (omega (arith, le, len, s.size_is, length-append m.1 rest))
exact held wanted bytes there more size message rest (inr (inr n)) le m =
    let h = message_header (bytes ++ more) m.0 m.1 rest m.2 in
    let s = one_header (bytes ++ more) n.0 m.0 size (length m.1) (there ++ more) (m.1 ++ rest) (header_append bytes n.0 size there more n.1) h in
    let len = ap length s.rest_is ∙ length-append m.1 rest in
    nil_from_length rest (omega (arith, le, len, s.size_is))
