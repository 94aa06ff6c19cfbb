-- What a body stands for under the header that was kept.
use Rattle.std.proofs.Common.{◌≡◌, ℕ, List, Option, Some, None, refl, sym, ap, subst, ◌∙◌}
use Rattle.std.specs.Prelude.{IsSome}
use Rattle.vortex_buffer.specs.Buffer.{Buffer}
use Rattle.vortex_schema.specs.TypeAt.{IsTypeIn}
use Rattle.vortex_types.specs.declared.dtype.DType.{DType}
use Rattle.vortex_dtype.specs.DTypes.{term_of}
use Rattle.vortex_body.specs.Node.{Node}
use Rattle.vortex_body.specs.Reading.{node_of}
use Rattle.vortex_stream.specs.Header.{Content, Header, array_content, type_content, header_of, kind_of}
use Rattle.vortex_stream.specs.declared.kind.MessageKind.TheVariants as kinds
use Rattle.vortex_ipc.specs.declared.header.ContentHead.{ContentHead}
use Rattle.vortex_ipc.specs.declared.message.DecoderMessage.TheVariants as messages
use Rattle.vortex_ipc.specs.Message.{StandsFor, array_message, buffer_message, type_message}
use Rattle.vortex_ipc.specs.inner.Begun.{HeadStandsFor}
use Rattle.vortex_ipc.specs.inner.Heads.{IsHeadOf, exponent_of, names_told, rows_in}
use Rattle.vortex_ipc.proofs.Contents.{array_from, buffer_from, type_from}
use Rattle.vortex_ipc.proofs.HeadLemmas.{told}

abbrev content_in : Content → Option Header → Content
content_in c None = c
content_in c (Some h) = h.content

-- a header tells one content
one_content : (header : List ℕ) (c d : Content) (n k : ℕ) → header_of header ≡ Some (record { content = c; body_size = n }) → header_of header ≡ Some (record { content = d; body_size = k }) → c ≡ d
one_content header c d n k e f = ap (content_in c) (sym e ∙ f)

-- what holds of the content that was kept holds of each that the header tells
by_content : (header : List ℕ) (head : ContentHead) (body : List ℕ) (m : _) → (h : IsHeadOf header head) → StandsFor h.content body m → (content : Content) (size : ℕ) → header_of header ≡ Some (record { content = content; body_size = size }) → StandsFor content body m
by_content header head body m h stands content size e =
    subst (λ (c : Content). StandsFor c body m) (one_content header h.content content h.body_size size h.header_is e) stands

some_names : (a b : List (List ℕ)) → Some a ≡ Some b → a ≡ b
some_names a b e = cc

-- the names of an array are there
pub names_there : (header : List ℕ) (head : ContentHead) → IsHeadOf header head → head.kind ≡ kinds.Array → IsSome (names_told header)
names_there header head h kind =
    let c = array_from h.content (h.kind_is ∙ kind) in
    let e : header_of header ≡ Some (record { content = array_content c.0 c.1; body_size = h.body_size }) = h.header_is ∙ ap (λ (x : Content). Some (record { content = x; body_size = h.body_size })) c.2 in
    subst (λ (found : Option (List (List ℕ))). IsSome found) (sym (told header c.0 c.1 h.body_size e)) refl

-- the message of an array
pub array_stands : (header : List ℕ) (head : ContentHead) (body : List ℕ) (n : Node) (names : List (List ℕ)) (rows : ℕ) → IsHeadOf header head → head.kind ≡ kinds.Array → node_of body ≡ Some n → names_told header ≡ Some names → rows ≡ head.rows → HeadStandsFor header body (messages.Array (n, names, rows))
array_stands header head body n names rows h kind found names_are rows_are content size e =
    let c = array_from content (ap kind_of (one_content header content h.content size h.body_size e h.header_is) ∙ h.kind_is ∙ kind) in
    let told_is : header_of header ≡ Some (record { content = array_content c.0 c.1; body_size = size }) = e ∙ ap (λ (x : Content). Some (record { content = x; body_size = size })) c.2 in
    let same : c.1 ≡ names = some_names c.1 names (sym (told header c.0 c.1 size told_is) ∙ names_are) in
    let many : c.0 ≡ rows = ap rows_in (sym c.2 ∙ one_content header content h.content size h.body_size e h.header_is) ∙ h.rows_is ∙ sym rows_are in
    subst (λ (x : Content). StandsFor x body (array_message rows names n)) (sym c.2)
    (n, found, sym (ap (λ r. array_message r c.1 n) many ∙ ap (λ ns. array_message rows ns n) same))

-- the message of a buffer
pub buffer_stands : (header : List ℕ) (head : ContentHead) (body : List ℕ) (b : Buffer) → IsHeadOf header head → head.kind ≡ kinds.Buffer → b ≡ record { bytes = body; exponent = head.exponent } → HeadStandsFor header body (messages.Buffer b)
buffer_stands header head body b h kind e content size is =
    let c = buffer_from h.content (h.kind_is ∙ kind) in
    let exponent : c.0 ≡ head.exponent = ap exponent_of (sym c.1) ∙ h.exponent_is in
    let same : buffer_message b ≡ buffer_message (record { bytes = body; exponent = c.0 }) = ap buffer_message (e ∙ ap (λ n. record { bytes = body; exponent = n }) (sym exponent)) in
    by_content header head body (buffer_message b) h (subst (λ (x : Content). StandsFor x body (buffer_message b)) (sym c.1) same) content size is

-- the message of a type
pub type_stands : (header : List ℕ) (head : ContentHead) (body : List ℕ) (t : DType) → IsHeadOf header head → head.kind ≡ kinds.DType → IsTypeIn body (term_of t) → HeadStandsFor header body (messages.DType t)
type_stands header head body t h kind in_body content size is =
    let c : h.content ≡ type_content = type_from h.content (h.kind_is ∙ kind) in
    by_content header head body (type_message (term_of t)) h (subst (λ (x : Content). StandsFor x body (type_message (term_of t))) (sym c) (term_of t, in_body, refl)) content size is
