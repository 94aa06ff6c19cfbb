-- Bytes come to one outcome, which stays what it is when more bytes follow.
use Rattle.std.proofs.Common.{◌≡◌, ◌⊎◌, inl, inr, ℕ, ◌<◌, ◌≤◌, Bool, true, false, cond, leb, List, [], ◌∷◌, ◌++◌, length, take, drop, Option, Some, None, refl, sym, ap, subst, ◌∙◌, arith, append_assoc}
use Rattle.std.proofs.Math.Seq.{take-append_seam, drop-append_seam}
use Rattle.std.proofs.lemmas.Bool.{le-leb, leb-false, leb-true, lt-leb}
use Rattle.std.proofs.lemmas.List.{append_cancel_left, length-append, length-take-le, take-append-drop, take-append-le}
use Rattle.vortex_terms.specs.Term.{Term}
use Rattle.vortex_schema.specs.TypeAt.{IsTypeIn}
use Rattle.vortex_schema.proofs.InPlace.{one_in}
use Rattle.vortex_flat.specs.Numbers.{little_endian}
use Rattle.vortex_body.specs.Node.{Node}
use Rattle.vortex_body.specs.Reading.{node_of}
use Rattle.vortex_stream.specs.Header.{Content, Header, array_content, buffer_content, type_content, header_of, kind_of}
use Rattle.vortex_stream.specs.Stream.{IsMessage}
use Rattle.vortex_stream.proofs.StreamLemmas.{message_append}
use Rattle.vortex_stream.specs.declared.kind.MessageKind.{MessageKind}
use Rattle.vortex_stream.specs.declared.error.IpcError.{IpcError}
use Rattle.vortex_stream.specs.declared.error.IpcError.TheVariants as error
use Rattle.vortex_ipc.specs.Message.{Message, StandsFor, array_message, buffer_message, type_message}
use Rattle.vortex_ipc.specs.Decoding.{IsCut, Outcome, more, refused, found, Decodes, BeginsWithLength, BeginsWithHeader, HasHeader, NeedsMore, IsAdmitted, IsFlawed, are_held, is_answered}
use Rattle.vortex_ipc.specs.Cutting.{behind, IsSettled, IsLast, DecodesAll}
use Rattle.vortex_ipc.proofs.Fronts.{begin_append, header_append, length_append, message_header, regroup, saying}

-- ---- stages

-- what is met in the end: a part of which more is needed, a flaw of the header, or a body
pub data Stage : Type 0 where
  needs : (size : ℕ) (there : List ℕ) → Stage
  refuses : (e : IpcError) → Stage
  whole : (content : Content) (body rest : List ℕ) → Stage

abbrev of_size : Content → ℕ → List ℕ → Stage
of_size c n rest = cond (leb n (length rest)) (whole c (take n rest) (drop n rest)) (needs n rest)

abbrev of_names : List (List ℕ) → Content → ℕ → List ℕ → Stage
of_names held c n rest = cond (are_held held c) (of_size c n rest) (refuses error.UnknownEncoding)

abbrev of_body : List (List ℕ) → Option MessageKind → Content → ℕ → List ℕ → Stage
of_body held w c n rest = cond (is_answered w (kind_of c)) (of_names held c n rest) (refuses (error.WrongKind (Some (kind_of c))))

abbrev of_header : List (List ℕ) → Option MessageKind → Option Header → List ℕ → Stage
of_header held w None rest = refuses error.MalformedHeader
of_header held w (Some h) rest = of_body held w h.content h.body_size rest

abbrev of_length : List (List ℕ) → Option MessageKind → ℕ → List ℕ → Stage
of_length held w size rest = cond (leb size (length rest)) (of_header held w (header_of (take size rest)) (drop size rest)) (needs size rest)

abbrev stage_of : List (List ℕ) → Option MessageKind → List ℕ → Stage
stage_of held w b = cond (leb 4 (length b)) (of_length held w (little_endian (take 4 b)) (drop 4 b)) (needs 4 b)

at_short : (held : List (List ℕ)) (w : Option MessageKind) (b : List ℕ) → length b < 4 → stage_of held w b ≡ needs 4 b
at_short held w b lt = ap (λ t. cond t (of_length held w (little_endian (take 4 b)) (drop 4 b)) (needs 4 b)) (lt-leb 4 (length b) lt)

front : (held : List (List ℕ)) (w : Option MessageKind) (prefix rest : List ℕ) → length prefix ≡ 4 → stage_of held w (prefix ++ rest) ≡ of_length held w (little_endian prefix) rest
front held w prefix rest len =
    let le : 4 ≤ length (prefix ++ rest) = omega (arith, len, length-append prefix rest) in
    let first : take 4 (prefix ++ rest) ≡ prefix = ap (λ n. take n (prefix ++ rest)) (sym len) ∙ take-append_seam prefix rest in
    let second : drop 4 (prefix ++ rest) ≡ rest = ap (λ n. drop n (prefix ++ rest)) (sym len) ∙ drop-append_seam prefix rest in
    ap (λ t. cond t (of_length held w (little_endian (take 4 (prefix ++ rest))) (drop 4 (prefix ++ rest))) (needs 4 (prefix ++ rest))) (le-leb 4 (length (prefix ++ rest)) le)
    ∙ ap (λ (l : List ℕ). of_length held w (little_endian l) (drop 4 (prefix ++ rest))) first
    ∙ ap (of_length held w (little_endian prefix)) second

at_length : (held : List (List ℕ)) (w : Option MessageKind) (b : List ℕ) (size : ℕ) (rest : List ℕ) → BeginsWithLength b size rest → stage_of held w b ≡ of_length held w size rest
at_length held w b size rest h = ap (stage_of held w) h.parts ∙ front held w h.prefix rest h.prefix_len ∙ ap (λ n. of_length held w n rest) h.size_is

at_cut : (held : List (List ℕ)) (w : Option MessageKind) (b : List ℕ) (size : ℕ) (rest : List ℕ) → BeginsWithLength b size rest → length rest < size → stage_of held w b ≡ needs size rest
at_cut held w b size rest h lt = at_length held w b size rest h ∙ ap (λ t. cond t (of_header held w (header_of (take size rest)) (drop size rest)) (needs size rest)) (lt-leb size (length rest) lt)

behind_header : (held : List (List ℕ)) (w : Option MessageKind) (header rest : List ℕ) → of_length held w (length header) (header ++ rest) ≡ of_header held w (header_of header) rest
behind_header held w header rest =
    let le : length header ≤ length (header ++ rest) = omega (arith, length-append header rest) in
    ap (λ t. cond t (of_header held w (header_of (take (length header) (header ++ rest))) (drop (length header) (header ++ rest))) (needs (length header) (header ++ rest))) (le-leb (length header) (length (header ++ rest)) le)
    ∙ ap (λ (l : List ℕ). of_header held w (header_of l) (drop (length header) (header ++ rest))) (take-append_seam header rest)
    ∙ ap (of_header held w (header_of header)) (drop-append_seam header rest)

at_header : (held : List (List ℕ)) (w : Option MessageKind) (b header rest : List ℕ) → BeginsWithHeader b header rest → stage_of held w b ≡ of_header held w (header_of header) rest
at_header held w b header rest h = at_length held w b (length header) (header ++ rest) h ∙ behind_header held w header rest

at_content : (held : List (List ℕ)) (w : Option MessageKind) (b : List ℕ) (c : Content) (n : ℕ) (rest : List ℕ) → HasHeader b c n rest → stage_of held w b ≡ of_body held w c n rest
at_content held w b c n rest h = at_header held w b h.header rest h.begins ∙ ap (λ o. of_header held w o rest) h.header_is

at_other : (held : List (List ℕ)) (w : Option MessageKind) (c : Content) (n : ℕ) (rest : List ℕ) → is_answered w (kind_of c) ≡ false → of_body held w c n rest ≡ refuses (error.WrongKind (Some (kind_of c)))
at_other held w c n rest isnt = ap (λ t. cond t (of_names held c n rest) (refuses (error.WrongKind (Some (kind_of c))))) isnt

at_answered : (held : List (List ℕ)) (w : Option MessageKind) (c : Content) (n : ℕ) (rest : List ℕ) → is_answered w (kind_of c) ≡ true → of_body held w c n rest ≡ of_names held c n rest
at_answered held w c n rest is = ap (λ t. cond t (of_names held c n rest) (refuses (error.WrongKind (Some (kind_of c))))) is

at_unknown : (held : List (List ℕ)) (w : Option MessageKind) (c : Content) (n : ℕ) (rest : List ℕ) → is_answered w (kind_of c) ≡ true → are_held held c ≡ false → of_body held w c n rest ≡ refuses error.UnknownEncoding
at_unknown held w c n rest is isnt = at_answered held w c n rest is ∙ ap (λ t. cond t (of_size c n rest) (refuses error.UnknownEncoding)) isnt

at_admitted : (held : List (List ℕ)) (w : Option MessageKind) (c : Content) (n : ℕ) (rest : List ℕ) → IsAdmitted held w c → of_body held w c n rest ≡ of_size c n rest
at_admitted held w c n rest is = at_answered held w c n rest is.0 ∙ ap (λ t. cond t (of_size c n rest) (refuses error.UnknownEncoding)) is.1

at_message : (held : List (List ℕ)) (w : Option MessageKind) (b : List ℕ) (c : Content) (body rest : List ℕ) → IsMessage b c body rest → IsAdmitted held w c → stage_of held w b ≡ whole c body rest
at_message held w b c body rest m is =
    let le : length body ≤ length (body ++ rest) = omega (arith, length-append body rest) in
    at_content held w b c (length body) (body ++ rest) (message_header b c body rest m)
    ∙ at_admitted held w c (length body) (body ++ rest) is
    ∙ ap (λ t. cond t (whole c (take (length body) (body ++ rest)) (drop (length body) (body ++ rest))) (needs (length body) (body ++ rest))) (le-leb (length body) (length (body ++ rest)) le)
    ∙ ap (λ (l : List ℕ). whole c l (drop (length body) (body ++ rest))) (take-append_seam body rest)
    ∙ ap (whole c body) (drop-append_seam body rest)

-- ---- one outcome

-- what an array comes to whose body has this node, or none
abbrev of_node : ℕ → List (List ℕ) → List ℕ → Option Node → Outcome
of_node rows names rest None = refused error.MalformedArray
of_node rows names rest (Some n) = found (array_message rows names n) rest

-- the outcome is that of the body
abbrev FitsBody : Content → List ℕ → List ℕ → Outcome → Type 0
FitsBody (array_content rows names) body rest o = o ≡ of_node rows names rest (node_of body)
FitsBody (buffer_content exponent) body rest o = o ≡ found (buffer_message (record { bytes = body; exponent = exponent })) rest
FitsBody type_content body rest o = ((t : Term) × IsTypeIn body t × (o ≡ found (type_message t) rest)) ⊎ ((o ≡ refused error.MalformedDType) × ((t : Term) → IsTypeIn body t → ⊥))

-- the outcome is that of the stage
abbrev Fits : Stage → Outcome → Type 0
Fits (needs size there) o = o ≡ more size there
Fits (refuses e) o = o ≡ refused e
Fits (whole c body rest) o = FitsBody c body rest o

decoded_more : (held : List (List ℕ)) (w : Option MessageKind) (b there : List ℕ) (size : ℕ) → NeedsMore held w b size there → stage_of held w b ≡ needs size there
decoded_more held w b there size (inl n) =
    let short : length b < 4 = omega (arith, ap length n.0, n.1, n.2) in
    at_short held w b short ∙ ap (λ k. needs k b) (sym n.1) ∙ ap (needs size) n.0
decoded_more held w b there size (inr (inl n)) = at_cut held w b size there n.0 n.1
decoded_more held w b there size (inr (inr n)) =
    at_content held w b n.0 size there n.1 ∙ at_admitted held w n.0 size there n.2 ∙ ap (λ t. cond t (whole n.0 (take size there) (drop size there)) (needs size there)) (lt-leb size (length there) n.3)

decoded_refused : (held : List (List ℕ)) (w : Option MessageKind) (b : List ℕ) (e : IpcError) → IsFlawed held w b e → Fits (stage_of held w b) (refused e)
decoded_refused held w b error.MalformedHeader h =
    subst (λ s. Fits s (refused error.MalformedHeader)) (sym (at_header held w b h.0 h.1 h.2 ∙ ap (λ o. of_header held w o h.1) h.3)) refl
decoded_refused held w b (error.WrongKind None) h = absurd h
decoded_refused held w b (error.WrongKind (Some kind)) h =
    let isnt : is_answered w (kind_of h.0) ≡ false = ap (is_answered w) h.4 ∙ h.5 in
    subst (λ s. Fits s (refused (error.WrongKind (Some kind)))) (sym (at_content held w b h.0 h.1 h.2 h.3 ∙ at_other held w h.0 h.1 h.2 isnt)) (ap (λ k. refused (error.WrongKind (Some k))) (sym h.4))
decoded_refused held w b error.UnknownEncoding h =
    subst (λ s. Fits s (refused error.UnknownEncoding)) (sym (at_content held w b h.0 h.1 h.2 h.3 ∙ at_unknown held w h.0 h.1 h.2 h.4 h.5)) refl
decoded_refused held w b error.MalformedDType h =
    subst (λ s. Fits s (refused error.MalformedDType)) (sym (at_message held w b type_content h.0 h.1 h.2 (h.3, refl))) (inr (refl, h.4))
decoded_refused held w b error.MalformedArray h =
    subst (λ s. Fits s (refused error.MalformedArray)) (sym (at_message held w b (array_content h.0 h.1) h.2 h.3 h.4 h.5)) (sym (ap (of_node h.0 h.1 h.3) h.6))
decoded_refused held w b error.Failed h = absurd h
decoded_refused held w b error.UnexpectedEnd h = absurd h
decoded_refused held w b error.ReadFault h = absurd h
decoded_refused held w b error.ReadLimit h = absurd h
decoded_refused held w b error.WriteFault h = absurd h
decoded_refused held w b error.TooLarge h = absurd h
decoded_refused held w b error.OutOfMemory h = absurd h

fits_body : (c : Content) (body rest : List ℕ) (m : Message) → StandsFor c body m → FitsBody c body rest (found m rest)
fits_body (array_content rows names) body rest m h = ap (λ x. found x rest) h.2 ∙ sym (ap (of_node rows names rest) h.1)
fits_body (buffer_content exponent) body rest m h = ap (λ x. found x rest) h
fits_body type_content body rest m h = inl (h.0, h.1, ap (λ x. found x rest) h.2)

decoded : (held : List (List ℕ)) (w : Option MessageKind) (b : List ℕ) (o : Outcome) → Decodes held w b o → Fits (stage_of held w b) o
decoded held w b (more size there) h = subst (λ s. Fits s (more size there)) (sym (decoded_more held w b there size h)) refl
decoded held w b (refused e) h = decoded_refused held w b e h
decoded held w b (found m rest) h = subst (λ s. Fits s (found m rest)) (sym (at_message held w b h.0 h.1 rest h.2 h.3)) (fits_body h.0 h.1 rest m h.4)

one_body : (c : Content) (body rest : List ℕ) (o p : Outcome) → FitsBody c body rest o → FitsBody c body rest p → o ≡ p
one_body (array_content rows names) body rest o p h k = h ∙ sym k
one_body (buffer_content exponent) body rest o p h k = h ∙ sym k
one_body type_content body rest o p (inl h) (inl k) = h.2 ∙ ap (λ t. found (type_message t) rest) (one_in h.0 k.0 body h.1 k.1) ∙ sym k.2
one_body type_content body rest o p (inl h) (inr k) = absurd (k.1 h.0 h.1)
one_body type_content body rest o p (inr h) (inl k) = absurd (h.1 k.0 k.1)
one_body type_content body rest o p (inr h) (inr k) = h.0 ∙ sym k.0

one_fits : (s : Stage) (o p : Outcome) → Fits s o → Fits s p → o ≡ p
one_fits (needs size there) o p h k = h ∙ sym k
one_fits (refuses e) o p h k = h ∙ sym k
one_fits (whole c body rest) o p h k = one_body c body rest o p h k

-- bytes come to one outcome
pub one_outcome : (held : List (List ℕ)) (w : Option MessageKind) (b : List ℕ) (o p : Outcome) → Decodes held w b o → Decodes held w b p → o ≡ p
one_outcome held w b o p h k = one_fits (stage_of held w b) o p (decoded held w b o h) (decoded held w b p k)

-- ---- more bytes behind

refused_append : (held : List (List ℕ)) (w : Option MessageKind) (b others : List ℕ) (e : IpcError) → IsFlawed held w b e → IsFlawed held w (b ++ others) e
refused_append held w b others error.MalformedHeader h = (h.0, h.1 ++ others, begin_append b h.0 h.1 others h.2, h.3)
refused_append held w b others (error.WrongKind None) h = absurd h
refused_append held w b others (error.WrongKind (Some kind)) h = (h.0, h.1, h.2 ++ others, header_append b h.0 h.1 h.2 others h.3, h.4, h.5)
refused_append held w b others error.UnknownEncoding h = (h.0, h.1, h.2 ++ others, header_append b h.0 h.1 h.2 others h.3, h.4, h.5)
refused_append held w b others error.MalformedDType h = (h.0, h.1 ++ others, message_append b type_content h.0 h.1 others h.2, h.3, h.4)
refused_append held w b others error.MalformedArray h = (h.0, h.1, h.2, h.3 ++ others, message_append b (array_content h.0 h.1) h.2 h.3 others h.4, h.5, h.6)
refused_append held w b others error.Failed h = absurd h
refused_append held w b others error.UnexpectedEnd h = absurd h
refused_append held w b others error.ReadFault h = absurd h
refused_append held w b others error.ReadLimit h = absurd h
refused_append held w b others error.WriteFault h = absurd h
refused_append held w b others error.TooLarge h = absurd h
refused_append held w b others error.OutOfMemory h = absurd h

-- a message or a refusal is the same when more bytes follow
pub settled : (held : List (List ℕ)) (w : Option MessageKind) (b others : List ℕ) (o : Outcome) → IsSettled o → Decodes held w b o → Decodes held w (b ++ others) (behind o others)
settled held w b others (more size there) s h = absurd s
settled held w b others (refused e) s h = refused_append held w b others e h
settled held w b others (found m rest) s h = (h.0, h.1, message_append b h.0 h.1 rest others h.2, h.3, h.4)

-- more bytes that leave a part cut
pub grows : (held : List (List ℕ)) (w : Option MessageKind) (b there others : List ℕ) (size : ℕ) → NeedsMore held w b size there → length (there ++ others) < size → NeedsMore held w (b ++ others) size (there ++ others)
grows held w b there others size (inl n) lt = inl (ap (λ (l : List ℕ). l ++ others) n.0, n.1, lt)
grows held w b there others size (inr (inl n)) lt = inr (inl (length_append b size there others n.0, lt))
grows held w b there others size (inr (inr n)) lt = inr (inr (n.0, header_append b n.0 size there others n.1, n.2, lt))

-- ---- some outcome

-- what is met stands there
abbrev IsStage : List (List ℕ) → Option MessageKind → List ℕ → Stage → Type 0
IsStage held w b (needs size there) = NeedsMore held w b size there
IsStage held w b (refuses e) = IsFlawed held w b e
IsStage held w b (whole c body rest) = IsMessage b c body rest × IsAdmitted held w c

by_test : (P : Stage → Type 0) (t : Bool) (x y : Stage) → (t ≡ true → P x) → (t ≡ false → P y) → P (cond t x y)
by_test P true x y f g = f refl
by_test P false x y f g = g refl

message_from : (b : List ℕ) (c : Content) (n : ℕ) (rest : List ℕ) → HasHeader b c n rest → n ≤ length rest → IsMessage b c (take n rest) (drop n rest)
message_from b c n rest h le = record {
  prefix = h.begins.prefix;
  header = h.header;
  parts = h.begins.parts ∙ ap (λ (l : List ℕ). h.begins.prefix ++ (h.header ++ l)) (sym (take-append-drop n rest)) ∙ sym (regroup h.begins.prefix h.header (take n rest) (drop n rest));
  prefix_len = h.begins.prefix_len;
  header_len = h.begins.size_is;
  header_is = h.header_is ∙ ap (λ k. Some (saying c k)) (sym (length-take-le n rest le));
}

stage_size : (held : List (List ℕ)) (w : Option MessageKind) (b : List ℕ) (c : Content) (n : ℕ) (rest : List ℕ) → HasHeader b c n rest → IsAdmitted held w c → IsStage held w b (of_size c n rest)
stage_size held w b c n rest h is = by_test (IsStage held w b) (leb n (length rest)) _ _
    (λ t. (message_from b c n rest h (leb-true n (length rest) t), is)) (λ t. inr (inr (c, h, is, leb-false n (length rest) t)))

stage_body : (held : List (List ℕ)) (w : Option MessageKind) (b : List ℕ) (c : Content) (n : ℕ) (rest : List ℕ) → HasHeader b c n rest → IsStage held w b (of_body held w c n rest)
stage_body held w b c n rest h = by_test (IsStage held w b) (is_answered w (kind_of c)) _ _
    (λ asked. by_test (IsStage held w b) (are_held held c) _ _ (λ known. stage_size held w b c n rest h (asked, known)) (λ unknown. (c, n, rest, h, asked, unknown)))
    (λ other. (c, n, rest, h, refl, other))

stage_header : (held : List (List ℕ)) (w : Option MessageKind) (b header rest : List ℕ) (o : Option Header) → BeginsWithHeader b header rest → header_of header ≡ o → IsStage held w b (of_header held w o rest)
stage_header held w b header rest None h e = (header, rest, h, e)
stage_header held w b header rest (Some x) h e = stage_body held w b x.content x.body_size rest (record { header = header; begins = h; header_is = e })

header_from : (b : List ℕ) (size : ℕ) (rest : List ℕ) → BeginsWithLength b size rest → size ≤ length rest → BeginsWithHeader b (take size rest) (drop size rest)
header_from b size rest h le = record {
  prefix = h.prefix;
  parts = h.parts ∙ ap (λ (l : List ℕ). h.prefix ++ l) (sym (take-append-drop size rest));
  prefix_len = h.prefix_len;
  size_is = h.size_is ∙ sym (length-take-le size rest le);
}

stage_length : (held : List (List ℕ)) (w : Option MessageKind) (b : List ℕ) (size : ℕ) (rest : List ℕ) → BeginsWithLength b size rest → IsStage held w b (of_length held w size rest)
stage_length held w b size rest h = by_test (IsStage held w b) (leb size (length rest)) _ _
    (λ t. stage_header held w b (take size rest) (drop size rest) (header_of (take size rest)) (header_from b size rest h (leb-true size (length rest) t)) refl)
    (λ t. inr (inl (h, leb-false size (length rest) t)))

at_stage : (held : List (List ℕ)) (w : Option MessageKind) (b : List ℕ) → IsStage held w b (stage_of held w b)
at_stage held w b = by_test (IsStage held w b) (leb 4 (length b)) _ _
    (λ t. stage_length held w b (little_endian (take 4 b)) (drop 4 b) (record { prefix = take 4 b; parts = sym (take-append-drop 4 b); prefix_len = length-take-le 4 b (leb-true 4 (length b) t); size_is = refl }))
    (λ t. inl (refl, refl, leb-false 4 (length b) t))

array_outcome : (held : List (List ℕ)) (w : Option MessageKind) (b : List ℕ) (rows : ℕ) (names : List (List ℕ)) (body rest : List ℕ) (o : Option Node) → node_of body ≡ o → IsMessage b (array_content rows names) body rest → IsAdmitted held w (array_content rows names) → ((a : Outcome) → Decodes held w b a → ⊥) → ⊥
array_outcome held w b rows names body rest None e m is none =
    none (refused error.MalformedArray) (rows, names, body, rest, m, is, e)
array_outcome held w b rows names body rest (Some n) e m is none =
    none (found (array_message rows names n) rest) (array_content rows names, body, m, is, (n, e, refl))

body_outcome : (held : List (List ℕ)) (w : Option MessageKind) (b : List ℕ) (c : Content) (body rest : List ℕ) → IsMessage b c body rest → IsAdmitted held w c → ((a : Outcome) → Decodes held w b a → ⊥) → ⊥
body_outcome held w b (array_content rows names) body rest m is none = array_outcome held w b rows names body rest (node_of body) refl m is none
body_outcome held w b (buffer_content exponent) body rest m is none =
    none (found (buffer_message (record { bytes = body; exponent = exponent })) rest) (buffer_content exponent, body, m, is, refl)
body_outcome held w b type_content body rest m is none =
    none (refused error.MalformedDType) (body, rest, m, is.0, λ t h. none (found (type_message t) rest) (type_content, body, m, is, (t, h, refl)))

stage_outcome : (held : List (List ℕ)) (w : Option MessageKind) (b : List ℕ) (s : Stage) → IsStage held w b s → ((a : Outcome) → Decodes held w b a → ⊥) → ⊥
stage_outcome held w b (needs size there) h none = none (more size there) h
stage_outcome held w b (refuses e) h none = none (refused e) h
stage_outcome held w b (whole c body rest) h none = body_outcome held w b c body rest h.0 h.1 none

-- there is no list of bytes that comes to nothing
pub some_outcome : (held : List (List ℕ)) (w : Option MessageKind) (b : List ℕ) → ((a : Outcome) → Decodes held w b a → ⊥) → ⊥
some_outcome held w b none = stage_outcome held w b (stage_of held w b) (at_stage held w b) none

-- ---- every prefix of what is cut is cut

stage_cut : (held : List (List ℕ)) (w : Option MessageKind) (front back there : List ℕ) (size : ℕ) (s : Stage) → IsStage held w front s → NeedsMore held w (front ++ back) size there → IsCut held w front
stage_cut held w front back there size (needs n t) h k = (n, t, h)
stage_cut held w front back there size (refuses e) h k = absurd (not_more (one_outcome held w (front ++ back) (more size there) (refused e) k (refused_append held w front back e h)))
  where
    not_more : more size there ≡ refused e → ⊥
    not_more x = cc
stage_cut held w front back there size (whole c body rest) h k = absurd (not_needs (sym (decoded_more held w (front ++ back) there size k) ∙ at_message held w (front ++ back) c body (rest ++ back) (message_append front c body rest back h.0) h.1))
  where
    not_needs : needs size there ≡ whole c body (rest ++ back) → ⊥
    not_needs x = cc

pub prefix_cut : (held : List (List ℕ)) (w : Option MessageKind) (bytes front back there : List ℕ) (size : ℕ) → NeedsMore held w bytes size there → bytes ≡ front ++ back → IsCut held w front
prefix_cut held w bytes front back there size n e = stage_cut held w front back there size (stage_of held w front) (at_stage held w front) (subst (λ (l : List ℕ). NeedsMore held w l size there) e n)

-- the shorter of two fronts is a front of the other
shorter : (a b x y : List ℕ) → a ++ x ≡ b ++ y → length a ≤ length b → b ≡ a ++ drop (length a) b
shorter a b x y e le =
    let same : a ≡ take (length a) b = sym (take-append_seam a x) ∙ ap (take (length a)) e ∙ take-append-le (length a) b y le in
    sym (take-append-drop (length a) b) ∙ ap (λ (l : List ℕ). l ++ drop (length a) b) (sym same)

-- so is each proper prefix of it with no more behind than was missing
pub least : (held : List (List ℕ)) (w : Option MessageKind) (bytes there piece front back : List ℕ) (size : ℕ) → NeedsMore held w bytes size there → length (there ++ piece) ≤ size → bytes ++ piece ≡ front ++ back → 0 < length back → IsCut held w front
least held w bytes there piece front back size n le e some = by_length (leb (length front) (length bytes)) refl
  where
    by_length : (t : Bool) → leb (length front) (length bytes) ≡ t → IsCut held w front
    by_length true t = prefix_cut held w bytes front (drop (length front) bytes) there size n (shorter front bytes back piece (sym e) (leb-true _ _ t))
    by_length false t =
        let lt : length bytes < length front = leb-false _ _ t in
        let more_is : front ≡ bytes ++ drop (length bytes) front = shorter bytes front piece back e (omega (arith, lt)) in
        let rest : piece ≡ drop (length bytes) front ++ back = append_cancel_left bytes piece (drop (length bytes) front ++ back) (e ∙ ap (λ (l : List ℕ). l ++ back) more_is ∙ append_assoc bytes (drop (length bytes) front) back) in
        let len = ap length rest ∙ length-append (drop (length bytes) front) back in
        let short : length (there ++ drop (length bytes) front) < size = omega (arith, le, some, len, length-append there piece, length-append there (drop (length bytes) front)) in
        subst (IsCut held w) (sym more_is) (size, there ++ drop (length bytes) front, grows held w bytes there (drop (length bytes) front) size n short)

-- ---- all messages

found_same : (m n : Message) (rest left : List ℕ) → found m rest ≡ found n left → (m ≡ n) × (rest ≡ left)
found_same m n rest left e = (ap (message_in m) e, ap (rest_in rest) e)
  where
    message_in : Message → Outcome → Message
    message_in m (more size there) = m
    message_in m (refused e) = m
    message_in m (found n rest) = n

    rest_in : List ℕ → Outcome → List ℕ
    rest_in l (more size there) = l
    rest_in l (refused e) = l
    rest_in l (found n rest) = rest

-- what bytes come to at last is one thing, and so are the messages before it
pub one_reading : (held : List (List ℕ)) (b : List ℕ) (ms ns : List Message) (o p : Outcome) → IsLast o → IsLast p → DecodesAll held b ms o → DecodesAll held b ns p → (ms ≡ ns) × (o ≡ p)
one_reading held b [] [] o p k l h j = (refl, one_outcome held None b o p h j)
one_reading held b [] (n ∷ ns) o p k l h j = absurd (not_last o n j.0 k (one_outcome held None b o (found n j.0) h j.1))
  where
    not_last : (o : Outcome) (n : Message) (rest : List ℕ) → IsLast o → o ≡ found n rest → ⊥
    not_last o n rest k e = subst IsLast e k
one_reading held b (m ∷ ms) [] o p k l h j = absurd (not_last p m h.0 l (one_outcome held None b p (found m h.0) j h.1))
  where
    not_last : (o : Outcome) (n : Message) (rest : List ℕ) → IsLast o → o ≡ found n rest → ⊥
    not_last o n rest k e = subst IsLast e k
one_reading held b (m ∷ ms) (n ∷ ns) o p k l h j =
    let same = found_same m n h.0 j.0 (one_outcome held None b (found m h.0) (found n j.0) h.1 j.1) in
    let others = one_reading held j.0 ms ns o p k l (subst (λ (x : List ℕ). DecodesAll held x ms o) same.1 h.2) j.2 in
    (ap (λ x. x ∷ ms) same.0 ∙ ap (λ xs. n ∷ xs) others.0, others.1)
