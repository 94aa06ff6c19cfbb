-- What is gone after a step that stopped.
use Rattle.std.proofs.Common.{◌≡◌, ◌⊎◌, inl, inr, ℕ, ◌<◌, true, List, [], ◌∷◌, ◌++◌, length, Option, refl, sym, ap, subst, ◌∙◌, arith, append_assoc, append-nil}
use Rattle.std.proofs.lemmas.List.{append_cancel_right, length-append}
use Rattle.vortex_flat.specs.Numbers.{little_endian}
use Rattle.vortex_stream.specs.declared.kind.MessageKind.{MessageKind}
use Rattle.vortex_stream.specs.declared.error.IpcError.{IpcError}
use Rattle.vortex_stream.specs.declared.error.IpcError.TheVariants as error
use Rattle.vortex_ipc.specs.declared.decoder.TakenHeader.{TakenHeader}
use Rattle.vortex_ipc.specs.Decoding.{IsLeast, NeedsMore, is_answered}
use Rattle.vortex_ipc.specs.Decoder.{DecoderState, HasTaken}
use Rattle.vortex_ipc.specs.Queue.{HasLost}
use Rattle.vortex_ipc.specs.inner.Begun.{Gone, GoneEarly, IsTaken, taken_bytes}
use Rattle.vortex_ipc.proofs.Outcomes.{least}
use Rattle.vortex_ipc.proofs.TakenLemmas.{cut_body, cut_header}

-- a part that is not empty, behind what needs all of it
part_least : (held : List (List ℕ)) (w : Option MessageKind) (bytes part : List ℕ) → NeedsMore held w bytes (length part) [] → IsLeast held w (bytes ++ part)
part_least held w bytes part n front back e some = least held w bytes [] part front back (length part) n (omega arith) e some

prefix_least : (held : List (List ℕ)) (w : Option MessageKind) (prefix : List ℕ) → length prefix ≡ 4 → IsLeast held w prefix
prefix_least held w prefix len front back e some =
    (4, front, inl (refl, refl, omega (arith, len, some, ap length e ∙ length-append front back)))

-- of an empty part or of another
by_part : (P : List ℕ → Type 0) (part : List ℕ) → P [] → (0 < length part → P part) → P part
by_part P [] none some = none
by_part P (x ∷ xs) none some = some (omega arith)

header_least : (held : List (List ℕ)) (w : Option MessageKind) (prefix header : List ℕ) → length prefix ≡ 4 → length header ≡ little_endian prefix → IsLeast held w (prefix ++ header)
header_least held w prefix header len size = by_part (λ (h : List ℕ). IsLeast held w (prefix ++ h)) header
    (subst (IsLeast held w) (sym (append-nil prefix)) (prefix_least held w prefix len))
    (λ some. part_least held w prefix header (subst (λ (l : List ℕ). NeedsMore held w l (length header) []) (append-nil prefix) (cut_header held w prefix [] (length header) len size (subst (λ n. 0 < n) size some))))

-- the header is gone
pub gone_header : (prefix q header rest : List ℕ) (e : IpcError) → length prefix ≡ 4 → q ≡ header ++ rest → length header ≡ little_endian prefix → GoneEarly prefix q e rest
gone_header prefix q header rest e len parts size = (header, parts, inr (λ held w. header_least held w prefix header len size))

-- memory ran out
pub early_memory : (begun q : List ℕ) (e : IpcError) (rest : List ℕ) → e ≡ error.OutOfMemory → HasLost q rest → GoneEarly begun q e rest
early_memory begun q e rest memory lost = (lost.0, lost.1, inl memory)

pub gone_memory : (held : List (List ℕ)) (w : Option MessageKind) (begun q : List ℕ) (e : IpcError) (rest : List ℕ) → e ≡ error.OutOfMemory → HasLost q rest → Gone held w begun q e rest
gone_memory held w begun q e rest memory lost = (lost.0, lost.1, inl memory)

-- whatever kind was asked for
pub gone_early : (held : List (List ℕ)) (w : Option MessageKind) (begun q : List ℕ) (e : IpcError) (rest : List ℕ) → GoneEarly begun q e rest → Gone held w begun q e rest
gone_early held w begun q e rest g = (g.0, g.1, for_kind g.2)
  where
    for_kind : (e ≡ error.OutOfMemory) ⊎ ((held : List (List ℕ)) (wanted : Option MessageKind) → IsLeast held wanted (begun ++ g.0)) → (e ≡ error.OutOfMemory) ⊎ IsLeast held w (begun ++ g.0)
    for_kind (inl memory) = inl memory
    for_kind (inr all) = inr (all held w)

taken_least : (held : List (List ℕ)) (w : Option MessageKind) (t : TakenHeader) → IsTaken held t → IsLeast held w (taken_bytes t)
taken_least held w t i = header_least held w t.prefix.bytes t.header.bytes i.prefix_len (sym i.size_is)

-- nothing more is gone
pub gone_none : (held : List (List ℕ)) (w : Option MessageKind) (t : TakenHeader) (q : List ℕ) (e : IpcError) → IsTaken held t → Gone held w (taken_bytes t) q e q
gone_none held w t q e i = ([], refl, inr (subst (IsLeast held w) (sym (append-nil (taken_bytes t))) (taken_least held w t i)))

-- the body is gone
pub gone_body : (held : List (List ℕ)) (w : Option MessageKind) (t : TakenHeader) (q body rest : List ℕ) (e : IpcError) → IsTaken held t → is_answered w t.head.content.kind ≡ true → t.head.content.held ≡ true → q ≡ body ++ rest → length body ≡ t.head.body_size → Gone held w (taken_bytes t) q e rest
gone_body held w t q body rest e i asked known parts len = (
  body,
  parts,
  inr (by_part (λ (b : List ℕ). IsLeast held w (taken_bytes t ++ b)) body
      (subst (IsLeast held w) (sym (append-nil (taken_bytes t))) (taken_least held w t i))
      (λ some. part_least held w (taken_bytes t) body (subst (λ (l : List ℕ). NeedsMore held w l (length body) []) (append-nil (taken_bytes t)) (cut_body held w t [] (length body) i asked known len (subst (λ n. 0 < n) len some))))),
)

-- ---- steps one after another

-- what is behind the length is gone, and the length
pub gone_nothing : (q prefix rest : List ℕ) (e : IpcError) (after : List ℕ) → q ≡ prefix ++ rest → GoneEarly prefix rest e after → GoneEarly [] q e after
gone_nothing q prefix rest e after parts g = (prefix ++ g.0, parts ∙ ap (λ (l : List ℕ). prefix ++ l) g.1 ∙ sym (append_assoc prefix g.0 after), g.2)

-- what is behind the header is gone, and what was taken before it
pub gone_late : (held : List (List ℕ)) (w : Option MessageKind) (begun q taken rest : List ℕ) (e : IpcError) (after : List ℕ) → begun ++ q ≡ taken ++ rest → HasLost q rest → Gone held w taken rest e after → Gone held w begun q e after
gone_late held w begun q taken rest e after parts lost g =
    let own : begun ++ lost.0 ≡ taken = append_cancel_right (begun ++ lost.0) taken rest (append_assoc begun lost.0 rest ∙ ap (λ (l : List ℕ). begun ++ l) (sym lost.1) ∙ parts) in
    let all : taken ++ g.0 ≡ begun ++ (lost.0 ++ g.0) = ap (λ (l : List ℕ). l ++ g.0) (sym own) ∙ append_assoc begun lost.0 g.0 in
    (lost.0 ++ g.0, lost.1 ∙ ap (λ (l : List ℕ). lost.0 ++ l) g.1 ∙ sym (append_assoc lost.0 g.0 after), subst (λ (l : List ℕ). (e ≡ error.OutOfMemory) ⊎ IsLeast held w l) all g.2)

-- a refusal took no more than its part
pub has_taken : (w : Option MessageKind) (old : DecoderState) (q : List ℕ) (e : IpcError) (after : List ℕ) → (e ≡ error.OutOfMemory → ⊥) → Gone old.held w old.begun q e after → HasTaken w old q after
has_taken w old q e after other g = (g.0, g.1, not_memory g.2)
  where
    not_memory : (e ≡ error.OutOfMemory) ⊎ IsLeast old.held w (old.begun ++ g.0) → IsLeast old.held w (old.begun ++ g.0)
    not_memory (inl memory) = absurd (other memory)
    not_memory (inr l) = l
