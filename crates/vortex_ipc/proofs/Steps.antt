-- What a step of a decoder makes of a call.
use Rattle.std.proofs.Common.{◌≡◌, inl, inr, ℕ, true, false, List, [], ◌++◌, Option, Result, Ok, Err, refl, sym, ap, subst}
use Rattle.std.specs.Prelude.{IfErr}
use Rattle.vortex_buffer.specs.Buffer.{Buffer}
use Rattle.vortex_ipc.proofs.GoneLemmas.{gone_late, gone_nothing, has_taken}
use Rattle.vortex_stream.specs.declared.kind.MessageKind.{MessageKind}
use Rattle.vortex_stream.specs.declared.error.IpcError.{IpcError}
use Rattle.vortex_stream.specs.declared.error.IpcError.TheVariants as error
use Rattle.vortex_ipc.specs.declared.decoder.Begun.{Begun}
use Rattle.vortex_ipc.specs.declared.decoder.Begun.TheVariants as begun
use Rattle.vortex_ipc.specs.declared.message.PollRead.{PollRead}
use Rattle.vortex_ipc.specs.declared.message.PollRead.TheVariants as poll
use Rattle.vortex_ipc.specs.Decoder.{DecoderState, FailsBy, HasFailed, ReadsNext}
use Rattle.vortex_ipc.specs.Queue.{HasLost}
use Rattle.vortex_ipc.specs.inner.Begun.{Answered, Gone, GoneEarly, NoHeaderBy, StopsBy, begun_bytes, has_failed}

-- what is begun, as a state
abbrev pub state_of : List (List ℕ) → Begun → DecoderState
state_of held b = record { held = held; begun = begun_bytes b; failed = has_failed b }

-- a step that answered
pub reads_next : (wanted : Option MessageKind) (old : DecoderState) (before : List ℕ) (b : Begun) (p : PollRead) (after : List ℕ) → old.failed ≡ false → Answered old.held wanted (old.begun ++ before) b p after → ReadsNext wanted old before (Ok p) (state_of old.held b) after
reads_next wanted old before b (poll.NeedMore size) after going h = (going, h.0, h.1, h.2, refl)
reads_next wanted old before b (poll.Some message) after going h = (going, h.0, ap (state_of old.held) h.1)

no_header_memory : error.MalformedHeader ≡ error.OutOfMemory → ⊥
no_header_memory e = cc

kind_memory : (k : Option MessageKind) → error.WrongKind k ≡ error.OutOfMemory → ⊥
kind_memory k e = cc

type_memory : error.MalformedDType ≡ error.OutOfMemory → ⊥
type_memory e = cc

encoding_memory : error.UnknownEncoding ≡ error.OutOfMemory → ⊥
encoding_memory e = cc

array_memory : error.MalformedArray ≡ error.OutOfMemory → ⊥
array_memory e = cc

-- a step that stopped
pub fails_by : (wanted : Option MessageKind) (old new : DecoderState) (before after : List ℕ) (e : IpcError) → old.failed ≡ false → HasFailed old new → StopsBy old.held wanted (old.begun ++ before) e → Gone old.held wanted old.begun before e after → FailsBy wanted old before e new after
fails_by wanted old new before after e going failed (inl memory) lost = subst (λ (x : IpcError). FailsBy wanted old before x new after) (sym memory) (going, failed, (lost.0, lost.1))
fails_by wanted old new before after error.MalformedHeader going failed (inr h) lost = (going, h, failed, has_taken wanted old before error.MalformedHeader after no_header_memory lost)
fails_by wanted old new before after (error.WrongKind kind) going failed (inr h) lost = (going, h, failed, has_taken wanted old before (error.WrongKind kind) after (kind_memory kind) lost)
fails_by wanted old new before after error.UnknownEncoding going failed (inr h) lost = (going, h, failed, has_taken wanted old before error.UnknownEncoding after encoding_memory lost)
fails_by wanted old new before after error.MalformedDType going failed (inr h) lost = (going, h, failed, has_taken wanted old before error.MalformedDType after type_memory lost)
fails_by wanted old new before after error.MalformedArray going failed (inr h) lost = (going, h, failed, has_taken wanted old before error.MalformedArray after array_memory lost)
fails_by wanted old new before after error.Failed going failed (inr h) lost = absurd h
fails_by wanted old new before after error.UnexpectedEnd going failed (inr h) lost = absurd h
fails_by wanted old new before after error.ReadFault going failed (inr h) lost = absurd h
fails_by wanted old new before after error.ReadLimit going failed (inr h) lost = absurd h
fails_by wanted old new before after error.WriteFault going failed (inr h) lost = absurd h
fails_by wanted old new before after error.TooLarge going failed (inr h) lost = absurd h
fails_by wanted old new before after error.OutOfMemory going failed (inr h) lost = absurd h

-- only a decoder that failed has failed
pub failed_state : (held : List (List ℕ)) (b : Begun) → b ≡ begun.Failed → state_of held b ≡ record { held = held; begun = []; failed = true }
failed_state held b e = ap (state_of held) e

-- ---- errors of steps

-- what holds of an error holds of what follows from it
pub if_err : {A : Type 0} (r : Result A IpcError) (P Q : IpcError → Type 0) → ((e : IpcError) → P e → Q e) → IfErr r P → IfErr r Q
if_err (Ok x) P Q f h = tt
if_err (Err e) P Q f h = f e h

-- a step on what is behind the length, where nothing was begun
pub early_nothing : {A : Type 0} (r : Result A IpcError) (b : Begun) (q prefix rest after : List ℕ) → b ≡ begun.Nothing → q ≡ prefix ++ rest
    → IfErr r (λ e. NoHeaderBy (prefix ++ rest) e × GoneEarly prefix rest e after) → IfErr r (λ e. NoHeaderBy (begun_bytes b ++ q) e × GoneEarly (begun_bytes b) q e after)
early_nothing r b q prefix rest after is parts h = if_err r (λ e. NoHeaderBy (prefix ++ rest) e × GoneEarly prefix rest e after) (λ e. NoHeaderBy (begun_bytes b ++ q) e × GoneEarly (begun_bytes b) q e after)
    (λ e k. (subst (λ (x : Begun). NoHeaderBy (begun_bytes x ++ q) e) (sym is) (subst (λ (l : List ℕ). NoHeaderBy l e) (sym parts) k.0), subst (λ (x : Begun). GoneEarly (begun_bytes x) q e after) (sym is) (gone_nothing q prefix rest e after parts k.1))) h

-- a step on what is behind the length, where that was begun
pub early_length : {A : Type 0} (r : Result A IpcError) (b : Begun) (q after : List ℕ) (prefix : Buffer) → b ≡ begun.Length prefix
    → IfErr r (λ e. NoHeaderBy (prefix.bytes ++ q) e × GoneEarly prefix.bytes q e after) → IfErr r (λ e. NoHeaderBy (begun_bytes b ++ q) e × GoneEarly (begun_bytes b) q e after)
early_length r b q after prefix is h = subst (λ (x : Begun). IfErr r (λ e. NoHeaderBy (begun_bytes x ++ q) e × GoneEarly (begun_bytes x) q e after)) (sym is) h

-- a step on what is behind the header
pub late : {A : Type 0} (held : List (List ℕ)) (wanted : Option MessageKind) (r : Result A IpcError) (begun q taken rest after : List ℕ) → begun ++ q ≡ taken ++ rest → HasLost q rest
    → IfErr r (λ e. StopsBy held wanted (taken ++ rest) e × Gone held wanted taken rest e after) → IfErr r (λ e. StopsBy held wanted (begun ++ q) e × Gone held wanted begun q e after)
late held wanted r begun q taken rest after parts lost h = if_err r (λ e. StopsBy held wanted (taken ++ rest) e × Gone held wanted taken rest e after) (λ e. StopsBy held wanted (begun ++ q) e × Gone held wanted begun q e after)
    (λ e k. (subst (λ (l : List ℕ). StopsBy held wanted l e) (sym parts) k.0, gone_late held wanted begun q taken rest e after parts lost k.1)) h
