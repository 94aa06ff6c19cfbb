-- What the readers of messages do in one call.
use Rattle.std.specs.Prelude.{⊤, ◌≡◌, ◌⊎◌, Bool, true, false, ℕ, ◌+◌, ◌-◌, ◌<◌, ◌≤◌, List, [], length, Option, Some, None, Result, Ok, Err}
use Rattle.std.specs.Io.KnownBytes.{Consumes, IsAtEnd}
use Rattle.vortex_stream.specs.Counts.{raised_128, raised_by}
use Rattle.vortex_stream.specs.declared.counts.SourceCounts.{SourceCounts}
use Rattle.vortex_stream.specs.declared.kind.MessageKind.{MessageKind}
use Rattle.vortex_stream.specs.declared.error.IpcError.{IpcError}
use Rattle.vortex_stream.specs.declared.error.IpcError.TheVariants as error
use Rattle.vortex_ipc.specs.declared.message.DecoderMessage.{DecoderMessage}
use Rattle.vortex_ipc.specs.Message.{message_of}
use Rattle.vortex_ipc.specs.Decoding.{refused, found, Decodes, IsCut, IsLeast}

-- ---- over bytes in hand

-- the names of the encodings that the reader holds, the bytes that are left, and whether it is done
pub record BufReaderState : Type 0 where
  pub held : List (List ℕ)
  pub rest : List ℕ
  pub done : Bool

-- the reading of these bytes failed so
abbrev pub FailsOn : List (List ℕ) → Option MessageKind → List ℕ → IpcError → Type 0
FailsOn held wanted bytes error.UnexpectedEnd = IsCut held wanted bytes
FailsOn held wanted bytes error.OutOfMemory = ⊤
FailsOn held wanted bytes error.MalformedHeader =
    Decodes held wanted bytes (refused error.MalformedHeader)
FailsOn held wanted bytes (error.WrongKind kind) =
    Decodes held wanted bytes (refused (error.WrongKind kind))
FailsOn held wanted bytes error.MalformedDType =
    Decodes held wanted bytes (refused error.MalformedDType)
FailsOn held wanted bytes error.Failed = ⊥
FailsOn held wanted bytes error.UnknownEncoding =
    Decodes held wanted bytes (refused error.UnknownEncoding)
FailsOn held wanted bytes error.MalformedArray =
    Decodes held wanted bytes (refused error.MalformedArray)
FailsOn held wanted bytes error.ReadFault = ⊥
FailsOn held wanted bytes error.ReadLimit = ⊥
FailsOn held wanted bytes error.WriteFault = ⊥
FailsOn held wanted bytes error.TooLarge = ⊥

-- What one call answered. There is no message where the reader is done or no byte is left, and then
-- never one.
abbrev pub BufReads
    : BufReaderState → Option (Result DecoderMessage IpcError) → BufReaderState → Type 0
BufReads old None new =
    ((old.done ≡ true) ⊎ (length old.rest ≡ 0)) × (new.done ≡ true) × (new.held ≡ old.held)
BufReads old (Some (Ok message)) new =
    (old.done ≡ false) × (0 < length old.rest) × (new.done ≡ false)
    × Decodes old.held None old.rest (found (message_of message) new.rest)
    × (new.held ≡ old.held)
BufReads old (Some (Err e)) new =
    (old.done ≡ false) × (0 < length old.rest) × (new.done ≡ true)
    × FailsOn old.held None old.rest e × (new.held ≡ old.held)

-- ---- over a source

-- the names of the encodings that the reader holds, whether it is done, how many reads it made, how
-- many bytes it took, and how many reads it may make
pub record ReaderState : Type 0 where
  pub held : List (List ℕ)
  pub done : Bool
  pub reads : ℕ
  pub given : ℕ
  pub most : ℕ

-- a reader before its first read
abbrev pub started : List (List ℕ) → ℕ → ReaderState
started held most = record { held = held; done = false; reads = 0; given = 0; most = most }

-- whether a reader is done after an answer
abbrev pub is_done : {X E : Type 0} → Option (Result X E) → Bool
is_done None = true
is_done (Some (Ok x)) = false
is_done (Some (Err e)) = true

-- the state of a reader after a call that answered so and counts so by itself
abbrev pub after_call
    : {X E : Type 0} → ReaderState → SourceCounts → Option (Result X E) → ReaderState
after_call s call answer = record {
  held = s.held;
  done = is_done answer;
  reads = s.reads + call.reads;
  given = raised_128 s.given call.given;
  most = s.most;
}

-- no read of the call failed or told the end
abbrev pub AllGave : SourceCounts → Type 0
AllGave call = (call.ends ≡ 0) × (call.faults ≡ 0)

-- the last read of the call told the end
abbrev pub ToldEnd : SourceCounts → Option (List ℕ) → Type 0
ToldEnd call left = (call.ends ≡ 1) × (call.faults ≡ 0) × IsAtEnd left

-- A call on these bytes failed so: the end was told behind the first of them, a read failed, or as
-- many reads were made as may be, and more bytes are needed; memory ran out; or by the first flaw of
-- the message.
abbrev pub FailsIn
    : List (List ℕ) → Option MessageKind → ℕ → SourceCounts → List ℕ → Option (List ℕ) → IpcError
    → Type 0
FailsIn held wanted most call taken left error.UnexpectedEnd =
    ToldEnd call left × (0 < length taken) × IsCut held wanted taken
FailsIn held wanted most call taken left error.ReadFault =
    (call.ends ≡ 0) × (call.faults ≡ 1) × IsCut held wanted taken
FailsIn held wanted most call taken left error.ReadLimit =
    AllGave call × (call.reads ≡ most) × IsCut held wanted taken
FailsIn held wanted most call taken left error.OutOfMemory = AllGave call
FailsIn held wanted most call taken left error.MalformedHeader =
    AllGave call × Decodes held wanted taken (refused error.MalformedHeader)
FailsIn held wanted most call taken left (error.WrongKind kind) =
    AllGave call × Decodes held wanted taken (refused (error.WrongKind kind))
FailsIn held wanted most call taken left error.MalformedDType =
    AllGave call × Decodes held wanted taken (refused error.MalformedDType)
FailsIn held wanted most call taken left error.Failed = ⊥
FailsIn held wanted most call taken left error.UnknownEncoding =
    AllGave call × Decodes held wanted taken (refused error.UnknownEncoding)
FailsIn held wanted most call taken left error.MalformedArray =
    AllGave call × Decodes held wanted taken (refused error.MalformedArray)
FailsIn held wanted most call taken left error.WriteFault = ⊥
FailsIn held wanted most call taken left error.TooLarge = ⊥

-- What a call that took these bytes answered: none where the end was told before the first of them,
-- or the message that they are and nothing else.
abbrev pub AnswersIn
    : List (List ℕ) → Option MessageKind → ℕ → SourceCounts → List ℕ → Option (List ℕ)
    → Option (Result DecoderMessage IpcError) → Type 0
AnswersIn held wanted most call taken left None = ToldEnd call left × (taken ≡ [])
AnswersIn held wanted most call taken left (Some (Ok message)) =
    AllGave call × Decodes held wanted taken (found (message_of message) [])
AnswersIn held wanted most call taken left (Some (Err e)) =
    FailsIn held wanted most call taken left e

-- One call made so many reads at most, and no more than it was given bytes, an end or a fault. By
-- itself it counts so, was given these bytes, and answered so. It took none that its answer does not
-- need: each shorter front of them is cut.
pub record ReadsMessage (held : List (List ℕ)) (wanted : Option MessageKind) (most : ℕ)
    (before after : SourceCounts) (rest left : Option (List ℕ))
    (answer : Option (Result DecoderMessage IpcError)) : Type 0 where
  pub call : SourceCounts
  pub taken : List ℕ
  pub counted : after ≡ raised_by before call
  pub few : call.reads ≤ most
  pub each_gives : call.reads ≤ call.given + call.ends + call.faults
  pub given_is : length taken ≡ call.given
  pub consumed : Consumes rest left taken
  pub least : IsLeast held wanted taken
  pub answers : AnswersIn held wanted most call taken left answer

-- A reader that is done answers none and makes no read.
pub record StaysDone (old new : ReaderState) (before after : SourceCounts)
    (rest left : Option (List ℕ)) (answer : Option (Result DecoderMessage IpcError)) : Type 0 where
  pub done : old.done ≡ true
  pub none : answer ≡ None
  pub state : new ≡ old
  pub counts : after ≡ before
  pub kept : left ≡ rest

-- Another one makes as many reads at most as are left to it, and counts them. Where it made all that
-- it may, it took as many bytes.
pub record GoesOn (wanted : Option MessageKind) (old new : ReaderState) (before after : SourceCounts)
    (rest left : Option (List ℕ)) (answer : Option (Result DecoderMessage IpcError)) : Type 0 where
  pub going : old.done ≡ false
  pub message : ReadsMessage old.held wanted (old.most - old.reads) before after rest left answer
  pub state : new ≡ after_call old message.call answer
  pub within : new.reads ≤ new.most
  pub limit : answer ≡ Some (Err error.ReadLimit)
      → (new.reads ≡ new.most) × (new.most ≤ new.given)

-- what one call of a reader over a source did
abbrev pub SourceReads
    : Option MessageKind → ReaderState → ReaderState → SourceCounts → SourceCounts
    → Option (List ℕ) → Option (List ℕ) → Option (Result DecoderMessage IpcError) → Type 0
SourceReads wanted old new before after rest left answer =
    StaysDone old new before after rest left answer
    ⊎ GoesOn wanted old new before after rest left answer
