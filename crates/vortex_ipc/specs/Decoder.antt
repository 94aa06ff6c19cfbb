-- What a decoder does in one call.
use Rattle.std.specs.Prelude.{◌≡◌, Bool, true, false, ℕ, List, [], ◌++◌, Option, Result, Ok, Err}
use Rattle.vortex_stream.specs.declared.kind.MessageKind.{MessageKind}
use Rattle.vortex_stream.specs.declared.error.IpcError.{IpcError}
use Rattle.vortex_stream.specs.declared.error.IpcError.TheVariants as error
use Rattle.vortex_ipc.specs.declared.message.PollRead.{PollRead}
use Rattle.vortex_ipc.specs.declared.message.PollRead.TheVariants as poll
use Rattle.vortex_ipc.specs.Message.{message_of}
use Rattle.vortex_ipc.specs.Decoding.{more, refused, found, Decodes, IsLeast}
use Rattle.vortex_ipc.specs.Queue.{HasLost}

-- the names of the encodings that it holds, the bytes that it has taken of its present message, and
-- whether an earlier call failed
pub record DecoderState : Type 0 where
  pub held : List (List ℕ)
  pub begun : List ℕ
  pub failed : Bool

-- between two messages
abbrev pub fresh : List (List ℕ) → DecoderState
fresh held = record { held = held; begun = []; failed = false }

-- it has failed, and holds what it held
abbrev pub HasFailed : DecoderState → DecoderState → Type 0
HasFailed old new = (new.failed ≡ true) × (new.held ≡ old.held)

-- these bytes are gone, and with what was begun no more than the part that the last of them ends
abbrev pub HasTaken : Option MessageKind → DecoderState → List ℕ → List ℕ → Type 0
HasTaken wanted old before after =
    (gone : List ℕ) × (before ≡ gone ++ after) × IsLeast old.held wanted (old.begun ++ gone)

-- It was asked for a kind or for any with these bytes before it, and refused them so. It took no more
-- than the part at which it failed.
abbrev pub Refuses
    : Option MessageKind → DecoderState → List ℕ → IpcError → DecoderState → List ℕ → Type 0
Refuses wanted old before e new after =
    (old.failed ≡ false) × Decodes old.held wanted (old.begun ++ before) (refused e)
    × HasFailed old new × HasTaken wanted old before after

-- It failed so: as an earlier call did, which leaves all as it was; for lack of memory; or by the
-- first flaw of the message.
abbrev pub FailsBy
    : Option MessageKind → DecoderState → List ℕ → IpcError → DecoderState → List ℕ → Type 0
FailsBy wanted old before error.Failed new after =
    (old.failed ≡ true) × (new ≡ old) × (after ≡ before)
FailsBy wanted old before error.OutOfMemory new after =
    (old.failed ≡ false) × HasFailed old new × HasLost before after
FailsBy wanted old before error.MalformedHeader new after =
    Refuses wanted old before error.MalformedHeader new after
FailsBy wanted old before (error.WrongKind kind) new after =
    Refuses wanted old before (error.WrongKind kind) new after
FailsBy wanted old before error.UnknownEncoding new after =
    Refuses wanted old before error.UnknownEncoding new after
FailsBy wanted old before error.MalformedDType new after =
    Refuses wanted old before error.MalformedDType new after
FailsBy wanted old before error.MalformedArray new after =
    Refuses wanted old before error.MalformedArray new after
FailsBy wanted old before error.UnexpectedEnd new after = ⊥
FailsBy wanted old before error.ReadFault new after = ⊥
FailsBy wanted old before error.ReadLimit new after = ⊥
FailsBy wanted old before error.WriteFault new after = ⊥
FailsBy wanted old before error.TooLarge new after = ⊥

-- What one call answered, and what it left of its state and of the bytes before it. Where more is
-- needed, what is left is what there is of the present part, and with what was taken before it all
-- is as it was. A message is followed by what is left.
abbrev pub ReadsNext
    : Option MessageKind → DecoderState → List ℕ → Result PollRead IpcError → DecoderState → List ℕ
    → Type 0
ReadsNext wanted old before (Ok (poll.NeedMore size)) new after =
    (old.failed ≡ false) × Decodes old.held wanted (old.begun ++ before) (more size after)
    × (new.failed ≡ false) × (new.begun ++ after ≡ old.begun ++ before) × (new.held ≡ old.held)
ReadsNext wanted old before (Ok (poll.Some message)) new after =
    (old.failed ≡ false)
    × Decodes old.held wanted (old.begun ++ before) (found (message_of message) after)
    × (new ≡ fresh old.held)
ReadsNext wanted old before (Err e) new after = FailsBy wanted old before e new after
