-- Runs of a decoder over a queue that is pushed to in pieces.
use Rattle.std.specs.Prelude.{⊤, ℕ, List, [], ◌∷◌, ◌++◌, None, Result, Ok, Err}
use Rattle.vortex_stream.specs.declared.error.IpcError.{IpcError}
use Rattle.vortex_stream.specs.declared.error.IpcError.TheVariants as error
use Rattle.vortex_ipc.specs.declared.message.DecoderMessage.{DecoderMessage}
use Rattle.vortex_ipc.specs.declared.message.PollRead.{PollRead}
use Rattle.vortex_ipc.specs.declared.message.PollRead.TheVariants as poll
use Rattle.vortex_ipc.specs.Message.{Message, message_of}
use Rattle.vortex_ipc.specs.Decoder.{DecoderState, ReadsNext}

-- a piece was pushed; a call needed more bytes; or it read a message
pub data Event : Type 0 where
  pushed : (piece : List ℕ) → Event
  waited : (size : ℕ) → Event
  read : (message : DecoderMessage) → Event

-- all the bytes that were pushed
abbrev pub pushed_bytes : List Event → List ℕ
pushed_bytes [] = []
pushed_bytes (pushed piece ∷ events) = piece ++ pushed_bytes events
pushed_bytes (waited size ∷ events) = pushed_bytes events
pushed_bytes (read message ∷ events) = pushed_bytes events

-- all the messages that were read
abbrev pub read_messages : List Event → List Message
read_messages [] = []
read_messages (pushed piece ∷ events) = read_messages events
read_messages (waited size ∷ events) = read_messages events
read_messages (read message ∷ events) = message_of message ∷ read_messages events

-- from this state, with these bytes in the queue, such a run ended in a call that answered so
abbrev pub Runs : DecoderState → List ℕ → List Event → Result PollRead IpcError → Type 0
Runs state queue [] last =
    (new : DecoderState) × (left : List ℕ) × ReadsNext None state queue last new left
Runs state queue (pushed piece ∷ events) last = Runs state (queue ++ piece) events last
Runs state queue (waited size ∷ events) last =
    (new : DecoderState) × (left : List ℕ) × ReadsNext None state queue (Ok (poll.NeedMore size)) new left
    × Runs new left events last
Runs state queue (read message ∷ events) last =
    (new : DecoderState) × (left : List ℕ) × ReadsNext None state queue (Ok (poll.Some message)) new left
    × Runs new left events last

-- the answer is no message, and not that memory ran out
abbrev pub IsFinal : Result PollRead IpcError → Type 0
IsFinal (Ok (poll.Some message)) = ⊥
IsFinal (Ok (poll.NeedMore size)) = ⊤
IsFinal (Err error.OutOfMemory) = ⊥
IsFinal (Err e) = ⊤
