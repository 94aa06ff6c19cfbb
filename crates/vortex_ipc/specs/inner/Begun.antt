-- What a decoder keeps of its present message, and what its steps answer.
use Rattle.std.specs.Prelude.{⊤, ◌≡◌, ◌⊎◌, Bool, true, false, ℕ, ◌<◌, List, [], ◌++◌, length, Option, Some, None}
use Rattle.std.specs.Option.{option_map}
use Rattle.vortex_terms.specs.Term.{Term}
use Rattle.vortex_flat.specs.Numbers.{little_endian}
use Rattle.vortex_schema.specs.TypeAt.{IsTypeIn}
use Rattle.vortex_body.specs.Reading.{node_of}
use Rattle.vortex_stream.specs.Header.{Content, header_of}
use Rattle.vortex_stream.specs.declared.kind.MessageKind.{MessageKind}
use Rattle.vortex_stream.specs.declared.kind.MessageKind.TheVariants as kinds
use Rattle.vortex_stream.specs.declared.error.IpcError.{IpcError}
use Rattle.vortex_stream.specs.declared.error.IpcError.TheVariants as error
use Rattle.vortex_ipc.specs.declared.decoder.Begun.{Begun}
use Rattle.vortex_ipc.specs.declared.decoder.Begun.TheVariants as begun
use Rattle.vortex_ipc.specs.declared.decoder.TakenHeader.{TakenHeader}
use Rattle.vortex_ipc.specs.declared.header.ContentHead.{ContentHead}
use Rattle.vortex_ipc.specs.declared.message.DecoderMessage.{DecoderMessage}
use Rattle.vortex_ipc.specs.declared.message.PollRead.{PollRead}
use Rattle.vortex_ipc.specs.declared.message.PollRead.TheVariants as poll
use Rattle.vortex_ipc.specs.Message.{StandsFor, message_of}
use Rattle.vortex_ipc.specs.Decoding.{HasNoHeader, HasMessage, IsFlawed, IsLeast, NeedsMore}
use Rattle.vortex_ipc.specs.inner.Heads.{head_of}

-- the bytes of a header and of the length before it
abbrev pub taken_bytes : TakenHeader → List ℕ
taken_bytes t = t.prefix.bytes ++ t.header.bytes

-- the bytes that were taken
abbrev pub begun_bytes : Begun → List ℕ
begun_bytes begun.Nothing = []
begun_bytes (begun.Length prefix) = prefix.bytes
begun_bytes (begun.Header t) = taken_bytes t
begun_bytes begun.Failed = []

-- whether an earlier call failed
abbrev pub has_failed : Begun → Bool
has_failed begun.Nothing = false
has_failed (begun.Length prefix) = false
has_failed (begun.Header t) = false
has_failed begun.Failed = true

-- the length tells the header, and the header says what is kept of it
pub record IsTaken (held : List (List ℕ)) (t : TakenHeader) : Type 0 where
  pub prefix_len : length t.prefix.bytes ≡ 4
  pub size_is : little_endian t.prefix.bytes ≡ length t.header.bytes
  pub head_is : option_map (head_of held) (header_of t.header.bytes) ≡ Some t.head

-- what was taken is the front of a message
abbrev pub IsBegun : List (List ℕ) → Begun → Type 0
IsBegun held begun.Nothing = ⊤
IsBegun held (begun.Length prefix) = length prefix.bytes ≡ 4
IsBegun held (begun.Header t) = IsTaken held t
IsBegun held begun.Failed = ⊤

-- no more of the length and the header stands there whole
abbrev pub IsFar : Begun → List ℕ → Type 0
IsFar begun.Nothing rest = length rest < 4
IsFar (begun.Length prefix) rest = length rest < little_endian prefix.bytes
IsFar (begun.Header t) rest = ⊤
IsFar begun.Failed rest = ⊥

-- a step on these bytes left this begun and the rest, and answered so
abbrev pub Answered
    : List (List ℕ) → Option MessageKind → List ℕ → Begun → PollRead → List ℕ → Type 0
Answered held wanted bytes b (poll.NeedMore size) rest =
    NeedsMore held wanted bytes size rest × (has_failed b ≡ false) × (begun_bytes b ++ rest ≡ bytes)
Answered held wanted bytes b (poll.Some message) rest =
    HasMessage held wanted bytes (message_of message) rest × (b ≡ begun.Nothing)

-- a step on these bytes stopped by lack of memory, or by a flaw
abbrev pub StopsBy : List (List ℕ) → Option MessageKind → List ℕ → IpcError → Type 0
StopsBy held wanted bytes e = (e ≡ error.OutOfMemory) ⊎ IsFlawed held wanted bytes e

-- by lack of memory, or since no header stands there
abbrev pub NoHeaderBy : List ℕ → IpcError → Type 0
NoHeaderBy bytes e = (e ≡ error.OutOfMemory) ⊎ ((e ≡ error.MalformedHeader) × HasNoHeader bytes)

-- since no type stands in the body
abbrev pub NoTypeBy : ContentHead → List ℕ → IpcError → Type 0
NoTypeBy head body e =
    (e ≡ error.MalformedDType) × (head.kind ≡ kinds.DType) × ((t : Term) → IsTypeIn body t → ⊥)

-- since no node is found in the body
abbrev pub NoNodeBy : ContentHead → List ℕ → IpcError → Type 0
NoNodeBy head body e =
    (e ≡ error.MalformedArray) × (head.kind ≡ kinds.Array) × (node_of body ≡ None)

-- by lack of memory, or since the body stands for nothing
abbrev pub NoBodyBy : ContentHead → List ℕ → IpcError → Type 0
NoBodyBy head body e = (e ≡ error.OutOfMemory) ⊎ NoTypeBy head body e ⊎ NoNodeBy head body e

-- the body stands for the message under each content that the header tells
abbrev pub HeadStandsFor : List ℕ → List ℕ → DecoderMessage → Type 0
HeadStandsFor header body message =
    (content : Content) (size : ℕ)
    → header_of header ≡ Some (record { content = content; body_size = size })
    → StandsFor content body (message_of message)

-- what is gone after a step that stopped so: for lack of memory anything, and else no more than the
-- part at which it stopped
abbrev pub Gone
    : List (List ℕ) → Option MessageKind → List ℕ → List ℕ → IpcError → List ℕ → Type 0
Gone held wanted begun before e after =
    (gone : List ℕ) × (before ≡ gone ++ after)
    × ((e ≡ error.OutOfMemory) ⊎ IsLeast held wanted (begun ++ gone))

-- the same, whatever is held and whatever kind is asked for
abbrev pub GoneEarly : List ℕ → List ℕ → IpcError → List ℕ → Type 0
GoneEarly begun before e after =
    (gone : List ℕ) × (before ≡ gone ++ after)
    × ((e ≡ error.OutOfMemory)
    ⊎ ((held : List (List ℕ)) (wanted : Option MessageKind) → IsLeast held wanted (begun ++ gone)))
