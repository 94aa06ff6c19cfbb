-- What the reader of a stream of arrays does in one call.
use Rattle.std.specs.Prelude.{⊤, ◌≡◌, ◌⊎◌, Bool, ℕ, List, Option, Some, None, Result, Ok, Err}
use Rattle.vortex_terms.specs.Term.{Term}
use Rattle.vortex_node_rows.specs.Encodings.{encoding_in}
use Rattle.vortex_node_rows.specs.RowsOf.{rows_of}
use Rattle.vortex_array_data.specs.Column.{Column}
use Rattle.vortex_stream.specs.declared.counts.SourceCounts.{SourceCounts}
use Rattle.vortex_stream.specs.declared.kind.MessageKind.TheVariants as kinds
use Rattle.vortex_stream.specs.declared.error.IpcError.{IpcError}
use Rattle.vortex_stream.specs.declared.error.IpcError.TheVariants as error
use Rattle.vortex_ipc.specs.declared.message.DecoderMessage.{DecoderMessage}
use Rattle.vortex_ipc.specs.Message.{Message, array_message, buffer_message, type_message, message_of}
use Rattle.vortex_ipc.specs.Reader.{ReaderState, SourceReads, is_done, started}

-- ---- the first message

-- A stream was opened: its first message, a type was asked for, is one of this type. The reading of
-- it left the reader so.
abbrev pub Opens
    : List (List ℕ) → ℕ → SourceCounts → SourceCounts → Option (List ℕ) → Option (List ℕ)
    → ReaderState → Term → Type 0
Opens held most before after rest left new t =
    (message : DecoderMessage)
    × SourceReads (Some kinds.DType) (started held most) new before after rest left
    (Some (Ok message))
    × (message_of message ≡ type_message t)

-- It was not, and this is the error: memory ran out before the first read; the end was told before
-- the first byte; or that of the first message.
abbrev pub FailsToOpen
    : List (List ℕ) → ℕ → SourceCounts → SourceCounts → Option (List ℕ) → Option (List ℕ)
    → IpcError → Type 0
FailsToOpen held most before after rest left e =
    ((e ≡ error.OutOfMemory) × (after ≡ before) × (left ≡ rest))
    ⊎ ((new : ReaderState)
    × SourceReads (Some kinds.DType) (started held most) new before after rest left None
    × (e ≡ error.WrongKind None))
    ⊎ ((new : ReaderState)
    × SourceReads (Some kinds.DType) (started held most) new before after rest left (Some (Err e)))

-- ---- the arrays

-- the array is of the type, and has the rows that the message of an array stands for under it
abbrev pub IsArray : Term → Message → Column → Type 0
IsArray t (array_message rows names n) array =
    (array.dtype ≡ t) × (rows_of (encoding_in names) n t rows ≡ Some array.rows)
IsArray t (buffer_message buffer) array = ⊥
IsArray t (type_message type) array = ⊥

-- the message of an array stands for no rows of the type
abbrev pub HasNoRows : Term → Message → Type 0
HasNoRows t (array_message rows names n) = rows_of (encoding_in names) n t rows ≡ None
HasNoRows t (buffer_message buffer) = ⊥
HasNoRows t (type_message type) = ⊥

-- what is answered for an array, where its message was answered so
abbrev pub IsAnswerTo
    : Term → Option (Result DecoderMessage IpcError) → Option (Result Column IpcError) → Type 0
IsAnswerTo t None None = ⊤
IsAnswerTo t None (Some result) = ⊥
IsAnswerTo t (Some (Err e)) None = ⊥
IsAnswerTo t (Some (Err e)) (Some (Ok array)) = ⊥
IsAnswerTo t (Some (Err e)) (Some (Err f)) = f ≡ e
IsAnswerTo t (Some (Ok message)) None = ⊥
IsAnswerTo t (Some (Ok message)) (Some (Ok array)) = IsArray t (message_of message) array
IsAnswerTo t (Some (Ok message)) (Some (Err e)) =
    (e ≡ error.OutOfMemory) ⊎ ((e ≡ error.MalformedArray) × HasNoRows t (message_of message))

-- a reader that is done, or not, and else as it was
abbrev pub with_done : Bool → ReaderState → ReaderState
with_done done s =
    record { held = s.held; done = done; reads = s.reads; given = s.given; most = s.most }

-- What one call for the next array did: what a call for its message did, and the answer for an array
-- to what that answered. After none or an error the reader is done.
abbrev pub ReadsArray
    : Term → ReaderState → ReaderState → SourceCounts → SourceCounts → Option (List ℕ)
    → Option (List ℕ) → Option (Result Column IpcError) → Type 0
ReadsArray t old new before after rest left answer =
    (read : Option (Result DecoderMessage IpcError)) × (between : ReaderState)
    × SourceReads (Some kinds.Array) old between before after rest left read
    × IsAnswerTo t read answer × (new ≡ with_done (is_done answer) between)
