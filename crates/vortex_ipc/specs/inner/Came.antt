-- What the reading of one message came to.
use Rattle.std.specs.Prelude.{◌≡◌, Bool, false, ℕ, ◌==◌, List, [], Option, Some, None, Result, Err, if◌then◌else◌}
use Rattle.vortex_stream.specs.declared.counts.SourceCounts.{SourceCounts}
use Rattle.vortex_stream.specs.declared.kind.MessageKind.{MessageKind}
use Rattle.vortex_stream.specs.declared.error.IpcError.{IpcError}
use Rattle.vortex_stream.specs.declared.error.IpcError.TheVariants as error
use Rattle.vortex_ipc.specs.declared.message.DecoderMessage.{DecoderMessage}
use Rattle.vortex_ipc.specs.declared.read_state.Taken.{Taken}
use Rattle.vortex_ipc.specs.Decoder.{DecoderState, fresh}
use Rattle.vortex_ipc.specs.Reader.{ReadsMessage}

-- the answer to an end behind so many bytes
abbrev pub at_end : ℕ → Option (Result DecoderMessage IpcError)
at_end given = if given == 0 then None else Some (Err error.UnexpectedEnd)

-- one message was read so, in so many reads that gave so many bytes
pub record Came (held : List (List ℕ)) (wanted : Option MessageKind) (most : ℕ)
    (before after : SourceCounts) (rest left : Option (List ℕ)) (t : Taken) : Type 0 where
  pub message : ReadsMessage held wanted most before after rest left t.answer
  pub reads_are : message.call.reads ≡ t.reads
  pub given_are : message.call.given ≡ t.given

-- after a message the decoder is between two, and no byte waits
abbrev pub IsReady : List (List ℕ) → Bool → DecoderState → List ℕ → Type 0
IsReady held done decoder queue = done ≡ false → (decoder ≡ fresh held) × (queue ≡ [])
