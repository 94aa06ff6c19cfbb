-- A message as contracts see it.
use Rattle.std.specs.Prelude.{◌≡◌, ℕ, List, Some}
use Rattle.vortex_buffer.specs.Buffer.{Buffer}
use Rattle.vortex_terms.specs.Term.{Term}
use Rattle.vortex_schema.specs.TypeAt.{IsTypeIn}
use Rattle.vortex_dtype.specs.DTypes.{term_of}
use Rattle.vortex_body.specs.Node.{Node}
use Rattle.vortex_body.specs.Reading.{node_of}
use Rattle.vortex_stream.specs.Header.{Content, array_content, buffer_content, type_content}
use Rattle.vortex_ipc.specs.declared.message.DecoderMessage.{DecoderMessage}
use Rattle.vortex_ipc.specs.declared.message.DecoderMessage.TheVariants as messages

-- an array, as its row count, the names of encodings and its node; a buffer; or a type
pub data Message : Type 0 where
  array_message : (rows : ℕ) (names : List (List ℕ)) (node : Node) → Message
  buffer_message : (buffer : Buffer) → Message
  type_message : (type : Term) → Message

-- what a message that was read is seen as
abbrev pub message_of : DecoderMessage → Message
message_of (messages.Array array) = array_message array.2 array.1 array.0
message_of (messages.Buffer buffer) = buffer_message buffer
message_of (messages.DType dtype) = type_message (term_of dtype)

-- what a body stands for, under what the header says that the message holds
abbrev pub StandsFor : Content → List ℕ → Message → Type 0
StandsFor (array_content rows names) body message =
    (node : Node) × (node_of body ≡ Some node) × (message ≡ array_message rows names node)
StandsFor (buffer_content exponent) body message =
    message ≡ buffer_message (record { bytes = body; exponent = exponent })
StandsFor type_content body message = (t : Term) × IsTypeIn body t × (message ≡ type_message t)
