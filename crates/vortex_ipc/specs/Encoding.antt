-- What is written for a message (this project's own framing): four bytes that are the length of the
-- header, the header in the one layout, and the body.
use Rattle.std.specs.Prelude.{◌≡◌, ◌⊎◌, ℕ, ◌<◌, ◌^◌, ◌==◌, List, [], ◌∷◌, ◌++◌, length, take, Option, Some, Result, Ok, Err, if◌then◌else◌}
use Rattle.std.specs.Option.{option_map}
use Rattle.std.specs.Int.{w32, to_le_bytes}
use Rattle.std.specs.Io.KnownBytes.{Appends}
use Rattle.vortex_prelude.specs.Chain.{◌>>=◌}
use Rattle.vortex_flat.specs.Tree.{one, eight, Tree, table, SlotTrees, no_slots, number_slot, target_slot}
use Rattle.vortex_flat.specs.Layout.{layout_of}
use Rattle.vortex_terms.specs.Types.{Bounded}
use Rattle.vortex_schema.specs.TypeAt.{IsTypeIn}
use Rattle.vortex_schema.specs.TypeTree.{tree_of_type}
use Rattle.vortex_dtype.specs.DTypes.{term_of}
use Rattle.vortex_stream.specs.Header.{Content, buffer_content, type_content, kind_of, kind_number}
use Rattle.vortex_stream.specs.Stream.{IsMessage}
use Rattle.vortex_stream.specs.Counts.{with_fault}
use Rattle.vortex_stream.specs.declared.counts.SinkCounts.{SinkCounts}
use Rattle.vortex_stream.specs.declared.schema.TheConstants.{VERSION}
use Rattle.vortex_stream.specs.declared.error.IpcError.{IpcError}
use Rattle.vortex_stream.specs.declared.error.IpcError.TheVariants as error
use Rattle.vortex_ipc.specs.declared.encoder.EncoderMessage.{EncoderMessage}
use Rattle.vortex_ipc.specs.declared.encoder.EncoderMessage.TheVariants as given

-- what the message holds
abbrev pub content_of : EncoderMessage → Content
content_of (given.Buffer b) = buffer_content b.now.exponent
content_of (given.DType t) = type_content

-- the table of the kind: that of a buffer has its alignment exponent, that of a type no field
abbrev pub content_slots : EncoderMessage → SlotTrees
content_slots (given.Buffer b) = number_slot one b.now.exponent no_slots
content_slots (given.DType t) = no_slots

-- the header: the version, the kind, the table of the kind, and the size of the body
abbrev pub header_tree : EncoderMessage → ℕ → Tree
header_tree m size =
    table (number_slot one VERSION (number_slot one (kind_number (kind_of (content_of m)))
    (target_slot (table (content_slots m)) (number_slot eight size no_slots))))

-- a header behind its length
abbrev pub with_length : List ℕ → List ℕ
with_length header = to_le_bytes w32 (length header) ++ header

-- what stands before a body of that size: the header, behind its length
abbrev pub head_of : EncoderMessage → ℕ → Option (List ℕ)
head_of m size = option_map with_length (layout_of (header_tree m size))

-- the body: the buffer, or the flat buffer of the type
abbrev pub body_of : EncoderMessage → Option (List ℕ)
body_of (given.Buffer b) = Some b.now.bytes
body_of (given.DType t) = layout_of (tree_of_type (term_of t.now))

-- a message with this body
abbrev pub with_body : EncoderMessage → List ℕ → Option (List ℕ)
with_body m body = option_map (λ head. head ++ body) (head_of m (length body))

-- the bytes of the message
abbrev pub encoded : EncoderMessage → Option (List ℕ)
encoded m = body_of m >>= with_body m

-- what stands before the body, and the body where it is not empty
abbrev pub in_pieces : List ℕ → List ℕ → List (List ℕ)
in_pieces body head = head ∷ (if length body == 0 then [] else body ∷ [])

-- the bytes of the message in pieces, none of which is empty
abbrev pub encoded_pieces : EncoderMessage → Option (List (List ℕ))
encoded_pieces m =
    body_of m >>= λ body. option_map (in_pieces body) (head_of m (length body))

-- what is not written: a type outside the limits
abbrev pub IsTooLarge : EncoderMessage → Type 0
IsTooLarge (given.Buffer b) = ⊥
IsTooLarge (given.DType t) = ¬ Bounded (term_of t.now)

-- the exponent and the size of a buffer are such as the header holds; a type is within the limits
abbrev pub FitsHeader : EncoderMessage → Type 0
FitsHeader (given.Buffer b) = (b.now.exponent < 2 ^ 8) × (length b.now.bytes < 2 ^ 64)
FitsHeader (given.DType t) = Bounded (term_of t.now)

-- The bytes are what a reader takes for what was given, and what follows it: a message of the
-- buffer under its alignment, or of a type in whose body that type stands.
abbrev pub IsReadAs : EncoderMessage → List ℕ → List ℕ → Type 0
IsReadAs (given.Buffer b) bytes rest =
    IsMessage bytes (buffer_content b.now.exponent) b.now.bytes rest
IsReadAs (given.DType t) bytes rest =
    (body : List ℕ) × IsMessage bytes type_content body rest × IsTypeIn body (term_of t.now)

-- the answer is what was found, and TooLarge comes exactly where it must, unless memory ran out
abbrev pub Encodes
    : {A B : Type 0} → (A → B) → Result A IpcError → EncoderMessage → Option B → Type 0
Encodes view (Ok x) m found = (found ≡ Some (view x)) × ¬ IsTooLarge m
Encodes view (Err e) m found =
    (e ≡ error.OutOfMemory) ⊎ ((e ≡ error.TooLarge) × IsTooLarge m)

-- What a write leaves of a sink that counts and tells its bytes so, under each answer: the message
-- is appended; after WriteFault one call failed, and a part of the message, not the whole, is
-- appended; after each other refusal the sink is as it was. Nothing is flushed.
abbrev pub WritesMessage : {S T : Type 0} → (S → SinkCounts) → (S → Option (List ℕ))
    → Result T IpcError → EncoderMessage → S → S → Type 0
WritesMessage counts written (Ok x) m old new =
    ((bytes : List ℕ) × (encoded m ≡ Some bytes) × Appends (written old) (written new) bytes)
    × (counts new ≡ counts old) × ¬ IsTooLarge m
WritesMessage counts written (Err error.WriteFault) m old new =
    ((bytes : List ℕ) × (n : ℕ) × (encoded m ≡ Some bytes) × (n < length bytes)
    × Appends (written old) (written new) (take n bytes))
    × (counts new ≡ with_fault (counts old)) × ¬ IsTooLarge m
WritesMessage counts written (Err error.TooLarge) m old new = (new ≡ old) × IsTooLarge m
WritesMessage counts written (Err error.OutOfMemory) m old new = new ≡ old
WritesMessage counts written (Err error.MalformedHeader) m old new = ⊥
WritesMessage counts written (Err (error.WrongKind found)) m old new = ⊥
WritesMessage counts written (Err error.UnknownEncoding) m old new = ⊥
WritesMessage counts written (Err error.MalformedDType) m old new = ⊥
WritesMessage counts written (Err error.MalformedArray) m old new = ⊥
WritesMessage counts written (Err error.Failed) m old new = ⊥
WritesMessage counts written (Err error.UnexpectedEnd) m old new = ⊥
WritesMessage counts written (Err error.ReadFault) m old new = ⊥
WritesMessage counts written (Err error.ReadLimit) m old new = ⊥
