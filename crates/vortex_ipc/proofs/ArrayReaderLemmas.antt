-- What a reader of arrays makes of the answers of a reader of messages.
use Rattle.std.proofs.Common.{◌≡◌, ◌⊎◌, inl, inr, ℕ, false, true, Bool, List, Option, Some, None, Result, Ok, Err, refl, sym, ap, subst, ◌∙◌}
use Rattle.vortex_terms.specs.Term.{Term}
use Rattle.vortex_buffer.specs.Buffer.{Buffer}
use Rattle.vortex_types.specs.declared.dtype.DType.{DType}
use Rattle.vortex_dtype.specs.DTypes.{term_of}
use Rattle.vortex_body.specs.Node.{Node}
use Rattle.vortex_node_rows.specs.Encodings.{encoding_in}
use Rattle.vortex_node_rows.specs.RowsOf.{rows_of}
use Rattle.vortex_array_data.specs.Column.{Column}
use Rattle.vortex_stream.specs.Header.{Content, array_content, buffer_content, type_content, kind_of}
use Rattle.vortex_stream.specs.declared.counts.SourceCounts.{SourceCounts}
use Rattle.vortex_stream.specs.declared.kind.MessageKind.{MessageKind}
use Rattle.vortex_stream.specs.declared.kind.MessageKind.TheVariants as kinds
use Rattle.vortex_stream.specs.declared.error.IpcError.{IpcError}
use Rattle.vortex_stream.specs.declared.error.IpcError.TheVariants as error
use Rattle.vortex_ipc.specs.declared.message.DecoderMessage.{DecoderMessage}
use Rattle.vortex_ipc.specs.declared.message.DecoderMessage.TheVariants as messages
use Rattle.vortex_ipc.specs.Message.{Message, StandsFor, array_message, buffer_message, type_message, message_of}
use Rattle.vortex_ipc.specs.Decoding.{is_answered}
use Rattle.vortex_ipc.specs.Reader.{ReaderState, SourceReads, is_done, started}
use Rattle.vortex_ipc.specs.ArrayReader.{FailsToOpen, Opens, ReadsArray, with_done}

-- ---- what is read where a kind is asked for

no_array : (rows : ℕ) (names : List (List ℕ)) (n : Node) (t : Term) → array_message rows names n ≡ type_message t → ⊥
no_array rows names n t e = cc

no_buffer : (b : Buffer) (t : Term) → buffer_message b ≡ type_message t → ⊥
no_buffer b t e = cc

array_no_buffer : (b : Buffer) (rows : ℕ) (names : List (List ℕ)) (n : Node) → buffer_message b ≡ array_message rows names n → ⊥
array_no_buffer b rows names n e = cc

never : false ≡ true → ⊥
never e = cc

-- a message is none of an array or a buffer where a type is asked for
type_asked : (c : Content) (body : List ℕ) (m : Message) → is_answered (Some kinds.DType) (kind_of c) ≡ true → StandsFor c body m → (t : Term) × (m ≡ type_message t)
type_asked (array_content rows names) body m asked h = absurd (never asked)
type_asked (buffer_content exponent) body m asked h = absurd (never asked)
type_asked type_content body m asked h = (h.0, h.2)

-- nor one of a buffer or a type where an array is asked for
array_asked : (c : Content) (body : List ℕ) (m : Message) → is_answered (Some kinds.Array) (kind_of c) ≡ true → StandsFor c body m → (rows : ℕ) × (names : List (List ℕ)) × (n : Node) × (m ≡ array_message rows names n)
array_asked (array_content rows names) body m asked h = (rows, names, h.0, h.2)
array_asked (buffer_content exponent) body m asked h = absurd (never asked)
array_asked type_content body m asked h = absurd (never asked)

some_none : (m : DecoderMessage) → ◌≡◌ {A = Option (Result DecoderMessage IpcError)} (Some (Ok m)) None → ⊥
some_none m e = cc

read_type : (old new : ReaderState) (before after : SourceCounts) (rest left : Option (List ℕ)) (m : DecoderMessage) → SourceReads (Some kinds.DType) old new before after rest left (Some (Ok m)) → (t : Term) × (message_of m ≡ type_message t)
read_type old new before after rest left m (inl h) = absurd (some_none m h.none)
read_type old new before after rest left m (inr h) = let a = h.message.answers.1 in type_asked a.0 a.1 (message_of m) a.3.0 a.4

read_array : (old new : ReaderState) (before after : SourceCounts) (rest left : Option (List ℕ)) (m : DecoderMessage) → SourceReads (Some kinds.Array) old new before after rest left (Some (Ok m)) → (rows : ℕ) × (names : List (List ℕ)) × (n : Node) × (message_of m ≡ array_message rows names n)
read_array old new before after rest left m (inl h) = absurd (some_none m h.none)
read_array old new before after rest left m (inr h) = let a = h.message.answers.1 in array_asked a.0 a.1 (message_of m) a.3.0 a.4

pub no_array_asked : (old new : ReaderState) (before after : SourceCounts) (rest left : Option (List ℕ)) (a : _) → SourceReads (Some kinds.DType) old new before after rest left (Some (Ok (messages.Array a))) → ⊥
no_array_asked old new before after rest left a h = let t = read_type old new before after rest left (messages.Array a) h in no_array _ _ _ t.0 t.1

pub no_buffer_asked : (old new : ReaderState) (before after : SourceCounts) (rest left : Option (List ℕ)) (b : _) → SourceReads (Some kinds.DType) old new before after rest left (Some (Ok (messages.Buffer b))) → ⊥
no_buffer_asked old new before after rest left b h = let t = read_type old new before after rest left (messages.Buffer b) h in no_buffer b t.0 t.1

pub no_type_wanted : (old new : ReaderState) (before after : SourceCounts) (rest left : Option (List ℕ)) (t : DType) → SourceReads (Some kinds.Array) old new before after rest left (Some (Ok (messages.DType t))) → ⊥
no_type_wanted old new before after rest left t h = let a = read_array old new before after rest left (messages.DType t) h in no_array a.0 a.1 a.2 (term_of t) (sym a.3)

pub no_buffer_wanted : (old new : ReaderState) (before after : SourceCounts) (rest left : Option (List ℕ)) (b : _) → SourceReads (Some kinds.Array) old new before after rest left (Some (Ok (messages.Buffer b))) → ⊥
no_buffer_wanted old new before after rest left b h = let a = read_array old new before after rest left (messages.Buffer b) h in array_no_buffer b a.0 a.1 a.2 a.3

-- ---- the first message

pub opens : (held : List (List ℕ)) (most : ℕ) (old new : ReaderState) (before after : SourceCounts) (rest left : Option (List ℕ)) (t : DType) → old ≡ started held most → SourceReads (Some kinds.DType) old new before after rest left (Some (Ok (messages.DType t))) → Opens held most before after rest left new (term_of t)
opens held most old new before after rest left t e h = (messages.DType t, subst (λ (s : ReaderState). SourceReads (Some kinds.DType) s new before after rest left (Some (Ok (messages.DType t)))) e h, refl)

pub no_memory : (held : List (List ℕ)) (most : ℕ) (before : SourceCounts) (rest : Option (List ℕ)) (e : IpcError) → e ≡ error.OutOfMemory → FailsToOpen held most before before rest rest e
no_memory held most before rest e memory = inl (memory, refl, refl)

pub no_message : (held : List (List ℕ)) (most : ℕ) (old new : ReaderState) (before after : SourceCounts) (rest left : Option (List ℕ)) → old ≡ started held most → SourceReads (Some kinds.DType) old new before after rest left None → FailsToOpen held most before after rest left (error.WrongKind None)
no_message held most old new before after rest left e h = inr (inl (new, subst (λ (s : ReaderState). SourceReads (Some kinds.DType) s new before after rest left None) e h, refl))

pub no_type : (held : List (List ℕ)) (most : ℕ) (old new : ReaderState) (before after : SourceCounts) (rest left : Option (List ℕ)) (f : IpcError) → old ≡ started held most → SourceReads (Some kinds.DType) old new before after rest left (Some (Err f)) → FailsToOpen held most before after rest left f
no_type held most old new before after rest left f e h = inr (inr (new, subst (λ (s : ReaderState). SourceReads (Some kinds.DType) s new before after rest left (Some (Err f))) e h))

-- ---- arrays

-- what a reader is after its answer
state_after : (old new : ReaderState) (before after : SourceCounts) (rest left : Option (List ℕ)) (answer : Option (Result DecoderMessage IpcError)) (wanted : Option MessageKind) → SourceReads wanted old new before after rest left answer → new ≡ with_done (is_done answer) new
state_after old new before after rest left answer wanted (inl h) =
    subst (λ (s : ReaderState). s ≡ with_done (is_done answer) s) (sym h.state)
    (ap (λ (b : Bool). with_done b old) (h.done ∙ sym (ap is_done h.none)))
state_after old new before after rest left answer wanted (inr h) =
    subst (λ (s : ReaderState). s ≡ with_done (is_done answer) s) (sym h.state) refl

pub reads_none : (t : Term) (old new : ReaderState) (before after : SourceCounts) (rest left : Option (List ℕ)) → SourceReads (Some kinds.Array) old new before after rest left None → ReadsArray t old new before after rest left None
reads_none t old new before after rest left h = (None, new, h, tt, state_after old new before after rest left None (Some kinds.Array) h)

pub reads_error : (t : Term) (old new : ReaderState) (before after : SourceCounts) (rest left : Option (List ℕ)) (e : IpcError) → SourceReads (Some kinds.Array) old new before after rest left (Some (Err e)) → ReadsArray t old new before after rest left (Some (Err e))
reads_error t old new before after rest left e h = (Some (Err e), new, h, refl, state_after old new before after rest left (Some (Err e)) (Some kinds.Array) h)

pub reads_array : (t : Term) (old new : ReaderState) (before after : SourceCounts) (rest left : Option (List ℕ)) (n : Node) (names : List (List ℕ)) (rows : ℕ) (a : Column) → SourceReads (Some kinds.Array) old new before after rest left (Some (Ok (messages.Array (n, names, rows)))) → a.dtype ≡ t → rows_of (encoding_in names) n t rows ≡ Some a.rows
    → ReadsArray t old new before after rest left (Some (Ok a))
reads_array t old new before after rest left n names rows a h type_is rows_are = (Some (Ok (messages.Array (n, names, rows))), new, h, (type_is, rows_are), state_after old new before after rest left (Some (Ok (messages.Array (n, names, rows)))) (Some kinds.Array) h)

pub reads_no_rows : (t : Term) (old between new : ReaderState) (before after : SourceCounts) (rest left : Option (List ℕ)) (n : Node) (names : List (List ℕ)) (rows : ℕ) (e : IpcError) → SourceReads (Some kinds.Array) old between before after rest left (Some (Ok (messages.Array (n, names, rows))))
    → (e ≡ error.OutOfMemory) ⊎ ((e ≡ error.MalformedArray) × (rows_of (encoding_in names) n t rows ≡ None)) → new ≡ with_done true between → ReadsArray t old new before after rest left (Some (Err e))
reads_no_rows t old between new before after rest left n names rows e h why state = (Some (Ok (messages.Array (n, names, rows))), between, h, why, state)
