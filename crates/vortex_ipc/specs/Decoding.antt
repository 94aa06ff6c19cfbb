-- What a decoder is to answer to the bytes of its present message and all that follows them.
use Rattle.std.specs.Prelude.{◌≡◌, ◌⊎◌, Bool, true, false, ℕ, ◌<◌, ◌==◌, List, ◌++◌, length, Option, Some, None}
use Rattle.std.specs.List.{list_all}
use Rattle.vortex_terms.specs.Term.{Term}
use Rattle.vortex_schema.specs.TypeAt.{IsTypeIn}
use Rattle.vortex_flat.specs.Numbers.{little_endian}
use Rattle.vortex_body.specs.Reading.{node_of}
use Rattle.vortex_encodings.specs.Encodings.{is_listed}
use Rattle.vortex_stream.specs.Header.{Content, array_content, buffer_content, type_content, header_of, kind_of, kind_number}
use Rattle.vortex_stream.specs.Stream.{IsMessage}
use Rattle.vortex_stream.specs.declared.kind.MessageKind.{MessageKind}
use Rattle.vortex_stream.specs.declared.kind.MessageKind.TheVariants as kinds
use Rattle.vortex_stream.specs.declared.error.IpcError.{IpcError}
use Rattle.vortex_stream.specs.declared.error.IpcError.TheVariants as error
use Rattle.vortex_ipc.specs.Message.{Message, StandsFor}

-- more bytes are needed of a part that has so many, of which these are there; an error of content;
-- or a message and the bytes behind it
pub data Outcome : Type 0 where
  more : (size : ℕ) (there : List ℕ) → Outcome
  refused : (error : IpcError) → Outcome
  found : (message : Message) (rest : List ℕ) → Outcome

-- whether a message of a kind is answered where one kind, or any, is asked for
abbrev pub is_answered : Option MessageKind → MessageKind → Bool
is_answered None kind = true
is_answered (Some asked) kind = kind_number asked == kind_number kind

-- whether each of these names of encodings is held
abbrev pub all_held : List (List ℕ) → List (List ℕ) → Bool
all_held held names = list_all (is_listed held) names

-- whether the encodings that a header names are held: the header of an array names some
abbrev pub are_held : List (List ℕ) → Content → Bool
are_held held (array_content rows names) = all_held held names
are_held held (buffer_content exponent) = true
are_held held type_content = true

-- a message that holds this is answered, and the encodings that its header names are held
abbrev pub IsAdmitted : List (List ℕ) → Option MessageKind → Content → Type 0
IsAdmitted held wanted content =
    (is_answered wanted (kind_of content) ≡ true) × (are_held held content ≡ true)

-- the bytes begin with the length of a header
pub record BeginsWithLength (bytes : List ℕ) (size : ℕ) (rest : List ℕ) : Type 0 where
  pub prefix : List ℕ
  pub parts : bytes ≡ prefix ++ rest
  pub prefix_len : length prefix ≡ 4
  pub size_is : little_endian prefix ≡ size

-- the bytes begin with the length of a header, and with a header of that length
abbrev pub BeginsWithHeader : List ℕ → List ℕ → List ℕ → Type 0
BeginsWithHeader bytes header rest = BeginsWithLength bytes (length header) (header ++ rest)

-- the header is whole, and is none
abbrev pub HasNoHeader : List ℕ → Type 0
HasNoHeader bytes =
    (header : List ℕ) × (rest : List ℕ) × BeginsWithHeader bytes header rest
    × (header_of header ≡ None)

-- the bytes begin with a header that says this, and with its length
pub record HasHeader (bytes : List ℕ) (content : Content) (body_size : ℕ) (rest : List ℕ)
    : Type 0 where
  pub header : List ℕ
  pub begins : BeginsWithHeader bytes header rest
  pub header_is : header_of header ≡ Some (record { content = content; body_size = body_size })

-- Fewer bytes are there than the present part has in all: the four bytes of the length, the header,
-- or the body of a message that is admitted.
abbrev pub NeedsMore : List (List ℕ) → Option MessageKind → List ℕ → ℕ → List ℕ → Type 0
NeedsMore held wanted bytes size there =
    ((bytes ≡ there) × (size ≡ 4) × (length there < size))
    ⊎ (BeginsWithLength bytes size there × (length there < size))
    ⊎ ((content : Content) × HasHeader bytes content size there
    × IsAdmitted held wanted content × (length there < size))

-- a whole header is of a kind that is not answered
abbrev pub HasOtherKind : Option MessageKind → List ℕ → MessageKind → Type 0
HasOtherKind wanted bytes kind =
    (content : Content) × (size : ℕ) × (rest : List ℕ) × HasHeader bytes content size rest
    × (kind_of content ≡ kind) × (is_answered wanted kind ≡ false)

-- a whole header, of a kind that is answered, names an encoding that is not held, used or not
abbrev pub HasUnknownEncoding : List (List ℕ) → Option MessageKind → List ℕ → Type 0
HasUnknownEncoding held wanted bytes =
    (content : Content) × (size : ℕ) × (rest : List ℕ) × HasHeader bytes content size rest
    × (is_answered wanted (kind_of content) ≡ true) × (are_held held content ≡ false)

-- a whole message of a type, which is answered, has a body in which no type stands
abbrev pub HasNoType : Option MessageKind → List ℕ → Type 0
HasNoType wanted bytes =
    (body : List ℕ) × (rest : List ℕ) × IsMessage bytes type_content body rest
    × (is_answered wanted kinds.DType ≡ true) × ((t : Term) → IsTypeIn body t → ⊥)

-- a whole message of an array, which is admitted, has a body in which no node is found
abbrev pub HasNoNode : List (List ℕ) → Option MessageKind → List ℕ → Type 0
HasNoNode held wanted bytes =
    (rows : ℕ) × (names : List (List ℕ)) × (body : List ℕ) × (rest : List ℕ)
    × IsMessage bytes (array_content rows names) body rest
    × IsAdmitted held wanted (array_content rows names) × (node_of body ≡ None)

-- The first flaw of the message at which the bytes begin. The order is that of its parts: the
-- header, its kind, the names in it, and the body.
abbrev pub IsFlawed : List (List ℕ) → Option MessageKind → List ℕ → IpcError → Type 0
IsFlawed held wanted bytes error.MalformedHeader = HasNoHeader bytes
IsFlawed held wanted bytes (error.WrongKind None) = ⊥
IsFlawed held wanted bytes (error.WrongKind (Some kind)) = HasOtherKind wanted bytes kind
IsFlawed held wanted bytes error.UnknownEncoding = HasUnknownEncoding held wanted bytes
IsFlawed held wanted bytes error.MalformedDType = HasNoType wanted bytes
IsFlawed held wanted bytes error.MalformedArray = HasNoNode held wanted bytes
IsFlawed held wanted bytes error.Failed = ⊥
IsFlawed held wanted bytes error.UnexpectedEnd = ⊥
IsFlawed held wanted bytes error.ReadFault = ⊥
IsFlawed held wanted bytes error.ReadLimit = ⊥
IsFlawed held wanted bytes error.WriteFault = ⊥
IsFlawed held wanted bytes error.TooLarge = ⊥
IsFlawed held wanted bytes error.OutOfMemory = ⊥

-- the bytes begin with a whole message that is admitted, and this is what it stands for
abbrev pub HasMessage
    : List (List ℕ) → Option MessageKind → List ℕ → Message → List ℕ → Type 0
HasMessage held wanted bytes message rest =
    (content : Content) × (body : List ℕ) × IsMessage bytes content body rest
    × IsAdmitted held wanted content × StandsFor content body message

-- What a decoder that holds encodings of these names, and is asked for a kind, or for any, is to
-- answer to these bytes.
abbrev pub Decodes : List (List ℕ) → Option MessageKind → List ℕ → Outcome → Type 0
Decodes held wanted bytes (more size there) = NeedsMore held wanted bytes size there
Decodes held wanted bytes (refused error) = IsFlawed held wanted bytes error
Decodes held wanted bytes (found message rest) = HasMessage held wanted bytes message rest

-- more bytes are needed after these
abbrev pub IsCut : List (List ℕ) → Option MessageKind → List ℕ → Type 0
IsCut held wanted bytes =
    (size : ℕ) × (there : List ℕ) × Decodes held wanted bytes (more size there)

-- each shorter front of the bytes is cut
abbrev pub IsLeast : List (List ℕ) → Option MessageKind → List ℕ → Type 0
IsLeast held wanted bytes =
    (front back : List ℕ) → bytes ≡ front ++ back → 0 < length back → IsCut held wanted front
