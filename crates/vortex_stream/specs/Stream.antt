-- Messages and streams (this project's own framing).
use Rattle.std.specs.Prelude.{◌≡◌, ℕ, List, [], ◌∷◌, ◌++◌, length, Some}
use Rattle.vortex_flat.specs.Numbers.{little_endian}
use Rattle.vortex_stream.specs.Header.{Content, array_content, type_content, header_of}

-- The bytes are a message, and what follows it: four bytes that are the length of the header, the
-- header, and a body of the size that it tells.
pub record IsMessage (bytes : List ℕ) (content : Content) (body rest : List ℕ) : Type 0 where
  pub prefix : List ℕ
  pub header : List ℕ
  pub parts : bytes ≡ prefix ++ header ++ body ++ rest
  pub prefix_len : length prefix ≡ 4
  pub header_len : little_endian prefix ≡ length header
  pub header_is : header_of header ≡ Some (record { content = content; body_size = length body })

-- The bytes are one message of an array after another and nothing else, a body for each list of
-- rows. IsArray tells which rows a body stands for, under the type and what the header tells.
abbrev pub AreArrays : {T R : Type 0} → (T → ℕ → List (List ℕ) → List ℕ → R → Type 0) → T
    → List ℕ → List R → Type 0
AreArrays IsArray t bytes [] = bytes ≡ []
AreArrays IsArray t bytes (rows ∷ arrays) =
    (count : ℕ) × (names : List (List ℕ)) × (body : List ℕ) × (rest : List ℕ)
    × IsMessage bytes (array_content count names) body rest
    × IsArray t count names body rows
    × AreArrays IsArray t rest arrays

-- The bytes are a stream: a message of a type, whose body stands for it by IsType, and then
-- messages of arrays.
pub record IsStream {T R : Type 0} (IsType : List ℕ → T → Type 0)
    (IsArray : T → ℕ → List (List ℕ) → List ℕ → R → Type 0)
    (bytes : List ℕ) (t : T) (arrays : List R) : Type 0 where
  pub body : List ℕ
  pub rest : List ℕ
  pub message : IsMessage bytes type_content body rest
  pub is_type : IsType body t
  pub are_arrays : AreArrays IsArray t rest arrays
