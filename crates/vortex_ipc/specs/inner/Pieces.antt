-- What one read of a reader gave.
use Rattle.std.specs.Prelude.{◌≡◌, ℕ, ◌<◌, List, take, Option, Result, Ok, Err}
use Rattle.std.specs.Io.KnownBytes.{Consumes, Keeps, IsAtEnd}

-- so many bytes of the piece were taken, and none, where there was room, only at the end
abbrev pub TookPiece : Option (List ℕ) → Option (List ℕ) → List ℕ → ℕ → ℕ → Type 0
TookPiece rest left piece room count =
    Consumes rest left (take count piece) × (count ≡ 0 → 0 < room → IsAtEnd left)

-- what was taken, or nothing where the read failed
abbrev pub GavePiece : {E : Type 0} → Option (List ℕ) → Option (List ℕ) → List ℕ → ℕ → Result ℕ E → Type 0
GavePiece rest left piece room (Ok count) = TookPiece rest left piece room count
GavePiece rest left piece room (Err e) = Keeps rest left
