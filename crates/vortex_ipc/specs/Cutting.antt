-- What a decoder's answers have to do with how bytes are cut.
use Rattle.std.specs.Prelude.{⊤, ℕ, List, [], ◌∷◌, ◌++◌, None}
use Rattle.vortex_ipc.specs.Message.{Message}
use Rattle.vortex_ipc.specs.Decoding.{Outcome, more, refused, found, Decodes}

-- the same message or refusal, with more bytes behind it
abbrev pub behind : Outcome → List ℕ → Outcome
behind (more size there) others = more size there
behind (refused e) others = refused e
behind (found message rest) others = found message (rest ++ others)

-- whether it is a message or a refusal
abbrev pub IsSettled : Outcome → Type 0
IsSettled (more size there) = ⊥
IsSettled (refused e) = ⊤
IsSettled (found message rest) = ⊤

-- the bytes are these messages, one after another, of whatever kind, and then come to this
abbrev pub DecodesAll : List (List ℕ) → List ℕ → List Message → Outcome → Type 0
DecodesAll held bytes [] end = Decodes held None bytes end
DecodesAll held bytes (message ∷ messages) end =
    (rest : List ℕ) × Decodes held None bytes (found message rest)
    × DecodesAll held rest messages end

-- whether no message is left: more bytes are needed, or what stands there is refused
abbrev pub IsLast : Outcome → Type 0
IsLast (more size there) = ⊤
IsLast (refused e) = ⊤
IsLast (found message rest) = ⊥
