-- What a queue of bytes has lost.
use Rattle.std.specs.Prelude.{◌≡◌, ℕ, List, ◌++◌}

-- a prefix of the bytes is gone, or nothing
abbrev pub HasLost : List ℕ → List ℕ → Type 0
HasLost before after = (gone : List ℕ) × (before ≡ gone ++ after)
