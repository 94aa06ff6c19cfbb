-- How the code finds with one look whether a vector of places names buffers.
use Rattle.std.specs.Prelude.{◌≡◌, ℕ, ◌-◌, ◌<◌, ◌^◌, List, length, get_or, is_some, nat_le}
use Rattle.vortex_flat.specs.Targets.{VectorShape}
use Rattle.vortex_body.specs.Body.{named_buffers}

-- the flat buffer of a body, and its buffers
pub record BodyView : Type 0 where
  pub flat : List ℕ
  pub buffers : List (List ℕ)

-- the vector of so many words of four bytes from place p on
abbrev pub words_at : ℕ → ℕ → VectorShape
words_at p count = record { first = p; width = 4; count = count }

-- how many words from place p on, one behind the other, name a buffer
unfoldable pub IsRun : List ℕ → List (List ℕ) → ℕ → ℕ → Type 0
IsRun b buffers p run =
    (count : ℕ) → count < 2 ^ 32 → is_some (named_buffers b buffers (words_at p count)) ≡ nat_le count run

-- the runs from each of the last places of the buffer, its end first
unfoldable pub AreRuns : List ℕ → List (List ℕ) → List ℕ → Type 0
AreRuns b buffers runs =
    (i : ℕ) → i < length runs → IsRun b buffers (length b - i) (get_or runs i 0)
