-- What one call did with a sink, by its counts and what stands on it, before and after.
use Rattle.std.specs.Prelude.{◌≡◌, ◌⊎◌, ℕ, List, Option, take}
use Rattle.std.specs.Io.KnownBytes.{Appends}
use Rattle.vortex_stream.specs.Counts.{with_fault, with_flush}
use Rattle.vortex_stream.specs.declared.counts.SinkCounts.{SinkCounts}

-- a prefix of the bytes was appended
abbrev pub AppendsPrefix : Option (List ℕ) → Option (List ℕ) → List ℕ → Type 0
AppendsPrefix written now bytes = (n : ℕ) × Appends written now (take n bytes)

-- all of the bytes were appended, and handed on by one flush; no call failed
pub record WritesOut (bytes : List ℕ) (before after : SinkCounts) (written now : Option (List ℕ))
    : Type 0 where
  pub counted : after ≡ with_flush before
  pub appended : Appends written now bytes

-- one call failed after a prefix of the bytes was appended, and nothing was handed on
pub record BreaksOff (bytes : List ℕ) (before after : SinkCounts) (written now : Option (List ℕ))
    : Type 0 where
  pub counted : after ≡ with_fault before
  pub appended : AppendsPrefix written now bytes

-- a note was left: the line stands whole where no call failed, and else a prefix of it
abbrev pub LeavesNote
    : List ℕ → SinkCounts → SinkCounts → Option (List ℕ) → Option (List ℕ) → Type 0
LeavesNote line before after written now =
    WritesOut line before after written now ⊎ BreaksOff line before after written now
