-- What one call did with a source, by its counts and the bytes still to come, before and after.
use Rattle.std.specs.Prelude.{◌≡◌, ℕ, ◌+◌, ◌≤◌, List, Option, length}
use Rattle.std.specs.Io.KnownBytes.{Consumes, IsAtEnd}
use Rattle.vortex_stream.specs.Counts.{raised_by}
use Rattle.vortex_stream.specs.declared.counts.SourceCounts.{SourceCounts}

-- The call counts by itself as `call` says. It made at most so many reads, stopped at the first
-- that told the end or failed, was given a byte for each other one, all in all, and lost none.
pub record Reads (most : ℕ) (call before after : SourceCounts) (rest left : Option (List ℕ))
    : Type 0 where
  pub counted : after ≡ raised_by before call
  pub few : call.reads ≤ most
  pub stops : call.ends + call.faults ≤ 1
  pub each_gives : call.reads ≤ call.given + call.ends + call.faults
  pub bytes : (read : List ℕ) × (length read ≡ call.given) × Consumes rest left read

-- the source was read to its end: it told it once, no read failed, and nothing is left
abbrev pub ReadToEnd : ℕ → SourceCounts → SourceCounts → Option (List ℕ) → Option (List ℕ) → Type 0
ReadToEnd most before after rest left =
    (call : SourceCounts) × Reads most call before after rest left × (call.ends ≡ 1) × IsAtEnd left

-- the source was read until a read failed
abbrev pub ReadToFault
    : ℕ → SourceCounts → SourceCounts → Option (List ℕ) → Option (List ℕ) → Type 0
ReadToFault most before after rest left =
    (call : SourceCounts) × Reads most call before after rest left × (call.faults ≡ 1)

-- so many reads were made, none of which told the end or failed
abbrev pub ReadToLimit
    : ℕ → SourceCounts → SourceCounts → Option (List ℕ) → Option (List ℕ) → Type 0
ReadToLimit most before after rest left =
    (call : SourceCounts) × Reads most call before after rest left × (call.reads ≡ most)
    × (call.ends ≡ 0) × (call.faults ≡ 0)

-- no read failed, wherever the reading stopped
abbrev pub ReadWithoutFault
    : ℕ → SourceCounts → SourceCounts → Option (List ℕ) → Option (List ℕ) → Type 0
ReadWithoutFault most before after rest left =
    (call : SourceCounts) × Reads most call before after rest left × (call.faults ≡ 0)
