-- What stands behind each answer of a run, which is None where the stream was selected, and else
-- its fault.
use Rattle.std.specs.Prelude.{◌≡◌, ℕ, ◌-◌, ◌^◌, List, Option, Some, None, IfSome}
use Rattle.vortex_stream.specs.Counts.{with_fault, with_flush}
use Rattle.vortex_stream.specs.Reading.{ReadToEnd, ReadToFault, ReadToLimit, ReadWithoutFault}
use Rattle.vortex_stream.specs.declared.counts.SourceCounts.{SourceCounts}
use Rattle.vortex_stream.specs.declared.counts.SinkCounts.{SinkCounts}
use Rattle.vortex_select.specs.Words.{IsQuery}
use Rattle.vortex_select.specs.Report.{no_counts}
use Rattle.vortex_select.specs.Theorem.{IsSomeStream, WroteAll, WrotePart}
use Rattle.vortex_select.specs.declared.error.SelectError.TheVariants.{ReadFault, WriteFault, ReadLimit, OutOfMemory, Unbuilt}
use Rattle.vortex_select.specs.declared.report.RowCounts.{RowCounts}
use Rattle.vortex_select.specs.declared.report.RunFault.{RunFault}
use Rattle.vortex_select.specs.declared.report.RunFault.TheVariants.{BadWords, Select}
use Rattle.vortex_select.specs.declared.words.Query.{Query}

-- the words ask for a query
abbrev pub IsAsked : List (List ℕ) → Type 0
IsAsked words = (query : Query) × IsQuery words query

-- What was selected, where the source tells its bytes: all of it, the part that lies on a sink that
-- failed, or nothing.
abbrev pub HasSelected : List (List ℕ) → Option (List ℕ) → Option (List ℕ) → Option (List ℕ)
    → RowCounts → Option RunFault → Type 0
HasSelected words input written now counts None =
    (query : Query) × IsQuery words query × IfSome input (WroteAll query written now counts)
HasSelected words input written now counts (Some (Select WriteFault)) =
    (query : Query) × IsQuery words query × IfSome input (WrotePart query written now counts)
HasSelected words input written now counts (Some BadWords) = counts ≡ no_counts
HasSelected words input written now counts (Some (Select ReadFault)) = counts ≡ no_counts
HasSelected words input written now counts (Some (Select ReadLimit)) = counts ≡ no_counts
HasSelected words input written now counts (Some (Select OutOfMemory)) = counts ≡ no_counts
HasSelected words input written now counts (Some (Select Unbuilt)) = counts ≡ no_counts

-- The cause of an answer in the words, and in the bytes where the source tells them. Its cause in
-- the source and in the sink is what these went through.
abbrev pub HasCause : List (List ℕ) → Option (List ℕ) → Option RunFault → Type 0
HasCause words input None = IsAsked words
HasCause words input (Some BadWords) = IsAsked words → ⊥
HasCause words input (Some (Select ReadFault)) = IsAsked words
HasCause words input (Some (Select ReadLimit)) = IsAsked words
HasCause words input (Some (Select WriteFault)) = IsAsked words
HasCause words input (Some (Select OutOfMemory)) = IsAsked words
HasCause words input (Some (Select Unbuilt)) =
    IsAsked words × IfSome input (λ bytes. IsSomeStream bytes → ⊥)

-- at most so many reads are made
abbrev pub most_reads : ℕ
most_reads = 2 ^ 64 - 1

-- what the source went through: it is as it was, or was read to its end, to a failed read or to the
-- limit of reads
abbrev pub SourceWent : {S : Type 0} → (S → SourceCounts) → (S → Option (List ℕ)) → S → S
    → Option RunFault → Type 0
SourceWent counts rest old new None =
    ReadToEnd most_reads (counts old) (counts new) (rest old) (rest new)
SourceWent counts rest old new (Some BadWords) = new ≡ old
SourceWent counts rest old new (Some (Select ReadFault)) =
    ReadToFault most_reads (counts old) (counts new) (rest old) (rest new)
SourceWent counts rest old new (Some (Select ReadLimit)) =
    ReadToLimit most_reads (counts old) (counts new) (rest old) (rest new)
SourceWent counts rest old new (Some (Select WriteFault)) =
    ReadToEnd most_reads (counts old) (counts new) (rest old) (rest new)
SourceWent counts rest old new (Some (Select OutOfMemory)) =
    ReadWithoutFault most_reads (counts old) (counts new) (rest old) (rest new)
SourceWent counts rest old new (Some (Select Unbuilt)) =
    ReadToEnd most_reads (counts old) (counts new) (rest old) (rest new)

-- how the sink stands: flushed once without a fault, or with one call that failed, and else as it
-- was
abbrev pub SinkStands : {K : Type 0} → (K → SinkCounts) → K → K → Option RunFault → Type 0
SinkStands counts old new None = counts new ≡ with_flush (counts old)
SinkStands counts old new (Some (Select WriteFault)) = counts new ≡ with_fault (counts old)
SinkStands counts old new (Some BadWords) = new ≡ old
SinkStands counts old new (Some (Select ReadFault)) = new ≡ old
SinkStands counts old new (Some (Select ReadLimit)) = new ≡ old
SinkStands counts old new (Some (Select OutOfMemory)) = new ≡ old
SinkStands counts old new (Some (Select Unbuilt)) = new ≡ old
