-- What stands when reading or selecting stops.
use Rattle.std.specs.Prelude.{◌≡◌, ℕ, List, Option, IfSome}
use Rattle.vortex_stream.specs.Reading.{ReadToFault, ReadToLimit, ReadWithoutFault}
use Rattle.vortex_stream.specs.declared.counts.SourceCounts.{SourceCounts}
use Rattle.vortex_select.specs.Answer.{most_reads}
use Rattle.vortex_select.specs.Report.{no_counts}
use Rattle.vortex_select.specs.Theorem.{WrotePart}
use Rattle.vortex_select.specs.declared.error.SelectError.{SelectError}
use Rattle.vortex_select.specs.declared.error.SelectError.TheVariants.{ReadFault, WriteFault, ReadLimit, OutOfMemory, Unbuilt}
use Rattle.vortex_select.specs.declared.program.Stopped.{Stopped}
use Rattle.vortex_select.specs.declared.report.RowCounts.{RowCounts}
use Rattle.vortex_select.specs.declared.words.Query.{Query}

-- the reading of a source stopped by this error before the end
abbrev pub StopsReading : SourceCounts → SourceCounts → Option (List ℕ) → Option (List ℕ)
    → SelectError → Type 0
StopsReading before after rest left ReadFault = ReadToFault most_reads before after rest left
StopsReading before after rest left ReadLimit = ReadToLimit most_reads before after rest left
StopsReading before after rest left OutOfMemory = ReadWithoutFault most_reads before after rest left
StopsReading before after rest left WriteFault = ⊥
StopsReading before after rest left Unbuilt = ⊥

-- what was selected by a query when it stopped by this error
abbrev pub StopsWith : Query → Option (List ℕ) → Option (List ℕ) → Option (List ℕ) → RowCounts
    → SelectError → Type 0
StopsWith query input written now counts WriteFault =
    IfSome input (WrotePart query written now counts)
StopsWith query input written now counts ReadFault = counts ≡ no_counts
StopsWith query input written now counts ReadLimit = counts ≡ no_counts
StopsWith query input written now counts OutOfMemory = counts ≡ no_counts
StopsWith query input written now counts Unbuilt = counts ≡ no_counts

-- stopped by this error before anything was written
pub record IsBeforeWriting (error : SelectError) (stopped : Stopped) : Type 0 where
  pub error_is : stopped.error ≡ error
  pub counts_are : stopped.counts ≡ no_counts
