-- The status and the note of a run.
use Rattle.std.specs.Prelude.{ℕ, List, ◌++◌, Option, Some, None, codes, decimal}
use Rattle.vortex_select.specs.declared.error.SelectError.TheVariants.{ReadFault, WriteFault, ReadLimit, OutOfMemory, Unbuilt}
use Rattle.vortex_select.specs.declared.report.RowCounts.{RowCounts}
use Rattle.vortex_select.specs.declared.report.RunFault.{RunFault}
use Rattle.vortex_select.specs.declared.report.RunFault.TheVariants.{BadWords, Select}

-- the exit status
abbrev pub status_of : Option RunFault → ℕ
status_of None = 0
status_of (Some BadWords) = 2
status_of (Some (Select ReadLimit)) = 6
status_of (Some (Select ReadFault)) = 7
status_of (Some (Select WriteFault)) = 8
status_of (Some (Select OutOfMemory)) = 9
status_of (Some (Select Unbuilt)) = 10

-- the name that the note tells of a fault
abbrev pub name_of : RunFault → List ℕ
name_of BadWords = codes "BadWords"
name_of (Select ReadFault) = codes "ReadFault"
name_of (Select WriteFault) = codes "WriteFault"
name_of (Select ReadLimit) = codes "ReadLimit"
name_of (Select OutOfMemory) = codes "OutOfMemory"
name_of (Select Unbuilt) = codes "Unbuilt"

-- the one line of the note
abbrev pub note_of : RowCounts → Option RunFault → List ℕ
note_of counts None =
    codes "arrays " ++ decimal counts.arrays ++ codes ", read " ++ decimal counts.read
    ++ codes ", kept " ++ decimal counts.kept ++ codes "\n"
note_of counts (Some fault) = codes "error: " ++ name_of fault ++ codes "\n"

-- the counts of no array
abbrev pub no_counts : RowCounts
no_counts = record { arrays = 0; read = 0; kept = 0 }
