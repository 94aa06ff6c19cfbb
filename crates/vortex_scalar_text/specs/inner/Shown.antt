-- What is printed of a time that is there, and which errors tell that metadata is not read: `shown_text`,
-- `is_of_metadata`.
use Rattle.std.specs.Prelude.{ℕ, Bool, true, false, List, codes, Option, Some, None}
use Rattle.vortex_time.specs.Jiff.{civil_text}
use Rattle.vortex_time.specs.declared.error.TemporalError.{TemporalError}
use Rattle.vortex_time.specs.declared.error.TemporalError.TheVariants as error
use Rattle.vortex_time.specs.declared.values.CivilJiff.{CivilJiff}

-- a time as jiff prints it, and null where there is none
abbrev pub shown_text : Option CivilJiff → List ℕ
shown_text (Some c) = civil_text c
shown_text None = codes "null"

abbrev pub is_of_metadata : TemporalError → Bool
is_of_metadata error.MissingMetadata = true
is_of_metadata error.NotTemporal = true
is_of_metadata error.ShortMetadata = true
is_of_metadata error.BadUnit = true
is_of_metadata error.BadZone = true
is_of_metadata _ = false
