-- The number of each error of times and JSON: `error_number`.
use Rattle.std.specs.Prelude.{ℕ}
use Rattle.vortex_time.specs.declared.error.TemporalError.{TemporalError}
use Rattle.vortex_time.specs.declared.error.TemporalError.TheVariants.{MissingMetadata, NotTemporal}
use Rattle.vortex_time.specs.declared.error.TemporalError.TheVariants.{ShortMetadata, BadUnit}
use Rattle.vortex_time.specs.declared.error.TemporalError.TheVariants.{BadZone, ZoneTooLong}
use Rattle.vortex_time.specs.declared.error.TemporalError.TheVariants.{UnitNotAllowed, ZoneNeeded}
use Rattle.vortex_time.specs.declared.error.TemporalError.TheVariants.{OutOfRange, BadJson}
use Rattle.vortex_time.specs.declared.error.TemporalError.TheVariants.{OutOfMemory}

-- the number of an error
abbrev pub error_number : TemporalError → ℕ
error_number MissingMetadata = 1
error_number NotTemporal = 2
error_number ShortMetadata = 3
error_number BadUnit = 4
error_number BadZone = 5
error_number ZoneTooLong = 6
error_number UnitNotAllowed = 7
error_number ZoneNeeded = 8
error_number OutOfRange = 9
error_number BadJson = 10
error_number OutOfMemory = 11
