-- Which time a number is: days and nanoseconds are whole numbers, dates those of the calendar.
--     Moment        a time of day, a date, a date with a time, or an instant in a zone
--     moment_of     the moment of a number under metadata, or the first refusal
--     unzoned_of    the same from an id and bytes, where a zone is refused
use Rattle.std.specs.Prelude.{ℕ, ℤ, pos, neg_ℤ, int_le, int_lt, int_div, Bool, true, false, ◌&&◌}
use Rattle.std.specs.Prelude.{if◌then◌else◌, List, Option, Some, None, Result, Ok, Err}
use Rattle.std.specs.Int.{int_div_euclid}
use Rattle.jiff.specs.Types.{TimeZone}
use Rattle.vortex_time.specs.Metadata.{Metadata, time, date, timestamp, metadata_of}
use Rattle.vortex_time.specs.Units.{nanos_of}
use Rattle.vortex_time.specs.declared.error.TemporalError.{TemporalError}
use Rattle.vortex_time.specs.declared.error.TemporalError.TheVariants as error
use Rattle.vortex_time.specs.declared.unit.TimeUnit.{TimeUnit}
use Rattle.vortex_time.specs.declared.unit.TimeUnit.TheVariants.{Milliseconds, Days}

pub data Moment : Type 0 where
  -- nanoseconds since midnight
  clock : ℤ → Moment
  -- days since 1970-01-01
  day : ℤ → Moment
  -- nanoseconds since 1970-01-01T00:00:00, in no zone
  civil : ℤ → Moment
  -- nanoseconds since the Unix epoch, shown in a zone
  zoned : ℤ → TimeZone → Moment

-- ---- ranges

-- from midnight to the last nanosecond of the day
abbrev pub is_clock : ℤ → Bool
is_clock n = int_le (pos 0) n && int_lt n (pos 86_400_000_000_000)

-- from -9999-01-01 to 9999-12-31
abbrev pub is_day : ℤ → Bool
is_day d = int_le (neg_ℤ (pos 4_371_587)) d && int_le d (pos 2_932_896)

-- from the least to the greatest instant that is a date in every zone
abbrev pub is_instant : ℤ → Bool
is_instant n =
    int_le (neg_ℤ (pos 377_705_023_201_000_000_000)) n
    && int_le n (pos 253_402_207_200_999_999_999)

-- the day in which a date with a time lies
abbrev pub civil_day : ℤ → ℤ
civil_day n = int_div_euclid n (pos 86_400_000_000_000)

-- ---- units

-- times of day and timestamps have no days
abbrev pub is_clock_unit : TimeUnit → Bool
is_clock_unit Days = false
is_clock_unit _ = true

-- dates have days and milliseconds
abbrev pub is_date_unit : TimeUnit → Bool
is_date_unit Days = true
is_date_unit Milliseconds = true
is_date_unit _ = false

abbrev pub allows : Metadata → Bool
allows (time unit) = is_clock_unit unit
allows (date unit) = is_date_unit unit
allows (timestamp unit _) = is_clock_unit unit

-- the day of a date, of which milliseconds are a fraction that is dropped toward zero
abbrev pub day_of : TimeUnit → ℤ → ℤ
day_of Milliseconds v = int_div v (pos 86_400_000)
day_of _ v = v

-- ---- values

abbrev pub held : Bool → Moment → Result Moment TemporalError
held true moment = Ok moment
held false moment = Err error.OutOfRange

-- the instant of a timestamp that names a zone, in the zone that was handed in
abbrev pub instant_in : TimeUnit → ℤ → Option TimeZone → Result Moment TemporalError
instant_in unit v None = Err error.ZoneNeeded
instant_in unit v (Some zone) =
    held (is_instant (nanos_of unit v)) (zoned (nanos_of unit v) zone)

-- the moment where the unit is allowed
abbrev pub moment_in : Metadata → ℤ → Option TimeZone → Result Moment TemporalError
moment_in (time unit) v _ = held (is_clock (nanos_of unit v)) (clock (nanos_of unit v))
moment_in (date unit) v _ = held (is_day (day_of unit v)) (day (day_of unit v))
moment_in (timestamp unit None) v _ =
    held (is_day (civil_day (nanos_of unit v))) (civil (nanos_of unit v))
moment_in (timestamp unit (Some name)) v zone = instant_in unit v zone

-- the moment, or the first refusal
abbrev pub moment_of : Metadata → ℤ → Option TimeZone → Result Moment TemporalError
moment_of m v zone = if allows m then moment_in m v zone else Err error.UnitNotAllowed

-- the same where no zone is handed in, and none may be named
abbrev pub civil_of : Metadata → ℤ → Result Moment TemporalError
civil_of (timestamp unit (Some name)) v = Err error.ZoneNeeded
civil_of m v = moment_of m v None

abbrev pub unzoned_by : Result Metadata TemporalError → ℤ → Result Moment TemporalError
unzoned_by (Ok m) v = civil_of m v
unzoned_by (Err e) v = Err e

-- the same from an id and bytes
abbrev pub unzoned_of : List ℕ → Option (List ℕ) → ℤ → Result Moment TemporalError
unzoned_of id bytes v = unzoned_by (metadata_of id bytes) v
