-- Units of time: their tags and texts, how long they are, and how many of them a span may have.
--     unit_tag, unit_of     the tag of a unit, and the unit of a tag
--     nanos_in, nanos_of    how many nanoseconds a unit and a number of units have
--     span_limit, span_unit the most of a unit that a span takes, and the unit of spans
use Rattle.std.specs.Prelude.{ℕ, ℤ, pos, ◌*ℤ◌, ◌==◌, if◌then◌else◌, List, ◌∷◌, codes}
use Rattle.std.specs.Prelude.{Result, Ok, Err}
use Rattle.jiff.specs.Types.{TimeUnit as SpanUnit, Nanosecond, Microsecond, Millisecond, Second, Day}
use Rattle.vortex_time.specs.declared.error.TemporalError.{TemporalError}
use Rattle.vortex_time.specs.declared.error.TemporalError.TheVariants.{BadUnit}
use Rattle.vortex_time.specs.declared.unit.TimeUnit.{TimeUnit}
use Rattle.vortex_time.specs.declared.unit.TimeUnit.TheVariants.{Nanoseconds, Microseconds}
use Rattle.vortex_time.specs.declared.unit.TimeUnit.TheVariants.{Milliseconds, Seconds, Days}

-- the tag of a unit where it is written
abbrev pub unit_tag : TimeUnit → ℕ
unit_tag Nanoseconds = 0
unit_tag Microseconds = 1
unit_tag Milliseconds = 2
unit_tag Seconds = 3
unit_tag Days = 4

-- the unit of a tag
abbrev pub unit_of : ℕ → Result TimeUnit TemporalError
unit_of n =
    if n == 0 then Ok Nanoseconds else (if n == 1 then Ok Microseconds
    else (if n == 2 then Ok Milliseconds else (if n == 3 then Ok Seconds
    else (if n == 4 then Ok Days else Err BadUnit))))

-- how many nanoseconds a unit has
abbrev pub nanos_in : TimeUnit → ℕ
nanos_in Nanoseconds = 1
nanos_in Microseconds = 1_000
nanos_in Milliseconds = 1_000_000
nanos_in Seconds = 1_000_000_000
nanos_in Days = 86_400_000_000_000

-- so many units in nanoseconds
abbrev pub nanos_of : TimeUnit → ℤ → ℤ
nanos_of unit v = v *ℤ pos (nanos_in unit)

-- the most of a unit that a span takes, with no sign
abbrev pub span_limit : TimeUnit → ℕ
span_limit Nanoseconds = 9_000_000_000_000_000_000
span_limit Microseconds = 400_000_000_000_000_000
span_limit Milliseconds = 400_000_000_000_000
span_limit Seconds = 400_000_000_000
span_limit Days = 5_000_000

-- the unit of spans
abbrev pub span_unit : TimeUnit → SpanUnit
span_unit Nanoseconds = Nanosecond
span_unit Microseconds = Microsecond
span_unit Milliseconds = Millisecond
span_unit Seconds = Second
span_unit Days = Day

-- how a unit is printed; 194 and 181 are the bytes of µ
abbrev pub unit_text : TimeUnit → List ℕ
unit_text Nanoseconds = codes "ns"
unit_text Microseconds = 194 ∷ 181 ∷ codes "s"
unit_text Milliseconds = codes "ms"
unit_text Seconds = codes "s"
unit_text Days = codes "days"
