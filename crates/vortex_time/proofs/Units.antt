-- A length of time in a unit, and what it comes to.
use Rattle.std.proofs.Common.{◌≡◌, ℤ, Bool, true, false, ap, ◌∙◌, Result, Ok, Err, Some, None}
use Rattle.std.specs.Prelude.{if◌then◌else◌}
use Rattle.jiff.specs.Types.{TimeZone}
use Rattle.vortex_time.specs.Metadata.{timestamp}
use Rattle.vortex_time.specs.Moments.{Moment, civil, zoned, held, is_day, is_instant, civil_day, is_clock_unit, instant_in, moment_of}
use Rattle.vortex_time.specs.Units.{nanos_of}
use Rattle.vortex_time.specs.declared.unit.TimeUnit.{TimeUnit}
use Rattle.vortex_time.specs.declared.error.TemporalError.{TemporalError}
use Rattle.vortex_time.specs.declared.error.TemporalError.TheVariants.{UnitNotAllowed}

abbrev value_of : Result ℤ TemporalError → ℤ → ℤ
value_of (Ok n) d = n
value_of (Err e) d = d

ok_same : (m n : ℤ) → ◌≡◌ {A = Result ℤ TemporalError} (Ok m) (Ok n) → m ≡ n
ok_same m n e = ap (λ r. value_of r m) e

ok_err : {P : Type 0} (m : ℤ) (e : TemporalError) → ◌≡◌ {A = Result ℤ TemporalError} (Ok m) (Err e) → P
ok_err m e h = cc

-- what the answer of a length says, by whether the unit is one of the clock
by_unit : (b : Bool) (m n : ℤ) (f : ℤ → Result Moment TemporalError) (r : Result Moment TemporalError) → ◌≡◌ {A = Result ℤ TemporalError} (Ok m) (if b then Ok n else Err UnitNotAllowed) → r ≡ f m → r ≡ (if b then f n else Err UnitNotAllowed)
by_unit true m n f r e k = k ∙ ap f (ok_same m n e)
by_unit false m n f r e k = ok_err m UnitNotAllowed e

pub civil_by : (unit : TimeUnit) (v m : ℤ) (r : Result Moment TemporalError) → ◌≡◌ {A = Result ℤ TemporalError} (Ok m) (if is_clock_unit unit then Ok (nanos_of unit v) else Err UnitNotAllowed) → r ≡ held (is_day (civil_day m)) (civil m) → r ≡ moment_of (timestamp unit None) v None
civil_by unit v m r e k =
    by_unit (is_clock_unit unit) m (nanos_of unit v) (λ n. held (is_day (civil_day n)) (civil n)) r e k

pub instant_by : (unit : TimeUnit) (v m : ℤ) (zone : TimeZone) (r : Result Moment TemporalError) → ◌≡◌ {A = Result ℤ TemporalError} (Ok m) (if is_clock_unit unit then Ok (nanos_of unit v) else Err UnitNotAllowed) → r ≡ held (is_instant m) (zoned m zone) → r ≡ (if is_clock_unit unit then instant_in unit v (Some zone) else Err UnitNotAllowed)
instant_by unit v m zone r e k =
    by_unit (is_clock_unit unit) m (nanos_of unit v) (λ n. held (is_instant n) (zoned n zone)) r e k
