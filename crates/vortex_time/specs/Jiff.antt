-- Which moments the values of jiff are, and how they print: `jiff_moment`, `jiff_text`.
use Rattle.std.specs.Prelude.{ℕ, pos, List, None}
use Rattle.jiff.specs.Types.{Time as PlainTime, Date as PlainDate, DateTime}
use Rattle.jiff.specs.Words.{time_nanos, epoch_day, civil_nanos, zoned_nanos, plain_zoned}
use Rattle.jiff.specs.Words.{time_text, date_text, iso_datetime_text, zoned_text}
use Rattle.jiff.specs.declared.zoned.Zoned.{Zoned as JiffZoned}
use Rattle.vortex_time.specs.Moments.{Moment, clock, day, civil, zoned}
use Rattle.vortex_time.specs.declared.values.TemporalJiff.{TemporalJiff}
use Rattle.vortex_time.specs.declared.values.TemporalJiff.TheVariants as any
use Rattle.vortex_time.specs.declared.values.CivilJiff.{CivilJiff}
use Rattle.vortex_time.specs.declared.values.CivilJiff.TheVariants as unzoned

abbrev pub time_moment : PlainTime → Moment
time_moment t = clock (pos (time_nanos t))

abbrev pub date_moment : PlainDate → Moment
date_moment d = day (epoch_day d)

abbrev pub datetime_moment : DateTime → Moment
datetime_moment dt = civil (civil_nanos dt)

abbrev pub zoned_moment : JiffZoned → Moment
zoned_moment z = zoned (zoned_nanos z) (plain_zoned z).time_zone

-- the moment that a value is
abbrev pub jiff_moment : TemporalJiff → Moment
jiff_moment (any.Time t) = time_moment t
jiff_moment (any.Date d) = date_moment d
jiff_moment (any.Unzoned dt) = datetime_moment dt
jiff_moment (any.Zoned z) = zoned_moment z

abbrev pub civil_moment : CivilJiff → Moment
civil_moment (unzoned.Time t) = time_moment t
civil_moment (unzoned.Date d) = date_moment d
civil_moment (unzoned.Unzoned dt) = datetime_moment dt

-- its text, as jiff prints it
abbrev pub jiff_text : TemporalJiff → List ℕ
jiff_text (any.Time t) = time_text None t
jiff_text (any.Date d) = date_text d
jiff_text (any.Unzoned dt) = iso_datetime_text dt
jiff_text (any.Zoned z) = zoned_text (plain_zoned z)

abbrev pub civil_text : CivilJiff → List ℕ
civil_text (unzoned.Time t) = time_text None t
civil_text (unzoned.Date d) = date_text d
civil_text (unzoned.Unzoned dt) = iso_datetime_text dt
