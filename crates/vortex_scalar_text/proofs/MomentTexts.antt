-- The texts of moments are those that jiff prints.
use Rattle.std.proofs.Common.{◌≡◌, ◌+◌, ◌/◌, ◌%◌, ◌<◌, ◌≤◌, ℕ, zero, suc, ℤ, pos, negsuc, ◌+ℤ◌, ◌-ℤ◌, ◌<ℤ◌, ◌≤ℤ◌, Bool, true, false, [], ◌∷◌, ◌++◌, None, inl, inr, refl, sym, ap, ◌∙◌, arith}
use Rattle.std.specs.Prelude.{int_le, unsigned_abs, if◌then◌else◌}
use Rattle.std.specs.Int.{int_rem_euclid}
use Rattle.std.proofs.lemmas.Bool.{cases_order}
use Rattle.std.proofs.lemmas.Int.{ints}
use Rattle.jiff.specs.Types.{Date, DateTime, Time}
use Rattle.jiff.specs.Words.{epoch_day, time_nanos, civil_nanos, date_text, time_text, iso_datetime_text}
use Rattle.jiff.proofs.Family.{civil_nanos-parts, time_nanos_bound, epoch_day-civil_nanos, days_from_civil-day}
use Rattle.jiff_core.specs.Calendar.{days_from_civil}
use Rattle.jiff_core.proofs.SignedLemmas.{signed_arith}
use Rattle.jiff_core.proofs.CalendarLemmas.{days_from_civil-day_count, day_count-lt_year, day_count-lt_month, day_count-day_of_year}
use Rattle.jiff_core.proofs.DateLemmas.{civil}
use Rattle.vortex_time.specs.Jiff.{civil_moment, civil_text}
use Rattle.vortex_time.specs.declared.values.CivilJiff.{CivilJiff}
use Rattle.vortex_time.specs.declared.values.CivilJiff.TheVariants as unzoned
use Rattle.vortex_scalar_text.specs.MomentText.{last_at_most, year_of, month_of, day_of, day_text, clock_text, moment_text}

-- ---- the last place

-- a place is the last where f is at most z there, and above z behind it
last_is : (f : ℕ → ℤ) (n k : ℕ) (z : ℤ) → k ≤ n → f k ≤ℤ z → ((j : ℕ) → k < j → j ≤ n → z <ℤ f j) → last_at_most f n z ≡ k
unfolding last_at_most
last_is f zero k z within low high = omega (arith, within)
last_is f (suc n) k z within low high =
    by (λ le. last_is f n k z le low (λ j lt most. high j lt (omega (arith, most)))) (int_le (f (suc n)) z) refl
  where
    here : int_le (f (suc n)) z ≡ true → suc n ≡ k
    here e = elim (cases_order k (suc n)) [
      | inl same ↦ sym same
      | inr (inl lt) ↦ absurd (omega (arith, ints, high (suc n) lt (omega arith), e))
      | inr (inr gt) ↦ absurd (omega (arith, within))
    ]

    before : int_le (f (suc n)) z ≡ false → k ≤ n
    before e = elim (cases_order k (suc n)) [
      | inl same ↦ absurd (omega (arith, ints, rw same at low, e))
      | inr (inl lt) ↦ omega (arith, lt)
      | inr (inr gt) ↦ absurd (omega (arith, within))
    ]

    by : (k ≤ n → last_at_most f n z ≡ k) → (b : Bool) → int_le (f (suc n)) z ≡ b → (if b then suc n else last_at_most f n z) ≡ k
    by again true e = here e
    by again false e = again (before e)

-- ---- dates

abs_of : (z : ℤ) → pos 0 ≤ℤ z → pos (unsigned_abs z) ≡ z
abs_of (pos n) h = refl
abs_of (negsuc n) h = absurd (omega (arith, ints, h))

year_low : (d : Date) → days_from_civil d.year 1 1 ≤ℤ epoch_day d
year_low d = omega (arith, signed_arith, days_from_civil-day_count, day_count-day_of_year d.year d.month d.day d.day_in.0)

year_high : (d : Date) (y : ℤ) → d.year <ℤ y → epoch_day d <ℤ days_from_civil y 1 1
year_high d y lt = omega (arith, signed_arith, days_from_civil-day_count, day_count-lt_year d.year d.month d.day y 1 1 (civil d) (omega arith) lt)

pub year_is : (d : Date) → year_of (epoch_day d) ≡ d.year
unfolding year_of
year_is d =
    let k = unsigned_abs (d.year +ℤ pos 10_000) in
    let place : pos k ≡ d.year +ℤ pos 10_000 = abs_of (d.year +ℤ pos 10_000) (omega (arith, signed_arith, d.year_in.0)) in
    let back : pos k -ℤ pos 10_000 ≡ d.year = omega (arith, signed_arith, place) in
    let low : days_from_civil (pos k -ℤ pos 10_000) 1 1 ≤ℤ epoch_day d = rw back (year_low d) in
    let last = last_is (λ j. days_from_civil (pos j -ℤ pos 10_000) 1 1) 19_999 k (epoch_day d) (omega (arith, signed_arith, place, d.year_in.1)) low (λ j lt le. year_high d (pos j -ℤ pos 10_000) (omega (arith, signed_arith, lt, back))) in
    ap (λ n. pos n -ℤ pos 10_000) last ∙ back

month_low : (d : Date) → days_from_civil d.year d.month 1 ≤ℤ epoch_day d
month_low d = omega (arith, signed_arith, days_from_civil-day d.year d.month d.day 1 d.day_in.0 (omega arith), d.day_in.0)

month_high : (d : Date) (m : ℕ) → d.month < m → epoch_day d <ℤ days_from_civil d.year m 1
month_high d m lt = omega (arith, signed_arith, days_from_civil-day_count, day_count-lt_month d.year d.month d.day m 1 (civil d) (omega arith) lt)

pub month_is : (d : Date) → month_of (epoch_day d) ≡ d.month
unfolding month_of
month_is d =
    let last = last_is (λ m. days_from_civil d.year m 1) 12 d.month (epoch_day d) d.month_in.1 (month_low d) (λ m lt le. month_high d m lt) in
    ap (λ y. last_at_most (λ m. days_from_civil y m 1) 12 (epoch_day d)) (year_is d) ∙ last

pub day_is : (d : Date) → day_of (epoch_day d) ≡ d.day
unfolding day_of
day_is d =
    let first = days_from_civil-day d.year d.month d.day 1 d.day_in.0 (omega arith) in
    let behind = abs_of (epoch_day d -ℤ days_from_civil d.year d.month 1) (omega (arith, signed_arith, first, d.day_in.0)) in
    let place : unsigned_abs (epoch_day d -ℤ days_from_civil d.year d.month 1) + 1 ≡ d.day = omega (arith, signed_arith, first, behind, d.day_in.0) in
    (λ i. unsigned_abs (epoch_day d -ℤ days_from_civil (year_is d i) (month_is d i) 1) + 1) ∙ place

date_shown : (d : Date) → day_text (epoch_day d) ≡ date_text d
date_shown d = rw (year_is d, month_is d, day_is d) refl

-- ---- times

hour_is : (t : Time) → time_nanos t / 3_600_000_000_000 ≡ t.hour
hour_is t = omega arith

minute_is : (t : Time) → time_nanos t / 60_000_000_000 % 60 ≡ t.minute
minute_is t = omega arith

second_is : (t : Time) → time_nanos t / 1_000_000_000 % 60 ≡ t.second
second_is t = omega arith

fraction_is : (t : Time) → time_nanos t % 1_000_000_000 ≡ t.subsec_nanosecond
fraction_is t = omega arith

time_shown : (t : Time) → clock_text (time_nanos t) ≡ time_text None t
time_shown t = rw (hour_is t, minute_is t, second_is t, fraction_is t) refl

-- ---- dates with a time

rest_is : (dt : DateTime) → unsigned_abs (int_rem_euclid (civil_nanos dt) (pos 86_400_000_000_000)) ≡ time_nanos dt.time
rest_is dt = omega (arith, signed_arith, civil_nanos-parts dt, time_nanos_bound dt.time)

both_shown : (dt : DateTime) → moment_text (civil_moment (unzoned.Unzoned dt)) ≡ iso_datetime_text dt
both_shown dt =
    (λ i. day_text (sym (epoch_day-civil_nanos dt) i) ++ 84 ∷ clock_text (rest_is dt i))
    ∙ (λ i. date_shown dt.date i ++ 84 ∷ time_shown dt.time i)

-- what is printed of a value of jiff is the text of its moment
pub text_is : (c : CivilJiff) → moment_text (civil_moment c) ≡ civil_text c
text_is (unzoned.Time t) = time_shown t
text_is (unzoned.Date d) = date_shown d
text_is (unzoned.Unzoned dt) = both_shown dt
