-- What the calls of jiff take, as the tests of ranges: where a test holds and where it does not.
use Rattle.std.proofs.Common.{◌≡◌, ◌≤◌, ◌/◌, ℕ, suc, ℤ, pos, negsuc, ◌+ℤ◌, ◌-ℤ◌, Bool, true, false, refl, ap, ◌∙◌, arith, Result, Ok, Err}
use Rattle.std.proofs.lemmas.Int.{ints}
use Rattle.jiff.specs.Types.{Date, DateTime, Span, Day}
use Rattle.jiff.specs.Words.{IsEpochDay, IsCivilNanos, IsYmd, IsHms, IsOnly, CanAddToDate, date_add, epoch_day, time_nanos, civil_nanos}
use Rattle.jiff_core.specs.Calendar.{days_from_civil, day_count}
use Rattle.jiff.proofs.Family.{civil_nanos-parts}
use Rattle.jiff.proofs.SpanFacts.{date_add-days, can_add-days}
use Rattle.vortex_time.specs.Moments.{Moment, day, civil, held, is_day, civil_day}
use Rattle.vortex_time.specs.declared.error.TemporalError.{TemporalError}
use Rattle.vortex_time.specs.declared.error.TemporalError.TheVariants.{OutOfRange}

-- ---- a moment that is held, and one that is not

is_held : (b : Bool) (m w : Moment) → b ≡ true → m ≡ w → ◌≡◌ {A = Result Moment TemporalError} (Ok m) (held b w)
is_held b m w e k = rw (e, k) refl

is_lost : (b : Bool) (w : Moment) → (b ≡ true → ⊥) → ◌≡◌ {A = Result Moment TemporalError} (Err OutOfRange) (held b w)
is_lost true w h = absurd (h refl)
is_lost false w h = refl

-- ---- dates with a time

minus_self : (n : ℕ) → pos n -ℤ pos n ≡ pos 0
minus_self n = omega (arith, ints)

zero_day : days_from_civil (pos 1970) 1 1 ≡ pos 0
unfolding days_from_civil
zero_day = minus_self (day_count (pos 1970) 1 1)

-- 1970-01-01
pub epoch_is : (d : Date) → IsYmd (pos 1970) (pos 1) (pos 1) d → epoch_day d ≡ pos 0
epoch_is d h =
    let month : d.month ≡ 1 = omega (arith, ints, h.1) in
    let day : d.day ≡ 1 = omega (arith, ints, h.2) in
    rw (h.0, month, day) zero_day

-- the first nanosecond of 1970
pub start_is : (d : Date) (dt : DateTime) → epoch_day d ≡ pos 0 → dt.date ≡ d → IsHms (pos 0) (pos 0) (pos 0) (pos 0) dt.time → civil_nanos dt ≡ pos 0
start_is d dt z e h =
    let t : time_nanos dt.time ≡ 0 = omega (arith, ints, h) in
    civil_nanos-parts dt ∙ rw (e, z, t) refl

day_holds : (d : ℤ) → IsEpochDay d → is_day d ≡ true
day_holds d h = grind (arith, ints, h.0, h.1)

day_range : (d : ℤ) → is_day d ≡ true → IsEpochDay d
day_range d e = grind (arith, ints, e)

-- the day of nanoseconds that a date with a time has, and the other way
civil_in : (n : ℤ) → IsCivilNanos n → IsEpochDay (civil_day n)
civil_in (pos a) h =
    let most : a ≤ 253_402_300_799_999_999_999 = omega (arith, ints, h.1) in
    let days : a / 86_400_000_000_000 ≤ 2_932_896 = omega (arith, most) in
    omega (arith, ints, days)
civil_in (negsuc a) h =
    let most : suc a ≤ 377_705_116_800_000_000_000 = omega (arith, ints, h.0) in
    let days : suc (a / 86_400_000_000_000) ≤ 4_371_587 = omega (arith, most) in
    omega (arith, ints, days)

civil_out : (n : ℤ) → IsEpochDay (civil_day n) → IsCivilNanos n
civil_out (pos a) h =
    let days : a / 86_400_000_000_000 ≤ 2_932_896 = omega (arith, ints, h.1) in
    let most : a ≤ 253_402_300_799_999_999_999 = omega (arith, days) in
    omega (arith, ints, most)
civil_out (negsuc a) h =
    let days : suc (a / 86_400_000_000_000) ≤ 4_371_587 = omega (arith, ints, h.0) in
    let most : suc a ≤ 377_705_116_800_000_000_000 = omega (arith, days) in
    omega (arith, ints, most)

pub datetime_found : (s m n : ℤ) → s ≡ pos 0 → m ≡ s +ℤ n → IsCivilNanos (s +ℤ n) → ◌≡◌ {A = Result Moment TemporalError} (Ok (civil m)) (held (is_day (civil_day n)) (civil n))
datetime_found s m n z e h =
    let k : s +ℤ n ≡ n = omega (arith, ints, z) in
    is_held _ _ _ (day_holds _ (civil_in n (rw k at h))) (ap civil (e ∙ k))

pub datetime_lost : (s n : ℤ) → s ≡ pos 0 → (IsCivilNanos (s +ℤ n) → ⊥) → ◌≡◌ {A = Result Moment TemporalError} (Err OutOfRange) (held (is_day (civil_day n)) (civil n))
datetime_lost s n z h =
    let k : n ≡ s +ℤ n = omega (arith, ints, z) in
    is_lost _ _ (λ e. h (rw k at (civil_out n (day_range _ e))))

-- ---- dates

pub date_found : (d e : Date) (n : ℤ) (span : Span) → epoch_day d ≡ pos 0 → IsOnly Day n span → epoch_day e ≡ date_add d span → CanAddToDate d span → ◌≡◌ {A = Result Moment TemporalError} (Ok (day (epoch_day e))) (held (is_day n) (day n))
date_found d e n span z only same can =
    let k : epoch_day d +ℤ n ≡ n = omega (arith, ints, z) in
    let inside : IsEpochDay (epoch_day d +ℤ n) = (can_add-days d n span only).0 can in
    is_held _ _ _ (day_holds n (rw k at inside)) (ap day (same ∙ date_add-days d n span only ∙ k))

pub date_lost : (d : Date) (n : ℤ) (span : Span) → epoch_day d ≡ pos 0 → IsOnly Day n span → (CanAddToDate d span → ⊥) → ◌≡◌ {A = Result Moment TemporalError} (Err OutOfRange) (held (is_day n) (day n))
date_lost d n span z only h =
    let k : n ≡ epoch_day d +ℤ n = omega (arith, ints, z) in
    is_lost _ _ (λ e. h ((can_add-days d n span only).1 (rw k at (day_range n e))))
