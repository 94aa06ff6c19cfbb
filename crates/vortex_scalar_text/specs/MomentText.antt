-- How moments are printed, as jiff prints them.
--     moment_text     of a time of day 00:03:25, of a day 1971-01-01, of both 1971-01-01T00:03:25
use Rattle.std.specs.Prelude.{ℕ, zero, suc, ◌+◌, ◌/◌, ◌%◌, ℤ, pos, ◌-ℤ◌, int_le, unsigned_abs}
use Rattle.std.specs.Prelude.{if◌then◌else◌, List, [], ◌∷◌, ◌++◌, None}
use Rattle.std.specs.Int.{int_rem_euclid}
use Rattle.jiff_core.specs.Calendar.{days_from_civil}
use Rattle.jiff_fmt.specs.Text.{pad2, year_text, fraction_part}
use Rattle.vortex_time.specs.Moments.{Moment, clock, day, civil, zoned, civil_day}

-- the last place of 0 to n at which f is at most z
unfoldable pub last_at_most : (ℕ → ℤ) → ℕ → ℤ → ℕ
last_at_most f zero z = 0
last_at_most f (suc n) z = if int_le (f (suc n)) z then suc n else last_at_most f n z

-- the last year, up to 9999, whose first day is at most this one
unfoldable pub year_of : ℤ → ℤ
year_of z =
    pos (last_at_most (λ k. days_from_civil (pos k -ℤ pos 10_000) 1 1) 19_999 z) -ℤ pos 10_000

-- its last month whose first day is at most this one
unfoldable pub month_of : ℤ → ℕ
month_of z = last_at_most (λ m. days_from_civil (year_of z) m 1) 12 z

-- the place in the month, from 1
unfoldable pub day_of : ℤ → ℕ
day_of z = unsigned_abs (z -ℤ days_from_civil (year_of z) (month_of z) 1) + 1

-- the date that is so many days after 1970-01-01
abbrev pub day_text : ℤ → List ℕ
day_text z = year_text (year_of z) ++ 45 ∷ [] ++ pad2 (month_of z) ++ 45 ∷ [] ++ pad2 (day_of z)

-- the time that is so many nanoseconds after midnight
abbrev pub clock_text : ℕ → List ℕ
clock_text n =
    pad2 (n / 3_600_000_000_000) ++ 58 ∷ pad2 (n / 60_000_000_000 % 60)
    ++ 58 ∷ pad2 (n / 1_000_000_000 % 60) ++ fraction_part None (n % 1_000_000_000)

-- an instant in a zone is not printed
abbrev pub moment_text : Moment → List ℕ
moment_text (clock n) = clock_text (unsigned_abs n)
moment_text (day z) = day_text z
moment_text (civil n) =
    day_text (civil_day n)
    ++ 84 ∷ clock_text (unsigned_abs (int_rem_euclid n (pos 86_400_000_000_000)))
moment_text (zoned n zone) = []
