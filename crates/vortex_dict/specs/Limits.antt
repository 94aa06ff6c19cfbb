-- The limits of a dictionary.
use Rattle.std.specs.Prelude.{ℕ, ◌+◌, ◌/◌, min, pos, Bool, not, ◌||◌, ◌&&◌, nat_le, nat_lt}
use Rattle.std.specs.Prelude.{if◌then◌else◌, List, length}
use Rattle.std.specs.List.{sum_by}
use Rattle.vortex_number.specs.Format.{Format, fits}
use Rattle.vortex_terms.specs.Row.{Row, bytes_row, is_null}
use Rattle.vortex_dict.specs.declared.constraints.DictConstraints.{DictConstraints}

-- what is kept of rows, with the limits
pub record Dictionary : Type 0 where
  pub values : List Row
  pub constraints : DictConstraints

-- ---- bytes

-- the bytes that a value has
abbrev pub byte_count : Row → ℕ
byte_count (bytes_row bytes) = length bytes
byte_count _ = 0

-- what a value counts for: 16, and its length where that is above 12
abbrev pub counted : Row → ℕ
counted r = 16 + (if nat_le (byte_count r) 12 then 0 else byte_count r)

-- whether a value beside so many that count so much is over a limit: its place is no number of the
-- code type, the values are as many as they may be, or it is no null and would count too much
abbrev pub over_by : Format → DictConstraints → ℕ → ℕ → Row → Bool
over_by code limits count bytes r = not (fits code (pos count)) || nat_le limits.max_len count
    || (not (is_null r) && nat_lt limits.max_bytes (bytes + counted r))

-- the same beside values
abbrev pub bytes_over : Format → DictConstraints → List Row → Row → Bool
bytes_over code limits values r = over_by code limits (length values) (sum_by counted values) r

-- ---- whole numbers

-- how many values of a width there may be
abbrev pub most_values : ℕ → DictConstraints → ℕ
most_values width limits = min limits.max_len (limits.max_bytes / width)

-- whether a value is over a limit: its place is no number of the code type, or the values are as
-- many as they may be
abbrev pub numbers_over : Format → ℕ → DictConstraints → List Row → Row → Bool
numbers_over code width limits values r = not (fits code (pos (length values)))
    || nat_le (most_values width limits) (length values)
