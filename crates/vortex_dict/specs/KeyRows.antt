-- The rows that keys stand for.
use Rattle.std.specs.Prelude.{ℕ, ℤ, List, Option, Some, None}
use Rattle.vortex_terms.specs.Row.{Row, null_row, bytes_row, whole_row}

-- bytes, or null
abbrev pub bytes_or_null : Option (List ℕ) → Row
bytes_or_null None = null_row
bytes_or_null (Some bytes) = bytes_row bytes

-- the number that a value is, or null
abbrev pub number_or_null : {T : Type 0} → (T → ℤ) → Option T → Row
number_or_null number None = null_row
number_or_null number (Some value) = whole_row (number value)
