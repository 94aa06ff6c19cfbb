-- The number of each error of numbers and values: `error_number`.
use Rattle.std.specs.Prelude.{ℕ}
use Rattle.vortex_number.specs.declared.error.ValueError.{ValueError}
use Rattle.vortex_number.specs.declared.error.ValueError.TheVariants as error

-- the number of an error, from 1 in the order of the variants
abbrev pub error_number : ValueError → ℕ
error_number error.OutOfRange = 1
error_number error.BadLength = 2
error_number error.OutOfMemory = 3
