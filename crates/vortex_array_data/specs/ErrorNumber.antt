-- The number of each error of arrays: `error_number`.
use Rattle.std.specs.Prelude.{ℕ}
use Rattle.vortex_array_data.specs.declared.error.ArrayError.{ArrayError}
use Rattle.vortex_array_data.specs.declared.error.ArrayError.TheVariants as error

-- the number of an error, from 1 in the order of the variants
abbrev pub error_number : ArrayError → ℕ
error_number error.Malformed = 1
error_number error.TypeMismatch = 2
error_number error.LengthMismatch = 3
error_number error.TooLarge = 4
error_number error.CodesNotUnsigned = 5
error_number (error.CodeOutOfRange row code values) = 6
error_number (error.CastRefused row) = 7
error_number error.OutOfMemory = 8
