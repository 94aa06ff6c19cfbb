-- The number of each error of types: `error_number`.
use Rattle.std.specs.Prelude.{ℕ}
use Rattle.vortex_names.specs.declared.error.DTypeError.{DTypeError}
use Rattle.vortex_names.specs.declared.error.DTypeError.TheVariants as error

-- the number of an error, from 1 in the order of the variants
abbrev pub error_number : DTypeError → ℕ
error_number error.PrecisionZero = 1
error_number error.PrecisionTooLarge = 2
error_number error.ScaleTooLarge = 3
error_number error.ScaleAbovePrecision = 4
error_number error.LengthMismatch = 5
error_number error.ExtensionStorage = 6
error_number error.FieldNotFound = 7
error_number error.IndexOutOfBounds = 8
error_number error.DuplicateName = 9
error_number error.NotAStruct = 10
error_number error.NotAName = 11
error_number error.NotPrimitive = 12
error_number error.NotDecimal = 13
error_number error.ExactRoot = 14
error_number error.AllMask = 15
error_number error.Malformed = 16
error_number error.TooLarge = 17
error_number error.OutOfMemory = 18
