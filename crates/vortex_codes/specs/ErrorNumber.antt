-- The number of each error of dictionaries: `error_number`.
use Rattle.std.specs.Prelude.{ℕ}
use Rattle.vortex_codes.specs.declared.error.DictError.{DictError}
use Rattle.vortex_codes.specs.declared.error.DictError.TheVariants.{CannotEncode, TypeMismatch}
use Rattle.vortex_codes.specs.declared.error.DictError.TheVariants.{NotAll, CastRefused, TooLarge}
use Rattle.vortex_codes.specs.declared.error.DictError.TheVariants.{OutOfMemory}

-- the number of an error
abbrev pub error_number : DictError → ℕ
error_number CannotEncode = 1
error_number TypeMismatch = 2
error_number (NotAll encoded rows) = 3
error_number (CastRefused row) = 4
error_number TooLarge = 5
error_number OutOfMemory = 6
