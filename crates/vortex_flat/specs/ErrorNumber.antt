-- The number under which documents list an error.
use Rattle.std.specs.Prelude.{ℕ}
use Rattle.vortex_flat.specs.declared.error.FlatError.{FlatError}
use Rattle.vortex_flat.specs.declared.error.FlatError.TheVariants.{Outside, TooLong, OutOfMemory}

-- the number of each error
abbrev pub error_number : FlatError → ℕ
error_number Outside = 1
error_number TooLong = 2
error_number OutOfMemory = 3
