-- The number of each error of messages: `error_number`.
use Rattle.std.specs.Prelude.{ℕ}
use Rattle.vortex_wire.specs.declared.error.WireError.{WireError}
use Rattle.vortex_wire.specs.declared.error.WireError.TheVariants.{Malformed, OutOfMemory}

-- the number of an error, from 1 in the order of the variants
abbrev pub error_number : WireError → ℕ
error_number Malformed = 1
error_number OutOfMemory = 2
