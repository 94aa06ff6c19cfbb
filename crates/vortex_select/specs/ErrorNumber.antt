-- The numbers of the errors.
use Rattle.std.specs.Prelude.{ℕ}
use Rattle.vortex_select.specs.declared.error.SelectError.{SelectError}
use Rattle.vortex_select.specs.declared.error.SelectError.TheVariants.{ReadFault, WriteFault, ReadLimit, OutOfMemory, Unbuilt}

-- the number under which documents list an error
abbrev pub error_number : SelectError → ℕ
error_number ReadFault = 1
error_number WriteFault = 2
error_number ReadLimit = 3
error_number OutOfMemory = 13
error_number Unbuilt = 14
