-- The errors of scalars: `error_number`, `of_wire`.
use Rattle.std.specs.Prelude.{ℕ}
use Rattle.vortex_scalar_value.specs.declared.error.ScalarError.{ScalarError}
use Rattle.vortex_scalar_value.specs.declared.error.ScalarError.TheVariants.{DoesNotFit, WrongType, IsNull, CastNull, CastKind, CastRange, CastLength, CastFields, FieldNotFound, Malformed, OutOfRange, OutOfMemory, TooLarge}
use Rattle.vortex_wire.specs.declared.error.WireError.{WireError}
use Rattle.vortex_wire.specs.declared.error.WireError.TheVariants as wire

-- the number of an error, from 1 in the order of the variants
abbrev pub error_number : ScalarError → ℕ
error_number DoesNotFit = 1
error_number WrongType = 2
error_number IsNull = 3
error_number CastNull = 4
error_number CastKind = 5
error_number CastRange = 6
error_number CastLength = 7
error_number CastFields = 8
error_number FieldNotFound = 9
error_number Malformed = 10
error_number OutOfRange = 11
error_number OutOfMemory = 12
error_number TooLarge = 13

-- an error of messages as one of scalars
abbrev pub of_wire : WireError → ScalarError
of_wire wire.Malformed = Malformed
of_wire wire.OutOfMemory = OutOfMemory
