-- What an answer says of the row that is wanted: `IsCast`.
use Rattle.std.specs.Prelude.{◌≡◌, ◌⊎◌, Option, Some, Result, Ok, Err}
use Rattle.vortex_terms.specs.Row.{Row}
use Rattle.vortex_scalar_value.specs.Value.{ValueTerm}
use Rattle.vortex_scalar_value.specs.declared.error.ScalarError.{ScalarError}
use Rattle.vortex_scalar_value.specs.declared.error.ScalarError.TheVariants as error

-- the answer is a value of the wanted row, or the wanted refusal, unless memory ran out
abbrev pub IsCast : (ValueTerm → Option Row) → Result ValueTerm ScalarError → Result Row ScalarError → Type 0
IsCast row_of (Ok v) (Ok r) = row_of v ≡ Some r
IsCast row_of (Ok v) (Err e) = ⊥
IsCast row_of (Err e) wanted = (e ≡ error.OutOfMemory) ⊎ (wanted ≡ Err e)
