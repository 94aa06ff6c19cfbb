-- What an answer says of the one that is wanted.
use Rattle.std.specs.Prelude.{◌≡◌, ◌⊎◌, Result, Ok, Err}
use Rattle.vortex_scalar_value.specs.declared.error.ScalarError.{ScalarError}
use Rattle.vortex_scalar_value.specs.declared.error.ScalarError.TheVariants as error

-- the answer, seen by view, is the wanted one, unless memory ran out
abbrev pub Answers : {X Y : Type 0} → (X → Y) → Result X ScalarError → Result Y ScalarError → Type 0
Answers view (Ok x) wanted = wanted ≡ Ok (view x)
Answers view (Err e) wanted = (e ≡ error.OutOfMemory) ⊎ (wanted ≡ Err e)
