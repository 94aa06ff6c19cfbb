-- What is answered of a part of a scalar's message.
--     IsReadPart        the answer of reading
--     IsTypeWritten     the answer of writing the type
use Rattle.std.specs.Prelude.{◌≡◌, ◌⊎◌, ℕ, Result, Ok, Err}
use Rattle.std.specs.Global.{Vec}
use Rattle.vortex_terms.specs.Term.{Term}
use Rattle.vortex_terms.specs.Types.{Bounded}
use Rattle.vortex_proto.specs.TypeBytes.{type_bytes}
use Rattle.vortex_scalar_value.specs.declared.error.ScalarError.{ScalarError}
use Rattle.vortex_scalar_value.specs.declared.error.ScalarError.TheVariants as error

-- the answer, seen by view, stands so; it is Malformed exactly where nothing does, unless memory ran out
abbrev pub IsReadPart : {X Y : Type 0} → (X → Y) → Result X ScalarError → (Y → Type 0) → Type 0
IsReadPart view (Ok x) Stands = Stands (view x)
IsReadPart {Y = Y} view (Err e) Stands = (e ≡ error.OutOfMemory) ⊎ ((e ≡ error.Malformed) × ((y : Y) → Stands y → ⊥))

-- the bytes are the message of the type; TooLarge comes exactly where it is outside the limits, unless memory ran out
abbrev pub IsTypeWritten : Result (Vec ℕ) ScalarError → Term → Type 0
IsTypeWritten (Ok v) t = (v.items ≡ type_bytes t) × Bounded t
IsTypeWritten (Err e) t = (e ≡ error.OutOfMemory) ⊎ ((e ≡ error.TooLarge) × ¬ Bounded t)
