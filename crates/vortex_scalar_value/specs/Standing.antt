-- What reading and writing a value answers.
--     most_levels           how deep a value nests that is read or written
--     Finds                 what a reader answers that finds something or nothing
--     IsReadValue           the answer of reading
--     IsWrittenValue        the answer of writing
use Rattle.std.specs.Prelude.{◌≡◌, ◌⊎◌, ℕ, ◌<◌, ◌≤◌, List, Option, Some, None, Result, Ok, Err}
use Rattle.vortex_scalar_value.specs.Value.{ValueTerm, value_levels}
use Rattle.vortex_scalar_value.specs.ValueBytes.{value_bytes}
use Rattle.vortex_scalar_value.specs.ValueMessage.{IsValueMessage}
use Rattle.vortex_scalar_value.specs.declared.error.ScalarError.{ScalarError}
use Rattle.vortex_scalar_value.specs.declared.error.ScalarError.TheVariants as error

abbrev pub most_levels : ℕ
most_levels = 128

-- the bytes are a message of the value, which is within the limit
abbrev pub IsBoundedMessage : List ℕ → ValueTerm → Type 0
IsBoundedMessage b v = IsValueMessage b v × (value_levels v ≤ most_levels)

-- the answer is the value of the bytes; it is Malformed exactly where they are a message of none,
-- unless memory ran out
abbrev pub IsReadValue : Result ValueTerm ScalarError → List ℕ → Type 0
IsReadValue (Ok v) b = IsBoundedMessage b v
IsReadValue (Err e) b =
    (e ≡ error.OutOfMemory) ⊎ ((e ≡ error.Malformed) × ((v : ValueTerm) → IsBoundedMessage b v → ⊥))

-- the answer, seen by view, is the message of the value; it is TooLarge exactly where the value has
-- too many levels, unless memory ran out
abbrev pub IsWrittenValue : {X : Type 0} → (X → List ℕ) → Result X ScalarError → ValueTerm → Type 0
IsWrittenValue view (Ok x) v = (view x ≡ value_bytes v) × (value_levels v ≤ most_levels)
IsWrittenValue view (Err e) v =
    ((e ≡ error.OutOfMemory) × (value_levels v ≤ most_levels)) ⊎ ((e ≡ error.TooLarge) × (most_levels < value_levels v))

-- the answer, seen by view, is what is found; it is Malformed where nothing is, unless memory ran out
abbrev pub Finds : {X Y : Type 0} → (X → Y) → Result X ScalarError → Option Y → Type 0
Finds view (Ok x) found = found ≡ Some (view x)
Finds view (Err e) found = (e ≡ error.OutOfMemory) ⊎ ((e ≡ error.Malformed) × (found ≡ None))
