-- What the answers of the calls say.
--     IsWritten     of writing a type: its JSON, and BadJson exactly where the type is outside the limits
--     IsFound       of reading: what was found, and BadJson exactly where nothing was
use Rattle.std.specs.Prelude.{◌≡◌, ◌⊎◌, Option, Some, None, Result, Ok, Err}
use Rattle.serde_json.specs.View.{view}
use Rattle.serde_json.specs.declared.value.Value.{Value}
use Rattle.vortex_terms.specs.Term.{Term}
use Rattle.vortex_terms.specs.Types.{Bounded}
use Rattle.vortex_time.specs.declared.error.TemporalError.{TemporalError}
use Rattle.vortex_time.specs.declared.error.TemporalError.TheVariants as error
use Rattle.vortex_json.specs.Written.{json_of}

-- The value is the JSON of the type. BadJson comes exactly where the type is outside the limits, unless memory ran out.
abbrev pub IsWritten : Result Value TemporalError → Term → Type 0
IsWritten (Ok v) t = (view v ≡ json_of t) × Bounded t
IsWritten (Err e) t = (e ≡ error.OutOfMemory) ⊎ ((e ≡ error.BadJson) × ¬ Bounded t)

-- The answer, seen by see, is what was found. BadJson comes exactly where nothing was, unless memory ran out.
abbrev pub IsFound : {X Y : Type 0} → (X → Y) → Result X TemporalError → Option Y → Type 0
IsFound see (Ok x) found = found ≡ Some (see x)
IsFound see (Err e) found = (e ≡ error.OutOfMemory) ⊎ ((e ≡ error.BadJson) × (found ≡ None))
