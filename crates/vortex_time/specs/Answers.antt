-- What an answer says of the one that is wanted.
use Rattle.std.specs.Prelude.{◌≡◌, ◌⊎◌, Result, Ok, Err}
use Rattle.vortex_time.specs.declared.error.TemporalError.{TemporalError}
use Rattle.vortex_time.specs.declared.error.TemporalError.TheVariants as error

-- the answer, seen by view, is the wanted one, unless memory ran out
abbrev pub Answers : {X Y : Type 0} → (X → Y) → Result X TemporalError → Result Y TemporalError → Type 0
Answers view (Ok x) wanted = wanted ≡ Ok (view x)
Answers view (Err e) wanted = (e ≡ error.OutOfMemory) ⊎ (wanted ≡ Err e)
