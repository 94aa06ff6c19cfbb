-- What a reader's answer says of what stands in the buffer.
use Rattle.std.specs.Prelude.{◌≡◌, Option, Some, None, Result, Ok, Err}
use Rattle.vortex_flat.specs.declared.error.FlatError.{FlatError}
use Rattle.vortex_flat.specs.declared.error.FlatError.TheVariants.{Outside}

-- the answer, seen by view, is what stands there; it is Outside exactly where nothing does
abbrev pub Answers : {X Y : Type 0} → (X → Y) → Result X FlatError → Option Y → Type 0
Answers view (Ok x) found = found ≡ Some (view x)
Answers view (Err e) found = (e ≡ Outside) × (found ≡ None)
