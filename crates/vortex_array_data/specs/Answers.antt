-- What an answer says of what is defined.
use Rattle.std.specs.Prelude.{◌≡◌, ◌⊎◌, Option, Some, None, Result, Ok, Err}
use Rattle.vortex_array_data.specs.declared.error.ArrayError.{ArrayError}
use Rattle.vortex_array_data.specs.declared.error.ArrayError.TheVariants as error
use Rattle.vortex_leaves.specs.declared.error.LeafError.{LeafError}
use Rattle.vortex_leaves.specs.declared.error.LeafError.TheVariants as leaf

-- a refusal is Malformed, where nothing is defined, or for lack of memory
abbrev pub Refuses : {Y : Type 0} → ArrayError → Option Y → Type 0
Refuses e found = (e ≡ error.OutOfMemory) ⊎ ((e ≡ error.Malformed) × (found ≡ None))

-- the answer, seen by view, is what is defined; it is Malformed only where nothing is
abbrev pub Answers : {X Y : Type 0} → (X → Y) → Result X ArrayError → Option Y → Type 0
Answers view (Ok x) found = found ≡ Some (view x)
Answers view (Err e) found = Refuses e found

-- the refusal of an array for that of its leaf
abbrev pub array_error_of : LeafError → ArrayError
array_error_of leaf.Malformed = error.Malformed
array_error_of leaf.OutOfMemory = error.OutOfMemory
