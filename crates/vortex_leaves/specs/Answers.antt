-- What an answer says of what is defined.
use Rattle.std.specs.Prelude.{◌≡◌, Option, Some, None, Result, Ok, Err}
use Rattle.vortex_leaves.specs.declared.error.LeafError.{LeafError}
use Rattle.vortex_leaves.specs.declared.error.LeafError.TheVariants.{Malformed, OutOfMemory}

-- what a refusal says: Malformed that nothing is defined
abbrev pub Refuses : {Y : Type 0} → LeafError → Option Y → Type 0
Refuses Malformed found = found ≡ None
Refuses OutOfMemory found = Unit {0}

-- the answer, seen by view, is what is defined; it is Malformed only where nothing is
abbrev pub Answers : {X Y : Type 0} → (X → Y) → Result X LeafError → Option Y → Type 0
Answers view (Ok x) found = found ≡ Some (view x)
Answers view (Err e) found = Refuses e found
