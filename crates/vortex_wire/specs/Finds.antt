-- What the answer of a reader says of what stands in the bytes: `Finds`, `FindsInMemory`.
use Rattle.std.specs.Prelude.{◌≡◌, ◌⊎◌, ℕ, List, [], ◌∷◌, Option, Some, None, Result, Ok, Err, map, option_map}
use Rattle.std.specs.Prelude.{if◌then◌else◌}
use Rattle.std.specs.Borrow.{Bor}
use Rattle.std.specs.Str.{is_utf8}
use Rattle.vortex_wire.specs.declared.error.WireError.{WireError}
use Rattle.vortex_wire.specs.declared.error.WireError.TheVariants.{Malformed, OutOfMemory}

-- the answer, seen by view, is what stands there; it is Malformed exactly where nothing does
abbrev pub Finds : {X Y : Type 0} → (X → Y) → Result X WireError → Option Y → Type 0
Finds view (Ok x) found = found ≡ Some (view x)
Finds view (Err e) found = (e ≡ Malformed) × (found ≡ None)

-- the same, unless memory ran out
abbrev pub FindsInMemory : {X Y : Type 0} → (X → Y) → Result X WireError → Option Y → Type 0
FindsInMemory view (Ok x) found = found ≡ Some (view x)
FindsInMemory view (Err e) found = (e ≡ OutOfMemory) ⊎ ((e ≡ Malformed) × (found ≡ None))

-- bytes, without where they lie in memory
abbrev pub bytes_of : Bor (List ℕ) → List ℕ
bytes_of x = x.now

-- the same of several
abbrev pub all_bytes_of : List (Bor (List ℕ)) → List (List ℕ)
all_bytes_of xs = map (λ x. x.now) xs

-- what was read, and then these
abbrev pub then_bytes : Result (Option (Bor (List ℕ))) WireError → Option (List (List ℕ)) → Option (List (List ℕ))
then_bytes (Ok None) others = Some []
then_bytes (Ok (Some x)) others = option_map (λ xs. x.now ∷ xs) others
then_bytes (Err e) others = None

-- the bytes as a text, which is UTF-8
abbrev pub text_in : List ℕ → Option (List ℕ)
text_in bytes = if is_utf8 bytes then Some bytes else None
