-- A type that stands in a buffer or a message, and what is read of it.
--     StandsAt            a type within the limits stands at a place
--     IsBoundedMessage    the bytes are a message of a type within the limits
--     IsReadAs            what the answer of reading says
--     IsFoundAs           the same, by what a function finds
use Rattle.std.specs.Prelude.{◌≡◌, ◌⊎◌, ℕ, List, Option, Some, None, Result, Ok, Err}
use Rattle.vortex_terms.specs.Term.{Term}
use Rattle.vortex_terms.specs.Types.{Bounded}
use Rattle.vortex_schema.specs.TypeAt.{IsTypeAt}
use Rattle.vortex_proto.specs.TypeMessage.{IsTypeMessage}
use Rattle.vortex_names.specs.declared.error.DTypeError.{DTypeError}
use Rattle.vortex_names.specs.declared.error.DTypeError.TheVariants as error

-- this type stands at the place, and is within the limits
abbrev pub StandsAt : List ℕ → ℕ → Term → Type 0
StandsAt b p t = IsTypeAt b p t × Bounded t

-- the bytes are a message of this type, which is within the limits
abbrev pub IsBoundedMessage : List ℕ → Term → Type 0
IsBoundedMessage b t = IsTypeMessage b t × Bounded t

-- the answer, seen as its term, stands so; it is Malformed exactly where no type does, unless
-- memory ran out
abbrev pub IsReadAs : {X : Type 0} → (X → Term) → Result X DTypeError → (Term → Type 0) → Type 0
IsReadAs term (Ok x) Stands = Stands (term x)
IsReadAs term (Err e) Stands =
    (e ≡ error.OutOfMemory) ⊎ ((e ≡ error.Malformed) × ((t : Term) → Stands t → ⊥))

-- the answer, seen by view, was found; it is Malformed exactly where nothing was, unless memory ran out
abbrev pub IsFoundAs : {X Y : Type 0} → (X → Y) → Result X DTypeError → Option Y → Type 0
IsFoundAs view (Ok x) found = found ≡ Some (view x)
IsFoundAs view (Err e) found = (e ≡ error.OutOfMemory) ⊎ ((e ≡ error.Malformed) × (found ≡ None))
