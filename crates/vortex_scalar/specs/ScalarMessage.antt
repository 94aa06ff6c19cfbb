-- Which scalar a message is (this project's own schema): 1 a type, 2 a value, each of which must be there, and once.
--     HoldsType         the message holds a type within the limits
--     HoldsValue        the message holds a value of at most 128 levels
--     IsPair            the message holds both
--     IsReadScalar      what the answer of reading says
--     scalar_bytes      the message of a type and a value
--     WritesScalar      what is written for a scalar
use Rattle.std.specs.Prelude.{◌≡◌, ◌⊎◌, ◌≤◌, ℕ, List, ◌++◌, Some, Result, Ok, Err}
use Rattle.vortex_wire.specs.Field.{bytes_field}
use Rattle.vortex_wire.specs.Inside.{message}
use Rattle.vortex_terms.specs.Term.{Term}
use Rattle.vortex_terms.specs.Types.{Bounded}
use Rattle.vortex_terms.specs.Row.{Row}
use Rattle.vortex_terms.specs.Fits.{Fits}
use Rattle.vortex_proto.specs.TypeMessage.{IsTypeMessage}
use Rattle.vortex_proto.specs.TypeBytes.{type_bytes}
use Rattle.vortex_scalar_value.specs.Value.{ValueTerm, value_levels}
use Rattle.vortex_scalar_value.specs.Standing.{most_levels}
use Rattle.vortex_scalar_value.specs.ValueMessage.{IsValueMessage}
use Rattle.vortex_scalar_value.specs.ValueBytes.{value_bytes}
use Rattle.vortex_scalar_value.specs.declared.error.ScalarError.{ScalarError}
use Rattle.vortex_scalar_value.specs.declared.error.ScalarError.TheVariants as error
use Rattle.vortex_value_rows.specs.RowOf.{row_of}
use Rattle.vortex_scalar.specs.ScalarTerm.{ScalarTerm}
use Rattle.vortex_scalar.specs.declared.schema.TheConstants.{SCALAR_DTYPE, SCALAR_VALUE}

-- the message holds this type, which is within the limits
abbrev pub HoldsType : List ℕ → Term → Type 0
HoldsType b t = (part : List ℕ) × (message SCALAR_DTYPE b ≡ Some part) × IsTypeMessage part t × Bounded t

-- the message holds this value, of at most 128 levels
abbrev pub HoldsValue : List ℕ → ValueTerm → Type 0
HoldsValue b v = (part : List ℕ) × (message SCALAR_VALUE b ≡ Some part) × IsValueMessage part v × (value_levels v ≤ most_levels)

abbrev pub IsPair : List ℕ → Term → ValueTerm → Type 0
IsPair b t v = HoldsType b t × HoldsValue b v

-- the scalar is of the type and has the row of the value; Malformed comes exactly where there is no such pair, and
-- DoesNotFit exactly where the value does not fit the type, unless memory ran out
abbrev pub IsReadScalar : Result ScalarTerm ScalarError → List ℕ → Type 0
IsReadScalar (Ok s) b = (v : ValueTerm) × IsPair b s.dtype v × (row_of s.dtype v ≡ Some s.row) × Fits s.dtype s.row
IsReadScalar (Err e) b =
    (e ≡ error.OutOfMemory)
    ⊎ ((e ≡ error.Malformed) × ((t : Term) (v : ValueTerm) → IsPair b t v → ⊥))
    ⊎ ((e ≡ error.DoesNotFit)
    × ((t : Term) × (v : ValueTerm) × IsPair b t v × ((r : Row) → row_of t v ≡ Some r → Fits t r → ⊥)))

-- the message of a type and a value
abbrev pub scalar_bytes : Term → ValueTerm → List ℕ
scalar_bytes t v = bytes_field SCALAR_DTYPE (type_bytes t) ++ bytes_field SCALAR_VALUE (value_bytes v)

-- the bytes, seen by view, are the message of the type and of a value that is the row under it; TooLarge comes exactly
-- where the type is outside the limits, unless memory ran out
abbrev pub WritesScalar : {X : Type 0} → (X → List ℕ) → Result X ScalarError → ScalarTerm → Type 0
WritesScalar view (Ok x) s =
    Bounded s.dtype × ((v : ValueTerm) × (row_of s.dtype v ≡ Some s.row) × (view x ≡ scalar_bytes s.dtype v))
WritesScalar view (Err e) s = (e ≡ error.OutOfMemory) ⊎ ((e ≡ error.TooLarge) × ¬ Bounded s.dtype)
