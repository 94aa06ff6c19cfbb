-- Whether rows may be null: `is_nullable`, `nullability_of`, `either`, `mark`, `verbose`.
use Rattle.std.specs.Prelude.{ℕ, Bool, true, false, List, [], codes}
use Rattle.vortex_names.specs.declared.nullable.Nullability.{Nullability}
use Rattle.vortex_names.specs.declared.nullable.Nullability.TheVariants.{NonNullable, Nullable}

-- whether rows may be null, as a truth value
abbrev pub is_nullable : Nullability → Bool
is_nullable NonNullable = false
is_nullable Nullable = true

-- a truth value as whether rows may be null
abbrev pub nullability_of : Bool → Nullability
nullability_of false = NonNullable
nullability_of true = Nullable

-- nullable where one of two is
abbrev pub either : Nullability → Nullability → Nullability
either NonNullable n = n
either Nullable n = Nullable

-- the mark behind a type
abbrev pub mark : Nullability → List ℕ
mark NonNullable = []
mark Nullable = codes "?"

-- a text that shows both
abbrev pub verbose : Nullability → List ℕ
verbose NonNullable = codes "NonNullable"
verbose Nullable = codes "Nullable"
