-- Equality, exact or apart from nullability.
use Rattle.std.specs.Prelude.{ℕ, Bool, false, if◌then◌else◌, ◌&&◌, Option, Some}
use Rattle.std.specs.Prelude.{slice_get}
use Rattle.std.specs.Str.{bytes_eq}
use Rattle.vortex_terms.specs.Term.{Term, Fields}
use Rattle.vortex_terms.specs.Types.{bare_fields, names_of, field_at}
use Rattle.vortex_terms.specs.Equality.{term_eq, fields_eq, is_same}

-- whether the types are equal, or the same apart from nullability
abbrev pub equal_by : Bool → Term → Term → Bool
equal_by exact t u = if exact then term_eq t u else is_same t u

-- whether the fields are
abbrev pub fields_equal_by : Bool → Fields → Fields → Bool
fields_equal_by exact fs gs =
    if exact then fields_eq fs gs else fields_eq (bare_fields fs) (bare_fields gs)

-- whether there are two, and they are equal
abbrev pub both_by : {A : Type 0} → (A → A → Bool) → Option A → Option A → Bool
both_by eq (Some x) (Some y) = eq x y
both_by eq _ _ = false

-- whether there are fields at a place, and they are equal
abbrev pub field_equal_by : Bool → Fields → Fields → ℕ → Bool
field_equal_by exact fs gs i =
    both_by bytes_eq (slice_get (names_of fs) i) (slice_get (names_of gs) i)
    && both_by (equal_by exact) (field_at fs i) (field_at gs i)
