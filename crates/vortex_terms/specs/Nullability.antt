-- Types whose flag is changed, and types that differ in their flags.
--     with_nullability, union_nullability        a type that is nullable or not; one that is
--         nullable also where it was
--     eq_with_nullability_subset, .._superset    equality where the first type is nullable, and
--         else equality apart from nullability; and the other way round
use Rattle.std.specs.Prelude.{Bool, ◌||◌, if◌then◌else◌}
use Rattle.vortex_terms.specs.Term.{Term, null, boolean, primitive, decimal, utf8, binary, structure, list, extension, fixed_size_list}
use Rattle.vortex_terms.specs.Types.{nullable}
use Rattle.vortex_terms.specs.Equality.{term_eq, is_same}

-- the type with this flag: null stays, and an extension's flag is its storage's
abbrev pub with_nullability : Term → Bool → Term
with_nullability null m = null
with_nullability (boolean n) m = boolean m
with_nullability (primitive k n) m = primitive k m
with_nullability (decimal p s n) m = decimal p s m
with_nullability (utf8 n) m = utf8 m
with_nullability (binary n) m = binary m
with_nullability (structure fs n) m = structure fs m
with_nullability (list t n) m = list t m
with_nullability (extension id t metadata) m = extension id (with_nullability t m) metadata
with_nullability (fixed_size_list t k n) m = fixed_size_list t k m

-- the type, nullable where it was or where the flag says so
abbrev pub union_nullability : Term → Bool → Term
union_nullability t m = with_nullability t (nullable t || m)

-- whether the types are equal, the second's flags being free where the first is not nullable
abbrev pub eq_with_nullability_subset : Term → Term → Bool
eq_with_nullability_subset t u = if nullable t then term_eq t u else is_same t u

-- whether the types are equal, the second's flags being free where the first is nullable
abbrev pub eq_with_nullability_superset : Term → Term → Bool
eq_with_nullability_superset t u = if nullable t then is_same t u else term_eq t u
