-- Fields that are made from a struct's fields.
--     projected           those of given names, in the order asked
--     without_field       all but the one at a place
--     name_repeats        whether a name stands twice
--     disjoint_merged     two lists of fields in which no name repeats
use Rattle.std.specs.Prelude.{ℕ, Bool, false, ◌||◌, ◌++◌, if◌then◌else◌, nat_lt, List, [], ◌∷◌, Option, Some, None}
use Rattle.std.specs.List.{list_any, remove}
use Rattle.std.specs.Option.{option_and_then, option_map}
use Rattle.std.specs.Str.{bytes_eq}
use Rattle.vortex_terms.specs.Term.{Fields, no_fields, field}
use Rattle.vortex_terms.specs.Types.{names_of, types_of, fields_from, fields_append, field_count, field_named}

-- for each name the first field of that name, and none where a name has no field
abbrev pub projected : Fields → List (List ℕ) → Option Fields
projected fs [] = Some no_fields
projected fs (x ∷ xs) =
    option_and_then (λ t. option_map (field x t) (projected fs xs)) (field_named fs x)

-- the other fields, in order, where there is a field at the place
abbrev pub without_field : Fields → ℕ → Option Fields
without_field fs i =
    if nat_lt i (field_count fs)
    then Some (fields_from (remove (names_of fs) i) (remove (types_of fs) i))
    else None

-- whether a name stands twice
abbrev pub name_repeats : List (List ℕ) → Bool
name_repeats [] = false
name_repeats (x ∷ xs) = list_any (bytes_eq x) xs || name_repeats xs

-- the fields of both, where no name repeats
abbrev pub disjoint_merged : Fields → Fields → Option Fields
disjoint_merged fs gs =
    if name_repeats (names_of fs ++ names_of gs) then None else Some (fields_append fs gs)
