-- Ways into a type and its rows.
--     PathPart                     a step to the first field of a name, or to the element of a list
--     resolved t p                 the type that a path leads to, through structs and lists
--     target t p                   the type of which a path of names finds values
--     value_at t r p               the value that it finds in a row
--     is_never_null t p            whether no struct on the way may be null
--     path_part_eq                 whether two steps are one step
use Rattle.std.specs.Prelude.{ℕ, Bool, true, false, not, ◌&&◌, List, [], ◌∷◌, Option, Some, None}
use Rattle.std.specs.Option.{option_and_then, option_map_or, unwrap_or}
use Rattle.std.specs.Str.{bytes_eq}
use Rattle.vortex_terms.specs.Term.{Term, null, structure, list, fixed_size_list}
use Rattle.vortex_terms.specs.Types.{nullable, storage_of, place_of, field_named}
use Rattle.vortex_terms.specs.Row.{Row, null_row, list_row, row_at}

pub data PathPart : Type 0 where
  by_name : List ℕ → PathPart
  element : PathPart

-- the type of the first field of the name, where the type is a struct with such a field
abbrev pub named_type : Term → PathPart → Option Term
named_type (structure fs n) (by_name x) = field_named fs x
named_type _ _ = None

-- the type that a step leads to: that of the first field of the name, or a list's element
abbrev pub step_type : Term → PathPart → Option Term
step_type (structure fs n) (by_name x) = field_named fs x
step_type (list t n) element = Some t
step_type (fixed_size_list t k n) element = Some t
step_type _ _ = None

-- the type that the steps lead to; an extension is not gone through
abbrev pub resolved : Term → List PathPart → Option Term
resolved t [] = Some t
resolved t (part ∷ path) = option_and_then (λ u. resolved u path) (step_type t part)

-- the row of the field that a step names, and null where the struct is null
abbrev pub named_row : Term → Row → PathPart → Row
named_row (structure fs n) (list_row rs) (by_name x) =
    unwrap_or (option_and_then (row_at rs) (place_of fs x)) null_row
named_row _ _ _ = null_row

-- the type that names lead to through structs, an extension at the end seen as its storage; none
-- where a part is no name, names no field, or meets another type
abbrev pub target : Term → List PathPart → Option Term
target t [] = Some (storage_of t)
target t (part ∷ path) = option_and_then (λ u. target u path) (named_type t part)

-- the value that the names lead to; null as soon as a null is met
abbrev pub value_at : Term → Row → List PathPart → Row
value_at t r [] = r
value_at t r (part ∷ path) = value_at (unwrap_or (named_type t part) null) (named_row t r part) path

-- whether no struct that the names lead through may be null
abbrev pub is_never_null : Term → List PathPart → Bool
is_never_null t [] = true
is_never_null t (part ∷ path) =
    not (nullable t) && option_map_or (λ u. is_never_null u path) (named_type t part) false

-- whether two steps are one step
abbrev pub path_part_eq : PathPart → PathPart → Bool
path_part_eq (by_name x) (by_name y) = bytes_eq x y
path_part_eq element element = true
path_part_eq _ _ = false
