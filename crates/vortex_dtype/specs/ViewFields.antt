-- The fields that selectors select of a struct.
--     resolved_field, extracted_field     the place and the type of one
--     selected_names, projected_type      the names of many, and the struct of these fields alone
-- A type that is no struct is refused first, then a selector that is no name, and then a name
-- without a field.
use Rattle.std.specs.Prelude.{ℕ, List, [], ◌∷◌, Option, Some, None, Result, Ok, Err}
use Rattle.std.specs.Option.{ok_or, option_map}
use Rattle.vortex_terms.specs.Term.{Term, structure, Fields}
use Rattle.vortex_terms.specs.Types.{place_of, field_named}
use Rattle.vortex_terms.specs.StructFields.{projected}
use Rattle.vortex_names.specs.declared.error.DTypeError.{DTypeError}
use Rattle.vortex_names.specs.declared.error.DTypeError.TheVariants as error
use Rattle.vortex_names.specs.declared.selector.Field.{Field}
use Rattle.vortex_names.specs.declared.selector.Field.TheVariants as fields

-- the place of the first field of the name
abbrev pub resolved_in : Fields → Field → Result ℕ DTypeError
resolved_in fs (fields.Name x) = ok_or (place_of fs x) error.FieldNotFound
resolved_in fs fields.ElementType = Err error.NotAName

abbrev pub resolved_field : Term → Field → Result ℕ DTypeError
resolved_field (structure fs n) selector = resolved_in fs selector
resolved_field _ selector = Err error.NotAStruct

-- the type of the first field of the name
abbrev pub extracted_in : Fields → Field → Result Term DTypeError
extracted_in fs (fields.Name x) = ok_or (field_named fs x) error.FieldNotFound
extracted_in fs fields.ElementType = Err error.NotAName

abbrev pub extracted_field : Term → Field → Result Term DTypeError
extracted_field (structure fs n) selector = extracted_in fs selector
extracted_field _ selector = Err error.NotAStruct

-- the names, where all are names
abbrev pub selected_names : List Field → Option (List (List ℕ))
selected_names [] = Some []
selected_names (fields.Name x ∷ selectors) = option_map (λ xs. x ∷ xs) (selected_names selectors)
selected_names (fields.ElementType ∷ selectors) = None

-- the fields of the names, where all are names and have fields
abbrev pub projected_names : Fields → Option (List (List ℕ)) → Result Fields DTypeError
projected_names fs (Some xs) = ok_or (projected fs xs) error.FieldNotFound
projected_names fs None = Err error.NotAName

-- the struct of these fields, as nullable as it was
abbrev pub structure_of : Result Fields DTypeError → (Fields → Term) → Result Term DTypeError
structure_of (Ok fs) make = Ok (make fs)
structure_of (Err e) make = Err e

abbrev pub projected_type : Term → List Field → Result Term DTypeError
projected_type (structure fs n) selectors =
    structure_of (projected_names fs (selected_names selectors)) (λ gs. structure gs n)
projected_type _ selectors = Err error.NotAStruct
