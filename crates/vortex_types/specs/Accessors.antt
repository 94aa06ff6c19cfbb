-- What a type tells of itself.
--     whole_kind_of, decimal_type_of, list_size_of     of primitive, decimal and fixed-size lists
--     list_element_of, fixed_size_list_element_of, any_size_list_element_of    of lists
--     struct_fields_of, fields_of, field_name_at       of structs
--     id_of, metadata_of                               of extensions
use Rattle.std.specs.Prelude.{ℕ, List, Option, Some, None, slice_get}
use Rattle.vortex_terms.specs.Term.{WholeKind, Term, primitive, decimal}
use Rattle.vortex_terms.specs.Term.{structure, list, extension, fixed_size_list, Fields}
use Rattle.vortex_terms.specs.Term.{no_fields}
use Rattle.vortex_terms.specs.Types.{names_of}
use Rattle.vortex_names.specs.Decimals.{Decimal}

-- the kind of a primitive type
abbrev pub whole_kind_of : Term → Option WholeKind
whole_kind_of (primitive k n) = Some k
whole_kind_of _ = None

-- the precision and the scale of a decimal type
abbrev pub decimal_type_of : Term → Option Decimal
decimal_type_of (decimal p s n) = Some (record { precision = p; scale = s })
decimal_type_of _ = None

-- how long each list of a fixed-size list type is
abbrev pub list_size_of : Term → Option ℕ
list_size_of (fixed_size_list t k n) = Some k
list_size_of _ = None

-- the fields of a struct, and none of another type
abbrev pub fields_of : Term → Fields
fields_of (structure fs n) = fs
fields_of _ = no_fields

-- the name of the field at a place
abbrev pub field_name_at : Term → ℕ → Option (List ℕ)
field_name_at t i = slice_get (names_of (fields_of t)) i

-- the id of an extension type
abbrev pub id_of : Term → Option (List ℕ)
id_of (extension id t m) = Some id
id_of _ = None

-- the metadata of an extension type, where it has any
abbrev pub metadata_of : Term → Option (List ℕ)
metadata_of (extension id t m) = m
metadata_of _ = None

-- the element of a list type
abbrev pub list_element_of : Term → Option Term
list_element_of (list t n) = Some t
list_element_of _ = None

-- the element of a fixed-size list type
abbrev pub fixed_size_list_element_of : Term → Option Term
fixed_size_list_element_of (fixed_size_list t k n) = Some t
fixed_size_list_element_of _ = None

-- the element of either
abbrev pub any_size_list_element_of : Term → Option Term
any_size_list_element_of (list t n) = Some t
any_size_list_element_of (fixed_size_list t k n) = Some t
any_size_list_element_of _ = None

-- the fields of a struct, where the type is one
abbrev pub struct_fields_of : Term → Option Fields
struct_fields_of (structure fs n) = Some fs
struct_fields_of _ = None
