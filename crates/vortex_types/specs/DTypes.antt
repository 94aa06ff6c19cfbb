-- What a contract sees of a type: its term.
use Rattle.std.specs.Prelude.{◌≡◌, [], length}
use Rattle.vortex_terms.specs.Term.{Term, null, boolean, primitive, decimal, utf8, binary}
use Rattle.vortex_terms.specs.Term.{structure, list, fixed_size_list, Fields, no_fields}
use Rattle.vortex_terms.specs.Types.{fields_from, LegalFields}
use Rattle.vortex_names.specs.Nullable.{is_nullable}
use Rattle.vortex_number.specs.WholeKind.{whole_kind}
use Rattle.vortex_types.specs.ExtTerm.{ext_type}
use Rattle.vortex_types.specs.declared.dtype.DType.{DType}
use Rattle.vortex_types.specs.declared.dtype.DType.TheVariants as types
use Rattle.vortex_types.specs.declared.field_dtype.FieldKind.{FieldKind}
use Rattle.vortex_types.specs.declared.field_dtype.FieldKind.TheVariants as kinds
use Rattle.vortex_types.specs.declared.struct_fields.KeptFields.{KeptFields}
use Rattle.vortex_types.specs.declared.struct_fields.KeptFields.TheVariants as kept

-- a type as a term
abbrev pub term_of : DType → Term
term_of types.Null = null
term_of (types.Bool n) = boolean (is_nullable n)
term_of (types.Primitive k n) = primitive (whole_kind k) (is_nullable n)
term_of (types.Decimal d n) = decimal d.precision d.scale (is_nullable n)
term_of (types.Utf8 n) = utf8 (is_nullable n)
term_of (types.Binary n) = binary (is_nullable n)
term_of (types.Struct fs n) = structure fs (is_nullable n)
term_of (types.List t n) = list t (is_nullable n)
term_of (types.Extension e) = ext_type e.value
term_of (types.FixedSizeList t k n) = fixed_size_list t k (is_nullable n)

-- the type of a field, however it is kept
abbrev pub field_term : FieldKind → Term
field_term (kinds.Owned t) = term_of t

-- the fields of a struct
abbrev pub kept_fields : KeptFields → Fields
kept_fields (kept.Empty names) = no_fields
kept_fields (kept.Shared names types) = fields_from names.value types.value.items

-- there are as many names as types, and the types are legal
abbrev pub AreKept : KeptFields → Type 0
AreKept (kept.Empty names) = names ≡ []
AreKept (kept.Shared names types) =
    (length names.value ≡ length types.value.items)
    × LegalFields (fields_from names.value types.value.items)
