-- What a contract sees of a reference to a type: its term.
use Rattle.std.specs.Option.{option_copied}
use Rattle.vortex_terms.specs.Term.{Term, null, boolean, primitive, decimal, utf8, binary}
use Rattle.vortex_terms.specs.Term.{structure, list, extension, fixed_size_list, Fields}
use Rattle.vortex_number.specs.WholeKind.{whole_kind}
use Rattle.vortex_names.specs.Nullable.{is_nullable}
use Rattle.vortex_types.specs.DTypes.{term_of}
use Rattle.vortex_types.specs.declared.type_ref.TypeRef.{TypeRef}
use Rattle.vortex_types.specs.declared.shape.FieldsRef.{FieldsRef}
use Rattle.vortex_types.specs.declared.shape.FieldsRef.TheVariants as fields
use Rattle.vortex_types.specs.declared.shape.Shape.{Shape}
use Rattle.vortex_types.specs.declared.shape.Shape.TheVariants as shapes
use Rattle.vortex_types.specs.declared.type_ref.RefKind.{RefKind}
use Rattle.vortex_types.specs.declared.type_ref.RefKind.TheVariants as kinds

-- the term, wherever the type stands
abbrev pub kind_term : RefKind → Term
kind_term (kinds.Owned t) = term_of t.now

-- the term of the type
abbrev pub ref_term : TypeRef → Term
ref_term r = kind_term r.kind

-- the fields of a struct, wherever they stand
abbrev pub fields_term : FieldsRef → Fields
fields_term (fields.Owned s) = s.now

-- the term of a type that is taken apart
abbrev pub shape_term : Shape → Term
shape_term shapes.Null = null
shape_term (shapes.Bool n) = boolean (is_nullable n)
shape_term (shapes.Primitive k n) = primitive (whole_kind k) (is_nullable n)
shape_term (shapes.Decimal d n) = decimal d.precision d.scale (is_nullable n)
shape_term (shapes.Utf8 n) = utf8 (is_nullable n)
shape_term (shapes.Binary n) = binary (is_nullable n)
shape_term (shapes.Struct r n) = structure (fields_term r) (is_nullable n)
shape_term (shapes.List r n) = list (ref_term r) (is_nullable n)
shape_term (shapes.Extension id r m) = extension id.now (ref_term r) (option_copied m)
shape_term (shapes.FixedSizeList r k n) = fixed_size_list (ref_term r) k (is_nullable n)
