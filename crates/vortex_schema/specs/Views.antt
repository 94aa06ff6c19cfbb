-- What contracts see of a type in a buffer: its term.
use Rattle.std.specs.Prelude.{unwrap_or}
use Rattle.std.specs.Option.{option_copied}
use Rattle.vortex_terms.specs.Term.{Term, null, boolean, primitive, decimal, utf8, binary, structure, list, extension, fixed_size_list, Fields, no_fields}
use Rattle.vortex_number.specs.WholeKind.{whole_kind}
use Rattle.vortex_schema.specs.declared.fields.FieldsAt.{FieldsAt}
use Rattle.vortex_schema.specs.declared.node.TypeNode.{TypeNode}
use Rattle.vortex_schema.specs.declared.node.TypeNode.TheVariants as nodes
use Rattle.vortex_schema.specs.declared.place.TypeAt.{TypeAt}
use Rattle.vortex_schema.specs.Reading.{bounded_type_at}
use Rattle.vortex_schema.specs.inner.InPlace.{fields_in}

-- the type at a place
abbrev pub term_at : TypeAt → Term
term_at at = unwrap_or (bounded_type_at at.bytes.now at.place) null

-- the fields of a struct at a place
abbrev pub fields_of : FieldsAt → Fields
fields_of fields = unwrap_or (fields_in fields.bytes.now fields.names.shape fields.dtypes.shape) no_fields

-- the type whose parts are at places
abbrev pub node_term : TypeNode → Term
node_term nodes.Null = null
node_term (nodes.Bool n) = boolean n
node_term (nodes.Primitive p n) = primitive (whole_kind p) n
node_term (nodes.Decimal s z n) = decimal s z n
node_term (nodes.Utf8 n) = utf8 n
node_term (nodes.Binary n) = binary n
node_term (nodes.Struct fs n) = structure (fields_of fs) n
node_term (nodes.List t n) = list (term_at t) n
node_term (nodes.Extension id t m) = extension id.now (term_at t) (option_copied m)
node_term (nodes.FixedSizeList t k n) = fixed_size_list (term_at t) k n
