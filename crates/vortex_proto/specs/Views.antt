-- What contracts see of a type whose parts are left where they stand.
use Rattle.std.specs.Option.{option_copied}
use Rattle.vortex_number.specs.WholeKind.{whole_kind}
use Rattle.vortex_wire.specs.Finds.{all_bytes_of}
use Rattle.vortex_proto.specs.declared.node.TypeMessage.{TypeMessage}
use Rattle.vortex_proto.specs.declared.node.TypeMessage.TheVariants as nodes
use Rattle.vortex_proto.specs.Reading.{Node, null_node, boolean_node, primitive_node, decimal_node, utf8_node, binary_node, structure_node, list_node, extension_node, fixed_size_list_node}

-- the node, without where its parts lie in memory
abbrev pub node_of : TypeMessage → Node
node_of nodes.Null = null_node
node_of (nodes.Bool n) = boolean_node n
node_of (nodes.Primitive p n) = primitive_node (whole_kind p) n
node_of (nodes.Decimal p s n) = decimal_node p s n
node_of (nodes.Utf8 n) = utf8_node n
node_of (nodes.Binary n) = binary_node n
node_of (nodes.Struct names parts n) = structure_node (all_bytes_of names.items) (all_bytes_of parts.items) n
node_of (nodes.List part n) = list_node part.now n
node_of (nodes.Extension id part m) = extension_node id.now part.now (option_copied m)
node_of (nodes.FixedSizeList part k n) = fixed_size_list_node part.now k n
