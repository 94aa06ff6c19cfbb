-- Nodes whose metadata and buffers are bytes: `IsByteNode`, `AreByteNodes`.
use Rattle.std.specs.List.{AllByRecursion}
use Rattle.vortex_terms.specs.Types.{IsBytes}
use Rattle.vortex_body.specs.Node.{Node, node, Nodes, no_nodes, child}

abbrev mutual
  pub IsByteNode : Node → Type 0
  IsByteNode (node e m cs bs) = IsBytes m × AllByRecursion IsBytes bs × AreByteNodes cs

  -- so is each child
  pub AreByteNodes : Nodes → Type 0
  AreByteNodes no_nodes = Unit {0}
  AreByteNodes (child n ns) = IsByteNode n × AreByteNodes ns
