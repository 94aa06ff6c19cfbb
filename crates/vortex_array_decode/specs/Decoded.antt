-- The rows of a node by its parts.
use Rattle.std.specs.Prelude.{ℕ, List, Bool, Option, Some}
use Rattle.vortex_terms.specs.Term.{Term}
use Rattle.vortex_terms.specs.Row.{Row}
use Rattle.vortex_prelude.specs.Chain.{◌>>=◌}
use Rattle.vortex_wire.specs.Metadata.{list_metadata_of}
use Rattle.vortex_body.specs.Node.{Node, Nodes, node_metadata, node_buffers, node_children}
use Rattle.vortex_node_rows.specs.declared.encoding.Encoding.{Encoding}
use Rattle.vortex_node_rows.specs.RowsOf.{ChildRows, encoded_rows, has_none, offset_lists, validity_of, elements_of, field_rows_of, only_rows_of}

-- what children stand for
abbrev pub children_of : (ℕ → Option Encoding) → Nodes → ChildRows
children_of f cs = record {
  none = has_none cs;
  validity = validity_of f cs;
  elements = elements_of f cs;
  fields = field_rows_of f cs;
  only = only_rows_of f cs;
}

-- the n rows of a node in an encoding
abbrev pub rows_in : (ℕ → Option Encoding) → Encoding → Node → Term → ℕ → Option (List Row)
rows_in f e x t n = encoded_rows (Some e) t n (node_metadata x) (node_buffers x) (children_of f (node_children x))

-- the lists of a node whose metadata tells how many elements there are
abbrev pub lists_in : (ℕ → Option Encoding) → Node → Term → Bool → ℕ → Option (List Row)
lists_in f x t nl n = do
  m ← list_metadata_of (node_metadata x)
  offset_lists n m.elements (node_buffers x) (elements_of f (node_children x) t nl m.elements n)
