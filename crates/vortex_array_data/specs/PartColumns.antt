-- The columns in a column.
--     array_child_at     the child of a node at a place
--     has_field          whether the structs of a column have a field at a place in a column of its own
--     IsField            what such a field is
--     has_storage        whether the extensions of a column have their storage in a column of its own
--     IsStorage          what that storage is
use Rattle.std.specs.Prelude.{◌≡◌, ℕ, zero, suc, Bool, true, false, ◌&&◌, Option, Some, None, is_some, length, slice_get}
use Rattle.vortex_terms.specs.Types.{part_at}
use Rattle.vortex_terms.specs.Row.{Rows, list_row, row_at}
use Rattle.vortex_node_rows.specs.declared.encoding.Encoding.{Encoding}
use Rattle.vortex_node_rows.specs.declared.encoding.Encoding.TheVariants as encoding
use Rattle.vortex_array_data.specs.ArrayNode.{ArrayNode, ArrayNodes, no_array_nodes, array_child, array_encoding, array_children}
use Rattle.vortex_array_data.specs.Column.{Column}

-- the child at a place
abbrev pub array_child_at : ArrayNodes → ℕ → Option ArrayNode
array_child_at no_array_nodes i = None
array_child_at (array_child n ns) zero = Some n
array_child_at (array_child n ns) (suc i) = array_child_at ns i

abbrev pub is_struct : Encoding → Bool
is_struct encoding.Struct = true
is_struct _ = false

abbrev pub is_ext : Encoding → Bool
is_ext encoding.Ext = true
is_ext _ = false

-- the encoding is that of structs, and there is a field at the place
abbrev pub has_field : Column → ℕ → Bool
has_field a i = is_struct (array_encoding a.node) && is_some (part_at a.dtype i)

-- field i of the structs: it has the field's type, as many rows, that child of the node, and what is inside each struct
-- that is not null
pub record IsField (a : Column) (i : ℕ) (f : Column) : Type 0 where
  pub dtype : part_at a.dtype i ≡ Some f.dtype
  pub count : length f.rows ≡ length a.rows
  pub node : array_child_at (array_children a.node) i ≡ Some f.node
  pub inside : (j : ℕ) (rs : Rows) → slice_get a.rows j ≡ Some (list_row rs) → row_at rs i ≡ slice_get f.rows j

abbrev pub has_storage : Column → Bool
has_storage a = is_ext (array_encoding a.node)

-- the storage of the extensions: it has the storage's type, the same rows, and the child of the node
pub record IsStorage (a : Column) (s : Column) : Type 0 where
  pub dtype : part_at a.dtype 0 ≡ Some s.dtype
  pub rows : s.rows ≡ a.rows
  pub node : array_child_at (array_children a.node) 0 ≡ Some s.node
