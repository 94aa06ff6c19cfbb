-- What an array is seen as, from how it is held.
--     content_rows, held_rows      the rows, and those with nulls where a mask is false
--     content_node                 the node
--     IsShaped                     the content is one of the type, with a place for each of n rows
--     IsArray                      what is so of each array
use Rattle.std.specs.Prelude.{◌≡◌, ◌*◌, if◌then◌else◌, ℕ, List, [], ◌∷◌, Bool, true, false, Some, None, IsTrue, map, length}
use Rattle.std.specs.Option.{IsSome}
use Rattle.vortex_terms.specs.Term.{Term, null, boolean, primitive, decimal, utf8, binary, structure, list, extension, fixed_size_list, Fields, no_fields, field}
use Rattle.vortex_terms.specs.Types.{nullable}
use Rattle.vortex_terms.specs.Row.{Row, null_row, truth_row, bytes_row, list_row, rows_from, copies}
use Rattle.vortex_types.specs.DTypes.{term_of}
use Rattle.vortex_value_rows.specs.RowOf.{row_under, fitting_row}
use Rattle.vortex_node_rows.specs.declared.encoding.Encoding.TheVariants as encoding
use Rattle.vortex_terms.specs.FromColumns.{masked, list_rows, struct_rows}
use Rattle.vortex_node_rows.specs.Pieces.{chunks}
use Rattle.vortex_node_rows.specs.Leaves.{kind_format}
use Rattle.vortex_node_rows.specs.RowsOf.{Validity}
use Rattle.vortex_leaves.specs.Numbers.{number_rows}
use Rattle.vortex_leaves.specs.Texts.{AreOffsets, text_pieces}
use Rattle.vortex_array_data.specs.ArrayNode.{ArrayNode, array_node, ArrayNodes, no_array_nodes, array_child, array_nodes_before}
use Rattle.vortex_array_data.specs.Column.{Column, Holds}
use Rattle.vortex_array_data.specs.declared.held.Content.{Content}
use Rattle.vortex_array_data.specs.declared.held.Content.TheVariants.{Nulls, Truths, Numbers, Decimals, Texts, Lists, FixedLists, Structs, Storage, Constant}
use Rattle.vortex_array_data.specs.declared.held.Held.{Held}
use Rattle.vortex_array_data.specs.declared.held.Array.TheInside.{Inside}

-- the rows of the fields of structs
abbrev pub column_rows : List Column → List (List Row)
column_rows cs = map (λ c. c.rows) cs

-- the rows, but for which are null
abbrev pub content_rows : Content → Term → ℕ → List Row
content_rows Nulls t n = copies n null_row
content_rows (Truths m) t n = map truth_row m
content_rows (Numbers a) t n = number_rows a
content_rows (Decimals a) t n = number_rows a
content_rows (Texts a) t n = map bytes_row (text_pieces a)
content_rows (Lists os es) t n = list_rows os es.value.rows
content_rows (FixedLists k es) t n = map (λ rs. list_row (rows_from rs)) (chunks k n es.value.rows)
content_rows (Structs fields) t n = struct_rows n (column_rows fields.items)
content_rows (Storage a) t n = a.value.rows
content_rows (Constant v) t n = copies n (row_under t v)

-- with nulls where the mask is false
abbrev pub held_rows : Term → ℕ → Held → List Row
held_rows t n h = masked h.validity (content_rows h.content t n)

-- how many of a list's values are false, as a test of one
abbrev pub has_false : List Bool → Bool
has_false [] = false
has_false (true ∷ m) = has_false m
has_false (false ∷ m) = true

-- the child of a mask, which is there exactly where a row is null
abbrev pub mask_nodes : ℕ → Validity → ArrayNodes
mask_nodes n None = no_array_nodes
mask_nodes n (Some m) =
    if has_false m then array_child (array_node encoding.Bool n no_array_nodes) no_array_nodes else no_array_nodes

-- the nodes of the fields of structs
abbrev pub column_nodes : List Column → List ArrayNode
column_nodes cs = map (λ c. c.node) cs

abbrev pub content_node : Content → ℕ → ArrayNodes → ArrayNode
content_node Nulls n v = array_node encoding.Null n v
content_node (Truths m) n v = array_node encoding.Bool n v
content_node (Numbers a) n v = array_node encoding.Primitive n v
content_node (Decimals a) n v = array_node encoding.Decimal n v
content_node (Texts a) n v = array_node encoding.VarBin n v
content_node (Lists os es) n v = array_node encoding.List n (array_child es.value.node v)
content_node (FixedLists k es) n v = array_node encoding.FixedSizeList n (array_child es.value.node v)
content_node (Structs fields) n v = array_node encoding.Struct n (array_nodes_before (column_nodes fields.items) v)
content_node (Storage a) n v = array_node encoding.Ext n (array_child a.value.node v)
content_node (Constant c) n v = array_node encoding.Constant n v

abbrev pub held_node : ℕ → Held → ArrayNode
held_node n h = content_node h.content n (mask_nodes n h.validity)

-- an array of the type with so many rows
abbrev pub IsColumn : Term → ℕ → Column → Type 0
IsColumn t n c = (c.dtype ≡ t) × (length c.rows ≡ n)

-- the columns are those of the fields, of n rows each
abbrev pub AreFields : ℕ → Fields → List Column → Type 0
AreFields n no_fields [] = Unit {0}
AreFields n (field x t fs) (c ∷ cs) = IsColumn t n c × AreFields n fs cs
AreFields n _ _ = ⊥

-- the content is one of the type, with a place for each of n rows
abbrev pub IsShaped : Content → Term → ℕ → Type 0
IsShaped Nulls null n = Unit {0}
IsShaped (Truths m) (boolean nl) n = length m ≡ n
IsShaped (Numbers a) (primitive k nl) n = (a.format ≡ kind_format k) × (a.count ≡ n)
IsShaped (Decimals a) (decimal p s nl) n = a.count ≡ n
IsShaped (Texts a) (utf8 nl) n = length (text_pieces a) ≡ n
IsShaped (Texts a) (binary nl) n = length (text_pieces a) ≡ n
IsShaped (Lists os es) (list t nl) n = (es.value.dtype ≡ t) × AreOffsets n (length es.value.rows) os
IsShaped (FixedLists j es) (fixed_size_list t k nl) n = (j ≡ k) × IsColumn t (n * k) es.value
IsShaped (Structs cs) (structure fs nl) n = AreFields n fs cs.items
IsShaped (Storage a) (extension id t x) n = IsColumn t n a.value
IsShaped (Constant v) t n = IsSome (fitting_row t v)
IsShaped _ _ _ = ⊥

-- whether rows of the type may be masked: an extension has the nulls of its storage, and no mask beside
abbrev pub is_maskable : Term → Bool
is_maskable (extension id t x) = false
is_maskable t = nullable t

-- a mask of n, which there is under a nullable type alone
abbrev pub IsMask : ℕ → Bool → Validity → Type 0
IsMask n nl None = Unit {0}
IsMask n nl (Some m) = (length m ≡ n) × IsTrue nl

-- how an array is seen
abbrev pub column_of : Inside → Column
column_of a = record {
  dtype = term_of a.dtype;
  rows = held_rows (term_of a.dtype) a.len a.held;
  node = held_node a.len a.held;
}

-- what is so of each array
pub record IsArray (a : Inside) : Type 0 where
  pub shape : IsShaped a.held.content (term_of a.dtype) a.len
  pub mask : IsMask a.len (is_maskable (term_of a.dtype)) a.held.validity
  pub count : a.len ≡ length (column_of a).rows
  pub holds : Holds (column_of a)
