-- Which rows a node stands for, given a type and how many rows there are (this project's own encodings). A node has
-- exactly the children and buffers that are named here; metadata that is not named is not looked at.
--     rows_of          the rows of a node, where places among names are encodings by f
--     validity_of      the mask that the children left are: under a nullable type there may be one last child, truth
--         values that are not null, and a row is null where it is false
use Rattle.std.specs.Prelude.{ℕ, ◌*◌, List, [], ◌∷◌, Bool, true, false, if◌then◌else◌, nat_le, Option, Some, None, map}
use Rattle.std.specs.Option.{option_map}
use Rattle.vortex_prelude.specs.Chain.{◌>>=◌}
use Rattle.vortex_wire.specs.Metadata.{list_metadata_of}
use Rattle.vortex_terms.specs.Term.{Term, null, boolean, primitive, decimal, utf8, binary, structure, list, extension, fixed_size_list, Fields, no_fields, field}
use Rattle.vortex_terms.specs.Row.{Row, null_row, truth_row, bytes_row, list_row, rows_from, copies}
use Rattle.vortex_body.specs.Node.{Node, node, Nodes, no_nodes, child}
use Rattle.vortex_terms.specs.FromColumns.{masked, list_rows, struct_rows}
use Rattle.vortex_node_rows.specs.Pieces.{chunks}
use Rattle.vortex_node_rows.specs.Buffers.{one_buffer, offsets_in}
use Rattle.vortex_node_rows.specs.Leaves.{truths_of, numbers_of, kind_format, decimals_of, pieces_of, are_texts, constant_rows}
use Rattle.vortex_node_rows.specs.declared.encoding.Encoding.{Encoding}
use Rattle.vortex_node_rows.specs.declared.encoding.Encoding.TheVariants as encoding

-- how many rows a node has at most
abbrev pub most_rows : ℕ
most_rows = 4294967295

-- a mask, or none
abbrev pub Validity : Type 0
Validity = Option (List Bool)

-- the rows of a node, and the mask that the children left are
abbrev pub Parts : Type 0
Parts = List Row × Validity

-- the truth value in a row
abbrev pub truth_of : Row → Bool
truth_of (truth_row b) = b
truth_of _ = false

-- the mask that one more child is, the last one, under a nullable type
unfoldable pub mask_in : Bool → Nodes → Option (List Row) → Option Validity
mask_in false cs rows = None
mask_in true no_nodes rows = option_map (λ rs. Some (map truth_of rs)) rows
mask_in true (child c cs) rows = None

-- the rows, null where they are masked
unfoldable pub masked_rows : Option (List Row) → Option Validity → Option (List Row)
masked_rows rows validity = do
  rs ← rows
  v ← validity
  Some (masked v rs)

-- texts: valid rows are UTF-8
unfoldable pub text_rows : Option (List (List ℕ)) → Option Validity → Option (List Row)
text_rows found validity = do
  ps ← found
  v ← validity
  if are_texts v ps then Some (masked v (map bytes_row ps)) else None

-- the elements between offsets, and the mask
unfoldable pub offset_lists : ℕ → ℕ → List (List ℕ) → Option Parts → Option (List Row)
offset_lists n count bs found = do
  b ← one_buffer bs
  os ← offsets_in n count b
  parts ← found
  Some (masked parts.1 (list_rows os parts.0))

-- k elements in each list, and the mask
unfoldable pub fixed_lists : ℕ → ℕ → List (List ℕ) → Option Parts → Option (List Row)
fixed_lists k n [] found =
    option_map (λ parts. masked parts.1 (map (λ rs. list_row (rows_from rs)) (chunks k n parts.0))) found
fixed_lists k n (b ∷ bs) found = None

-- the rows of each field side by side, and the mask
unfoldable pub structs : ℕ → List (List ℕ) → Option (List (List Row) × Validity) → Option (List Row)
structs n [] found = option_map (λ parts. masked parts.1 (struct_rows n parts.0)) found
structs n (b ∷ bs) found = None

-- nulls, where there are neither buffers nor children
unfoldable pub null_rows : ℕ → List (List ℕ) → Bool → Option (List Row)
null_rows n [] true = Some (copies n null_row)
null_rows n [] false = None
null_rows n (b ∷ bs) no_children = None

-- the rows of the storage, where there are no buffers
unfoldable pub storage_rows : List (List ℕ) → Option (List Row) → Option (List Row)
storage_rows [] found = found
storage_rows (b ∷ bs) found = None

-- what is found in a child, where no others come after it
unfoldable pub only_child : Nodes → Option (List Row) → Option (List Row)
only_child no_nodes found = found
only_child (child c cs) found = None

-- what the children of a node stand for, by what its encoding asks of them
pub record ChildRows : Type 0 where
  -- there are none
  pub none : Bool
  -- under a flag, the mask of so many rows that they are
  pub validity : Bool → ℕ → Option Validity
  -- so many elements of lists of a type, and under a flag the mask of so many lists
  pub elements : Term → Bool → ℕ → ℕ → Option Parts
  -- the rows of each field, and under a flag the mask of so many structs
  pub fields : Fields → Bool → ℕ → Option (List (List Row) × Validity)
  -- so many rows of a type, of the one child
  pub only : Term → ℕ → Option (List Row)

-- whether there are no children
abbrev pub has_none : Nodes → Bool
has_none no_nodes = true
has_none (child c cs) = false

-- n rows by encoding and type, from metadata, buffers and what the children stand for; no other pairs go together
unfoldable pub encoded_rows : Option Encoding → Term → ℕ → List ℕ → List (List ℕ) → ChildRows → Option (List Row)
encoded_rows (Some encoding.Null) null n m bs cs = null_rows n bs cs.none
encoded_rows (Some encoding.Bool) (boolean nl) n m bs cs = masked_rows (truths_of n bs) (cs.validity nl n)
encoded_rows (Some encoding.Primitive) (primitive k nl) n m bs cs =
    masked_rows (numbers_of (kind_format k) n bs) (cs.validity nl n)
encoded_rows (Some encoding.Decimal) (decimal p s nl) n m bs cs = masked_rows (decimals_of m n bs) (cs.validity nl n)
encoded_rows (Some encoding.VarBin) (utf8 nl) n m bs cs = text_rows (pieces_of n bs) (cs.validity nl n)
encoded_rows (Some encoding.VarBin) (binary nl) n m bs cs =
    masked_rows (option_map (map bytes_row) (pieces_of n bs)) (cs.validity nl n)
-- field 1 of the metadata tells how many elements there are
encoded_rows (Some encoding.List) (list t nl) n m bs cs = do
  meta ← list_metadata_of m
  offset_lists n meta.elements bs (cs.elements t nl meta.elements n)
encoded_rows (Some encoding.FixedSizeList) (fixed_size_list t k nl) n m bs cs =
    fixed_lists k n bs (cs.elements t nl (n * k) n)
encoded_rows (Some encoding.Struct) (structure fs nl) n m bs cs = structs n bs (cs.fields fs nl n)
encoded_rows (Some encoding.Ext) (extension id t x) n m bs cs = storage_rows bs (cs.only t n)
encoded_rows (Some encoding.Constant) t n m bs cs = if cs.none then constant_rows t n bs else None
encoded_rows _ _ _ _ _ _ = None

unfoldable mutual
  pub rows_of : (ℕ → Option Encoding) → Node → Term → ℕ → Option (List Row)
  rows_of f (node e m cs bs) t n =
      if nat_le n most_rows then encoded_rows (f e) t n m bs (record {
        none = has_none cs;
        validity = validity_of f cs;
        elements = elements_of f cs;
        fields = field_rows_of f cs;
        only = only_rows_of f cs;
      }) else None

  -- the mask that the children left are: none, or one of truth values
  pub validity_of : (ℕ → Option Encoding) → Nodes → Bool → ℕ → Option Validity
  validity_of f no_nodes nl n = Some None
  validity_of f (child c cs) nl n = mask_in nl cs (rows_of f c (boolean false) n)

  -- so many elements of lists, and the mask of the lists
  pub elements_of : (ℕ → Option Encoding) → Nodes → Term → Bool → ℕ → ℕ → Option Parts
  elements_of f no_nodes t nl count n = None
  elements_of f (child c cs) t nl count n = do
    rs ← rows_of f c t count
    v ← validity_of f cs nl n
    Some (rs, v)

  -- the rows of each field, and the mask of the structs
  pub field_rows_of : (ℕ → Option Encoding) → Nodes → Fields → Bool → ℕ → Option (List (List Row) × Validity)
  field_rows_of f no_nodes no_fields nl n = Some ([], None)
  field_rows_of f (child c cs) no_fields nl n =
      option_map (λ v. ([], v)) (mask_in nl cs (rows_of f c (boolean false) n))
  field_rows_of f no_nodes (field x t fs) nl n = None
  field_rows_of f (child c cs) (field x t fs) nl n = do
    rs ← rows_of f c t n
    rest ← field_rows_of f cs fs nl n
    Some (rs ∷ rest.0, rest.1)

  -- the rows of the one child
  pub only_rows_of : (ℕ → Option Encoding) → Nodes → Term → ℕ → Option (List Row)
  only_rows_of f no_nodes t n = None
  only_rows_of f (child c cs) t n = only_child cs (rows_of f c t n)
