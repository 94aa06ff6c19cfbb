-- The columns in a column, by how it is held.
use Rattle.std.proofs.Common.{◌≡◌, ◌∙◌, ℕ, zero, suc, List, [], ◌∷◌, false, Option, Some, None, length, refl, sym, ap, subst, true≢false}
use Rattle.std.specs.Prelude.{slice_get, is_some, ◌&&◌}
use Rattle.std.proofs.lemmas.Option.{slice_get-map}
use Rattle.std.specs.Option.{option_map}
use Rattle.vortex_terms.specs.Term.{Term, null, boolean, primitive, decimal, utf8, binary, structure, list, extension, fixed_size_list, Fields, no_fields, field}
use Rattle.vortex_terms.specs.Types.{types_of, part_at}
use Rattle.vortex_terms.specs.Row.{Row, list_row}
use Rattle.vortex_terms.specs.FromColumns.{masked, struct_rows}
use Rattle.vortex_types.specs.DTypes.{term_of}
use Rattle.vortex_node_rows.specs.RowsOf.{Validity}
use Rattle.vortex_array_data.specs.ArrayNode.{ArrayNode, array_node, ArrayNodes, array_nodes_before, array_encoding, array_children}
use Rattle.vortex_node_rows.specs.declared.encoding.Encoding.TheVariants as encoding
use Rattle.vortex_array_data.specs.Column.{Column}
use Rattle.vortex_array_data.specs.Content.{content_rows, content_node, mask_nodes, column_nodes, column_rows, column_of, IsArray, IsMask, IsShaped, AreFields, is_maskable}
use Rattle.vortex_array_data.specs.PartColumns.{array_child_at, is_struct, is_ext, has_field, has_storage, IsField, IsStorage}
use Rattle.vortex_array_data.specs.declared.held.Content.{Content}
use Rattle.vortex_array_data.specs.declared.held.Content.TheVariants.{Nulls, Truths, Numbers, Decimals, Texts, Lists, FixedLists, Structs, Storage, Constant}
use Rattle.vortex_array_data.specs.declared.held.Array.TheInside.{Inside}
use Rattle.vortex_array_data.proofs.ValidLists.{under_mask}
use Rattle.vortex_array_data.proofs.PartRows.{struct_part, field_column}

none_some : {A : Type 0} (x : A) → None ≡ Some x → ⊥
none_some x e = cc

same : {A : Type 0} (x y : A) → Some x ≡ Some y → x ≡ y
same x y e = cc

-- a column by its parts
abbrev pub shown_as : Content → Term → ℕ → Validity → Column
shown_as c t n v = record {
  dtype = t;
  rows = masked v (content_rows c t n);
  node = content_node c n (mask_nodes n v);
}

-- ---- storage

abbrev pub storage_in : Content → Option Column
storage_in Nulls = None
storage_in (Truths m) = None
storage_in (Numbers a) = None
storage_in (Decimals a) = None
storage_in (Texts a) = None
storage_in (Lists os es) = None
storage_in (FixedLists k es) = None
storage_in (Structs fields) = None
storage_in (Storage a) = Some a.value
storage_in (Constant c) = None

no_mask : (n : ℕ) (v : Validity) (rs : List Row) → IsMask n false v → masked v rs ≡ rs
no_mask n None rs h = refl
no_mask n (Some m) rs h = absurd (true≢false (sym h.1))

held_storage : (c : Content) (t : Term) (n : ℕ) (v : Validity) (s : Column) → IsShaped c t n
    → IsMask n (is_maskable t) v → storage_in c ≡ Some s → IsStorage (shown_as c t n v) s
held_storage Nulls t n v s h k e = absurd (none_some s e)
held_storage (Truths m) t n v s h k e = absurd (none_some s e)
held_storage (Numbers a) t n v s h k e = absurd (none_some s e)
held_storage (Decimals a) t n v s h k e = absurd (none_some s e)
held_storage (Texts a) t n v s h k e = absurd (none_some s e)
held_storage (Lists os es) t n v s h k e = absurd (none_some s e)
held_storage (FixedLists j es) t n v s h k e = absurd (none_some s e)
held_storage (Structs fields) t n v s h k e = absurd (none_some s e)
held_storage (Constant x) t n v s h k e = absurd (none_some s e)
held_storage (Storage a) null n v s h k e = absurd h
held_storage (Storage a) (boolean nl) n v s h k e = absurd h
held_storage (Storage a) (primitive kind nl) n v s h k e = absurd h
held_storage (Storage a) (decimal p q nl) n v s h k e = absurd h
held_storage (Storage a) (utf8 nl) n v s h k e = absurd h
held_storage (Storage a) (binary nl) n v s h k e = absurd h
held_storage (Storage a) (structure fs nl) n v s h k e = absurd h
held_storage (Storage a) (list t nl) n v s h k e = absurd h
held_storage (Storage a) (fixed_size_list t size nl) n v s h k e = absurd h
held_storage (Storage a) (extension id t x) n v s h k e =
    let is : a.value ≡ s = same a.value s e in
    record {
      dtype = ap Some (sym h.0) ∙ ap (λ (c : Column). Some c.dtype) is;
      rows = ap (λ (c : Column). c.rows) (sym is) ∙ sym (no_mask n v a.value.rows k);
      node = ap (λ (c : Column). Some c.node) is;
    }

pub storage_is : (a : Inside) (c s : Column) → IsArray a → column_of a ≡ c → storage_in a.held.content ≡ Some s
    → IsStorage c s
storage_is a c s h is e =
    subst (λ (c : Column). IsStorage c s) is
    (held_storage a.held.content (term_of a.dtype) a.len a.held.validity s h.shape h.mask e)

pub storage_there : (a : Inside) (c : Column) → column_of a ≡ c → is_some (storage_in a.held.content) ≡ has_storage c
storage_there a c is = by a.held.content a.len (mask_nodes a.len a.held.validity) ∙ ap has_storage is
  where
    by : (x : Content) (n : ℕ) (v : ArrayNodes) → is_some (storage_in x) ≡ is_ext (array_encoding (content_node x n v))
    by Nulls n v = refl
    by (Truths m) n v = refl
    by (Numbers a) n v = refl
    by (Decimals a) n v = refl
    by (Texts a) n v = refl
    by (Lists os es) n v = refl
    by (FixedLists k es) n v = refl
    by (Structs fields) n v = refl
    by (Storage s) n v = refl
    by (Constant c) n v = refl

-- ---- fields

abbrev pub fields_in : Content → Option (List Column)
fields_in Nulls = None
fields_in (Truths m) = None
fields_in (Numbers a) = None
fields_in (Decimals a) = None
fields_in (Texts a) = None
fields_in (Lists os es) = None
fields_in (FixedLists k es) = None
fields_in (Structs fields) = Some fields.items
fields_in (Storage a) = None
fields_in (Constant c) = None

node_at : (cs : List Column) (v : ArrayNodes) (i : ℕ) (f : Column) → slice_get cs i ≡ Some f
    → array_child_at (array_nodes_before (column_nodes cs) v) i ≡ Some f.node
node_at [] v i f e = absurd (none_some f e)
node_at (c ∷ cs) v zero f e = ap (λ (a : Column). Some a.node) (same c f e)
node_at (c ∷ cs) v (suc i) f e = node_at cs v i f e

column_at : (cs : List Column) (i : ℕ) (f : Column) → slice_get cs i ≡ Some f
    → slice_get (column_rows cs) i ≡ Some f.rows
column_at cs i f e = slice_get-map (λ (c : Column). c.rows) cs i ∙ ap (option_map (λ (c : Column). c.rows)) e

-- what is so of a field at a place among the columns of structs
pub record Fielded (t : Term) (n : ℕ) (cs : List Column) (i : ℕ) (f : Column) : Type 0 where
  pub dtype : part_at t i ≡ Some f.dtype
  pub count : length f.rows ≡ n

fielded : (cs : List Column) (c : Content) (t : Term) (n i : ℕ) (f : Column) → fields_in c ≡ Some cs → IsShaped c t n
    → slice_get cs i ≡ Some f → Fielded t n cs i f
fielded cs Nulls t n i f e h k = absurd (none_some cs e)
fielded cs (Truths m) t n i f e h k = absurd (none_some cs e)
fielded cs (Numbers a) t n i f e h k = absurd (none_some cs e)
fielded cs (Decimals a) t n i f e h k = absurd (none_some cs e)
fielded cs (Texts a) t n i f e h k = absurd (none_some cs e)
fielded cs (Lists os es) t n i f e h k = absurd (none_some cs e)
fielded cs (FixedLists j es) t n i f e h k = absurd (none_some cs e)
fielded cs (Storage a) t n i f e h k = absurd (none_some cs e)
fielded cs (Constant x) t n i f e h k = absurd (none_some cs e)
fielded cs (Structs fields) null n i f e h k = absurd h
fielded cs (Structs fields) (boolean nl) n i f e h k = absurd h
fielded cs (Structs fields) (primitive kind nl) n i f e h k = absurd h
fielded cs (Structs fields) (decimal p q nl) n i f e h k = absurd h
fielded cs (Structs fields) (utf8 nl) n i f e h k = absurd h
fielded cs (Structs fields) (binary nl) n i f e h k = absurd h
fielded cs (Structs fields) (list t nl) n i f e h k = absurd h
fielded cs (Structs fields) (extension id t x) n i f e h k = absurd h
fielded cs (Structs fields) (fixed_size_list t size nl) n i f e h k = absurd h
fielded cs (Structs fields) (structure fs nl) n i f e h k =
    let all : AreFields n fs cs = subst (AreFields n fs) (same fields.items cs e) h in
    let column = field_column n fs cs i f all k in
    record { dtype = column.0; count = column.1 }

fields_rows : (cs : List Column) (c : Content) (t : Term) (n : ℕ) → fields_in c ≡ Some cs
    → content_rows c t n ≡ struct_rows n (column_rows cs)
fields_rows cs Nulls t n e = absurd (none_some cs e)
fields_rows cs (Truths m) t n e = absurd (none_some cs e)
fields_rows cs (Numbers a) t n e = absurd (none_some cs e)
fields_rows cs (Decimals a) t n e = absurd (none_some cs e)
fields_rows cs (Texts a) t n e = absurd (none_some cs e)
fields_rows cs (Lists os es) t n e = absurd (none_some cs e)
fields_rows cs (FixedLists j es) t n e = absurd (none_some cs e)
fields_rows cs (Storage a) t n e = absurd (none_some cs e)
fields_rows cs (Constant x) t n e = absurd (none_some cs e)
fields_rows cs (Structs fields) t n e = ap (λ (l : List Column). struct_rows n (column_rows l)) (same fields.items cs e)

fields_node : (cs : List Column) (c : Content) (n : ℕ) (v : ArrayNodes) → fields_in c ≡ Some cs
    → content_node c n v ≡ array_node encoding.Struct n (array_nodes_before (column_nodes cs) v)
fields_node cs Nulls n v e = absurd (none_some cs e)
fields_node cs (Truths m) n v e = absurd (none_some cs e)
fields_node cs (Numbers a) n v e = absurd (none_some cs e)
fields_node cs (Decimals a) n v e = absurd (none_some cs e)
fields_node cs (Texts a) n v e = absurd (none_some cs e)
fields_node cs (Lists os es) n v e = absurd (none_some cs e)
fields_node cs (FixedLists j es) n v e = absurd (none_some cs e)
fields_node cs (Storage a) n v e = absurd (none_some cs e)
fields_node cs (Constant x) n v e = absurd (none_some cs e)
fields_node cs (Structs fields) n v e =
    ap (λ (l : List Column). array_node encoding.Struct n (array_nodes_before (column_nodes l) v)) (same fields.items cs e)

held_field : (cs : List Column) (c : Content) (t : Term) (n i : ℕ) (v : Validity) (f : Column) → fields_in c ≡ Some cs
    → IsShaped c t n → n ≡ length (masked v (content_rows c t n)) → slice_get cs i ≡ Some f
    → IsField (shown_as c t n v) i f
held_field cs c t n i v f e h count k =
    let known = fielded cs c t n i f e h k in
    record {
      dtype = known.dtype;
      count = known.count ∙ count;
      node = ap (λ (x : ArrayNode). array_child_at (array_children x) i) (fields_node cs c n (mask_nodes n v) e)
          ∙ node_at cs (mask_nodes n v) i f k;
      inside = λ j rs found. struct_part n (column_rows cs) j rs
          (sym (ap (λ (l : List Row). slice_get l j) (fields_rows cs c t n e))
          ∙ under_mask v (content_rows c t n) j (list_row rs) found refl) i f.rows (column_at cs i f k);
    }

pub field_is : (a : Inside) (c : Column) (cs : List Column) (i : ℕ) (f : Column) → IsArray a → column_of a ≡ c
    → fields_in a.held.content ≡ Some cs → slice_get cs i ≡ Some f → IsField c i f
field_is a c cs i f h is e k =
    subst (λ (c : Column). IsField c i f) is
    (held_field cs a.held.content (term_of a.dtype) a.len i a.held.validity f e h.shape h.count k)

types_there : (n : ℕ) (fs : Fields) (cs : List Column) (i : ℕ) → AreFields n fs cs
    → is_some (slice_get cs i) ≡ is_some (slice_get (types_of fs) i)
types_there n no_fields [] i h = refl
types_there n no_fields (c ∷ cs) i h = absurd h
types_there n (field x t fs) [] i h = absurd h
types_there n (field x t fs) (c ∷ cs) zero h = refl
types_there n (field x t fs) (c ∷ cs) (suc i) h = types_there n fs cs i h.1

parts_there : (cs : List Column) (c : Content) (t : Term) (n i : ℕ) → fields_in c ≡ Some cs → IsShaped c t n
    → is_some (slice_get cs i) ≡ is_some (part_at t i)
parts_there cs Nulls t n i e h = absurd (none_some cs e)
parts_there cs (Truths m) t n i e h = absurd (none_some cs e)
parts_there cs (Numbers a) t n i e h = absurd (none_some cs e)
parts_there cs (Decimals a) t n i e h = absurd (none_some cs e)
parts_there cs (Texts a) t n i e h = absurd (none_some cs e)
parts_there cs (Lists os es) t n i e h = absurd (none_some cs e)
parts_there cs (FixedLists j es) t n i e h = absurd (none_some cs e)
parts_there cs (Storage a) t n i e h = absurd (none_some cs e)
parts_there cs (Constant x) t n i e h = absurd (none_some cs e)
parts_there cs (Structs fields) null n i e h = absurd h
parts_there cs (Structs fields) (boolean nl) n i e h = absurd h
parts_there cs (Structs fields) (primitive kind nl) n i e h = absurd h
parts_there cs (Structs fields) (decimal p q nl) n i e h = absurd h
parts_there cs (Structs fields) (utf8 nl) n i e h = absurd h
parts_there cs (Structs fields) (binary nl) n i e h = absurd h
parts_there cs (Structs fields) (list t nl) n i e h = absurd h
parts_there cs (Structs fields) (extension id t x) n i e h = absurd h
parts_there cs (Structs fields) (fixed_size_list t size nl) n i e h = absurd h
parts_there cs (Structs fields) (structure fs nl) n i e h =
    types_there n fs cs i (subst (AreFields n fs) (same fields.items cs e) h)

-- there is a field at each place below their number
pub field_there : (a : Inside) (c : Column) (cs : List Column) (i : ℕ) → IsArray a → column_of a ≡ c
    → fields_in a.held.content ≡ Some cs → is_some (slice_get cs i) ≡ has_field c i
field_there a c cs i h is e =
    parts_there cs a.held.content (term_of a.dtype) a.len i e h.shape
    ∙ ap (λ (x : ArrayNode). is_struct (array_encoding x) && is_some (part_at (term_of a.dtype) i))
    (sym (fields_node cs a.held.content a.len (mask_nodes a.len a.held.validity) e))
    ∙ ap (λ (c : Column). has_field c i) is
