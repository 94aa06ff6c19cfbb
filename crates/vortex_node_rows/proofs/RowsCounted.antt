-- A node stands for as many rows as were asked for, and its mask for as many.
use Rattle.std.proofs.Common.{◌≡◌, ◌≤◌, ℕ, ◌*◌, List, [], ◌∷◌, Bool, true, false, Option, Some, None, map, length, refl, ◌∙◌, subst}
use Rattle.std.specs.Prelude.{if◌then◌else◌, nat_le, option_and_then}
use Rattle.std.specs.Option.{option_map}
use Rattle.std.proofs.lemmas.Bool.{leb-true}
use Rattle.std.proofs.lemmas.List.{length-map}
use Rattle.vortex_terms.specs.Term.{Term, null, boolean, primitive, decimal, utf8, binary, structure, list, extension, fixed_size_list, Fields, no_fields, field}
use Rattle.vortex_terms.specs.Row.{Row}
use Rattle.vortex_terms.specs.FromColumns.{AreLong}
use Rattle.vortex_wire.specs.Metadata.{list_metadata_of}
use Rattle.vortex_wire.specs.declared.metadata.ListMetadata.{ListMetadata}
use Rattle.vortex_body.specs.Node.{Node, node, Nodes, no_nodes, child}
use Rattle.vortex_node_rows.specs.Leaves.{truths_of, numbers_of, kind_format, decimals_of, pieces_of, constant_rows}
use Rattle.vortex_node_rows.specs.RowsOf.{Validity, Parts, ChildRows, truth_of, mask_in, only_child, storage_rows, offset_lists, has_none, most_rows, encoded_rows, rows_of, validity_of, elements_of, field_rows_of, only_rows_of}
use Rattle.vortex_node_rows.specs.declared.encoding.Encoding.{Encoding}
use Rattle.vortex_node_rows.specs.declared.encoding.Encoding.TheVariants as encoding
use Rattle.vortex_node_rows.proofs.Options.{some_same, none_some, bind_some}
use Rattle.vortex_node_rows.proofs.Masks.{IsMask, masked_rows_count}
use Rattle.vortex_node_rows.proofs.Truths.{truths_count}
use Rattle.vortex_node_rows.proofs.Numbers.{numbers_count, decimals_count}
use Rattle.vortex_node_rows.proofs.Texts.{pieces_count, binary_count, texts_count}
use Rattle.vortex_node_rows.proofs.Lists.{lists_count, fixed_count}
use Rattle.vortex_node_rows.proofs.Structs.{structs_count}
use Rattle.vortex_node_rows.proofs.Constants.{constant_count, nulls_count}

-- what the children stand for is as many
pub record AreCounted (cs : ChildRows) : Type 0 where
  pub mask : (nl : Bool) (n : ℕ) (v : Validity) → cs.validity nl n ≡ Some v → IsMask n nl v
  pub elements : (t : Term) (nl : Bool) (count n : ℕ) (p : Parts) → cs.elements t nl count n ≡ Some p
      → (length p.0 ≡ count) × IsMask n nl p.1
  pub fields : (fs : Fields) (nl : Bool) (n : ℕ) (p : List (List Row) × Validity) → cs.fields fs nl n ≡ Some p
      → AreLong n p.0 × IsMask n nl p.1
  pub only : (t : Term) (n : ℕ) (rs : List Row) → cs.only t n ≡ Some rs → length rs ≡ n

pub storage_found : (bs : List (List ℕ)) (found : Option (List Row)) (rs : List Row) → storage_rows bs found ≡ Some rs
    → found ≡ Some rs
unfolding storage_rows
storage_found [] found rs e = e
storage_found (b ∷ bs) found rs e = absurd (none_some rs e)

-- so many elements, of which the metadata tells
pub list_found : (m : List ℕ) (f : ℕ → Option (List Row)) (rs : List Row)
    → option_and_then (λ (meta : ListMetadata). f meta.elements) (list_metadata_of m) ≡ Some rs
    → (count : ℕ) × (f count ≡ Some rs)
list_found m f rs e =
    let meta = bind_some (list_metadata_of m) (λ (meta : ListMetadata). f meta.elements) rs e in
    (meta.0.elements, meta.2)

pub alone_found : (b : Bool) (found : Option (List Row)) (rs : List Row) → (if b then found else None) ≡ Some rs
    → found ≡ Some rs
alone_found true found rs e = e
alone_found false found rs e = absurd (none_some rs e)

pub encoded_count : (e : Option Encoding) (t : Term) (n : ℕ) (m : List ℕ) (bs : List (List ℕ)) (cs : ChildRows)
    (rs : List Row) → AreCounted cs → encoded_rows e t n m bs cs ≡ Some rs → length rs ≡ n
unfolding encoded_rows
encoded_count (Some encoding.Null) null n m bs cs rs k e = nulls_count n bs cs.none rs e
encoded_count (Some encoding.Bool) (boolean nl) n m bs cs rs k e =
    masked_rows_count n nl (truths_of n bs) (cs.validity nl n) rs (truths_count n bs) (k.mask nl n) e
encoded_count (Some encoding.Primitive) (primitive w nl) n m bs cs rs k e =
    masked_rows_count n nl (numbers_of (kind_format w) n bs) (cs.validity nl n) rs
    (numbers_count (kind_format w) n bs) (k.mask nl n) e
encoded_count (Some encoding.Decimal) (decimal p s nl) n m bs cs rs k e =
    masked_rows_count n nl (decimals_of m n bs) (cs.validity nl n) rs (decimals_count m n bs) (k.mask nl n) e
encoded_count (Some encoding.VarBin) (utf8 nl) n m bs cs rs k e =
    texts_count n nl (pieces_of n bs) (cs.validity nl n) rs (pieces_count n bs) (k.mask nl n) e
encoded_count (Some encoding.VarBin) (binary nl) n m bs cs rs k e =
    masked_rows_count n nl (option_map _ (pieces_of n bs)) (cs.validity nl n) rs (binary_count n bs) (k.mask nl n) e
encoded_count (Some encoding.List) (list t nl) n m bs cs rs k e =
    let f = list_found m (λ count. offset_lists n count bs (cs.elements t nl count n)) rs e in
    lists_count n f.0 nl bs (cs.elements t nl f.0 n) rs (λ p h. (k.elements t nl f.0 n p h).1) f.1
encoded_count (Some encoding.FixedSizeList) (fixed_size_list t w nl) n m bs cs rs k e =
    fixed_count w n nl bs (cs.elements t nl (n * w) n) rs (λ p h. (k.elements t nl (n * w) n p h).1) e
encoded_count (Some encoding.Struct) (structure fs nl) n m bs cs rs k e =
    structs_count n nl bs (cs.fields fs nl n) rs (k.fields fs nl n) e
encoded_count (Some encoding.Ext) (extension id t x) n m bs cs rs k e =
    k.only t n rs (storage_found bs (cs.only t n) rs e)
encoded_count (Some encoding.Constant) t n m bs cs rs k e =
    constant_count t n bs rs (alone_found cs.none (constant_rows t n bs) rs e)
encoded_count _ _ _ _ _ _ rs k e = absurd (none_some rs e)

-- ---- children

pub mask_found : (nl : Bool) (cs : Nodes) (found : Option (List Row)) (n : ℕ) (v : Validity)
    → ((rs : List Row) → found ≡ Some rs → length rs ≡ n) → mask_in nl cs found ≡ Some v → IsMask n nl v
unfolding mask_in
mask_found false cs found n v h e = absurd (none_some v e)
mask_found true (child c cs) found n v h e = absurd (none_some v e)
mask_found true no_nodes None n v h e = absurd (none_some v e)
mask_found true no_nodes (Some rs) n v h e =
    subst (IsMask n true) (some_same (Some (map truth_of rs)) v e) (length-map rs truth_of ∙ h rs refl, refl)

elements_found : (r : Option (List Row)) (v : Option Validity) (count n : ℕ) (nl : Bool) (p : Parts)
    → ((rs : List Row) → r ≡ Some rs → length rs ≡ count) → ((m : Validity) → v ≡ Some m → IsMask n nl m)
    → option_and_then (λ rs. option_and_then (λ m. Some (rs, m)) v) r ≡ Some p
    → (length p.0 ≡ count) × IsMask n nl p.1
elements_found None v count n nl p h k e = absurd (none_some p e)
elements_found (Some rs) None count n nl p h k e = absurd (none_some p e)
elements_found (Some rs) (Some m) count n nl p h k e =
    subst (λ (q : Parts). (length q.0 ≡ count) × IsMask n nl q.1) (some_same (rs, m) p e) (h rs refl, k m refl)

-- columns as long as asked for, and a mask
abbrev pub ColumnsCounted : ℕ → Bool → List (List Row) × Validity → Type 0
ColumnsCounted n nl p = AreLong n p.0 × IsMask n nl p.1

no_columns : (v : Option Validity) (n : ℕ) (nl : Bool) (p : List (List Row) × Validity)
    → ((m : Validity) → v ≡ Some m → IsMask n nl m) → option_map (λ m. ([], m)) v ≡ Some p → ColumnsCounted n nl p
no_columns None n nl p k e = absurd (none_some p e)
no_columns (Some m) n nl p k e = subst (ColumnsCounted n nl) (some_same ([], m) p e) (tt, k m refl)

one_column : (r : Option (List Row)) (rest : Option (List (List Row) × Validity)) (n : ℕ) (nl : Bool)
    (p : List (List Row) × Validity) → ((rs : List Row) → r ≡ Some rs → length rs ≡ n)
    → ((q : List (List Row) × Validity) → rest ≡ Some q → ColumnsCounted n nl q)
    → option_and_then (λ rs. option_and_then (λ (q : List (List Row) × Validity). Some (rs ∷ q.0, q.1)) rest) r ≡ Some p
    → ColumnsCounted n nl p
one_column None rest n nl p h k e = absurd (none_some p e)
one_column (Some rs) None n nl p h k e = absurd (none_some p e)
one_column (Some rs) (Some q) n nl p h k e =
    let known = k q refl in
    subst (ColumnsCounted n nl) (some_same (rs ∷ q.0, q.1) p e) ((h rs refl, known.0), known.1)

pub only_found : (cs : Nodes) (found : Option (List Row)) (rs : List Row) → only_child cs found ≡ Some rs
    → found ≡ Some rs
unfolding only_child
only_found no_nodes found rs e = e
only_found (child c cs) found rs e = absurd (none_some rs e)

few_found : (b : Bool) (found : Option (List Row)) (rs : List Row) → (if b then found else None) ≡ Some rs
    → (b ≡ true) × (found ≡ Some rs)
few_found true found rs e = (refl, e)
few_found false found rs e = absurd (none_some rs e)

-- what the children of a node stand for
abbrev pub rows_under : (ℕ → Option Encoding) → Nodes → ChildRows
rows_under f cs = record {
  none = has_none cs;
  validity = validity_of f cs;
  elements = elements_of f cs;
  fields = field_rows_of f cs;
  only = only_rows_of f cs;
}

-- few rows were asked for, and these are what the encoding says
pub node_found : (f : ℕ → Option Encoding) (e : ℕ) (m : List ℕ) (cs : Nodes) (bs : List (List ℕ)) (t : Term) (n : ℕ)
    (rs : List Row) → rows_of f (node e m cs bs) t n ≡ Some rs
    → (n ≤ most_rows) × (encoded_rows (f e) t n m bs (rows_under f cs) ≡ Some rs)
unfolding rows_of
node_found f e m cs bs t n rs h =
    let g = few_found (nat_le n most_rows) (encoded_rows (f e) t n m bs (rows_under f cs)) rs h in
    (leb-true n most_rows g.0, g.1)

mutual
  unfolding rows_of

  pub rows_count : (f : ℕ → Option Encoding) (x : Node) (t : Term) (n : ℕ) (rs : List Row) → rows_of f x t n ≡ Some rs
      → length rs ≡ n
  rows_count f (node e m cs bs) t n rs h =
      encoded_count (f e) t n m bs (rows_under f cs) rs (record {
        mask = validity_count f cs;
        elements = elements_count f cs;
        fields = columns_count f cs;
        only = only_count f cs;
      }) (node_found f e m cs bs t n rs h).1

  pub validity_count : (f : ℕ → Option Encoding) (cs : Nodes) (nl : Bool) (n : ℕ) (v : Validity)
      → validity_of f cs nl n ≡ Some v → IsMask n nl v
  validity_count f no_nodes nl n v h = subst (IsMask n nl) (some_same None v h) tt
  validity_count f (child c cs) nl n v h =
      mask_found nl cs (rows_of f c (boolean false) n) n v (rows_count f c (boolean false) n) h

  pub elements_count : (f : ℕ → Option Encoding) (cs : Nodes) (t : Term) (nl : Bool) (count n : ℕ) (p : Parts)
      → elements_of f cs t nl count n ≡ Some p → (length p.0 ≡ count) × IsMask n nl p.1
  elements_count f no_nodes t nl count n p h = absurd (none_some p h)
  elements_count f (child c cs) t nl count n p h =
      elements_found (rows_of f c t count) (validity_of f cs nl n) count n nl p (rows_count f c t count)
      (validity_count f cs nl n) h

  pub columns_count : (f : ℕ → Option Encoding) (cs : Nodes) (fs : Fields) (nl : Bool) (n : ℕ)
      (p : List (List Row) × Validity) → field_rows_of f cs fs nl n ≡ Some p → ColumnsCounted n nl p
  columns_count f no_nodes no_fields nl n p h = subst (ColumnsCounted n nl) (some_same ([], None) p h) (tt, tt)
  columns_count f (child c cs) no_fields nl n p h =
      no_columns (mask_in nl cs (rows_of f c (boolean false) n)) n nl p
      (λ v. mask_found nl cs (rows_of f c (boolean false) n) n v (rows_count f c (boolean false) n)) h
  columns_count f no_nodes (field x t fs) nl n p h = absurd (none_some p h)
  columns_count f (child c cs) (field x t fs) nl n p h =
      one_column (rows_of f c t n) (field_rows_of f cs fs nl n) n nl p (rows_count f c t n)
      (columns_count f cs fs nl n) h

  pub only_count : (f : ℕ → Option Encoding) (cs : Nodes) (t : Term) (n : ℕ) (rs : List Row)
      → only_rows_of f cs t n ≡ Some rs → length rs ≡ n
  only_count f no_nodes t n rs h = absurd (none_some rs h)
  only_count f (child c cs) t n rs h =
      rows_count f c t n rs (only_found cs (rows_of f c t n) rs h)

pub children_count : (f : ℕ → Option Encoding) (cs : Nodes) → AreCounted (rows_under f cs)
children_count f cs = record {
  mask = validity_count f cs;
  elements = elements_count f cs;
  fields = columns_count f cs;
  only = only_count f cs;
}

pub rows_are_few : (f : ℕ → Option Encoding) (x : Node) (t : Term) (n : ℕ) (rs : List Row)
    → rows_of f x t n ≡ Some rs → n ≤ most_rows
rows_are_few f (node e m cs bs) t n rs h = (node_found f e m cs bs t n rs h).0
