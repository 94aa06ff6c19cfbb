-- The rows of a node of bytes fit their type.
use Rattle.std.proofs.Common.{◌≡◌, ℕ, ◌*◌, List, [], ◌∷◌, Bool, false, Option, Some, None, refl, subst}
use Rattle.std.specs.Prelude.{option_and_then}
use Rattle.std.specs.List.{AllByRecursion}
use Rattle.std.specs.Option.{option_map}
use Rattle.vortex_terms.specs.Term.{Term, null, boolean, primitive, decimal, utf8, binary, structure, list, extension, fixed_size_list, Fields, no_fields, field}
use Rattle.vortex_terms.specs.Types.{IsBytes}
use Rattle.vortex_terms.specs.Row.{Row}
use Rattle.vortex_terms.specs.Fits.{Fits}
use Rattle.vortex_body.specs.Node.{Node, node, Nodes, no_nodes, child}
use Rattle.vortex_node_rows.specs.ByteNode.{IsByteNode, AreByteNodes}
use Rattle.vortex_node_rows.specs.Leaves.{truths_of, numbers_of, kind_format, decimals_of, pieces_of, constant_rows}
use Rattle.vortex_node_rows.specs.RowsOf.{Validity, Parts, ChildRows, mask_in, offset_lists, encoded_rows, rows_of, validity_of, elements_of, field_rows_of, only_rows_of}
use Rattle.vortex_node_rows.specs.declared.encoding.Encoding.{Encoding}
use Rattle.vortex_node_rows.specs.declared.encoding.Encoding.TheVariants as encoding
use Rattle.vortex_node_rows.proofs.Options.{some_same, none_some}
use Rattle.vortex_node_rows.proofs.Masks.{masked_rows_fit}
use Rattle.vortex_node_rows.proofs.Truths.{truths_fit}
use Rattle.vortex_node_rows.proofs.Numbers.{kinds_fit, decimals_fit}
use Rattle.vortex_node_rows.proofs.Texts.{binary_fit, texts_fit}
use Rattle.vortex_node_rows.proofs.Lists.{lists_fit, fixed_fit}
use Rattle.vortex_node_rows.proofs.Structs.{ColumnsFit, structs_fit}
use Rattle.vortex_node_rows.proofs.Constants.{constant_fit, nulls_fit}
use Rattle.vortex_node_rows.proofs.RowsCounted.{AreCounted, storage_found, list_found, alone_found, only_found, node_found, rows_under, children_count}

-- what the children stand for fits
pub record AreFitting (cs : ChildRows) : Type 0 where
  pub elements : (t : Term) (nl : Bool) (count n : ℕ) (p : Parts) → cs.elements t nl count n ≡ Some p
      → AllByRecursion (Fits t) p.0
  pub fields : (fs : Fields) (nl : Bool) (n : ℕ) (p : List (List Row) × Validity) → cs.fields fs nl n ≡ Some p
      → ColumnsFit fs p.0
  pub only : (t : Term) (n : ℕ) (rs : List Row) → cs.only t n ≡ Some rs → AllByRecursion (Fits t) rs

extended_fit : (id : List ℕ) (t : Term) (x : Option (List ℕ)) (rs : List Row) → AllByRecursion (Fits t) rs
    → AllByRecursion (Fits (extension id t x)) rs
extended_fit id t x [] h = tt
extended_fit id t x (r ∷ rs) h = (h.0, extended_fit id t x rs h.1)

pub encoded_fit : (e : Option Encoding) (t : Term) (n : ℕ) (m : List ℕ) (bs : List (List ℕ)) (cs : ChildRows)
    (rs : List Row) → AllByRecursion IsBytes bs → AreCounted cs → AreFitting cs → encoded_rows e t n m bs cs ≡ Some rs
    → AllByRecursion (Fits t) rs
unfolding encoded_rows
encoded_fit (Some encoding.Null) null n m bs cs rs b k h e = nulls_fit n bs cs.none rs e
encoded_fit (Some encoding.Bool) (boolean nl) n m bs cs rs b k h e =
    masked_rows_fit (Fits (boolean nl)) n nl (truths_of n bs) (cs.validity nl n) rs (λ z. z)
    (truths_fit nl n bs) (k.mask nl n) e
encoded_fit (Some encoding.Primitive) (primitive w nl) n m bs cs rs b k h e =
    masked_rows_fit (Fits (primitive w nl)) n nl (numbers_of (kind_format w) n bs) (cs.validity nl n) rs (λ z. z)
    (λ r. kinds_fit w nl n bs r b) (k.mask nl n) e
encoded_fit (Some encoding.Decimal) (decimal p s nl) n m bs cs rs b k h e =
    masked_rows_fit (Fits (decimal p s nl)) n nl (decimals_of m n bs) (cs.validity nl n) rs (λ z. z)
    (λ r. decimals_fit p s nl m n bs r b) (k.mask nl n) e
encoded_fit (Some encoding.VarBin) (utf8 nl) n m bs cs rs b k h e =
    texts_fit n nl (pieces_of n bs) (cs.validity nl n) rs (k.mask nl n) e
encoded_fit (Some encoding.VarBin) (binary nl) n m bs cs rs b k h e =
    masked_rows_fit (Fits (binary nl)) n nl (option_map _ (pieces_of n bs)) (cs.validity nl n) rs (λ z. z)
    (λ r. binary_fit nl n bs r b) (k.mask nl n) e
encoded_fit (Some encoding.List) (list t nl) n m bs cs rs b k h e =
    let f = list_found m (λ count. offset_lists n count bs (cs.elements t nl count n)) rs e in
    lists_fit t n f.0 nl bs (cs.elements t nl f.0 n) rs (λ p g. (k.elements t nl f.0 n p g).1)
    (h.elements t nl f.0 n) f.1
encoded_fit (Some encoding.FixedSizeList) (fixed_size_list t w nl) n m bs cs rs b k h e =
    fixed_fit t w n nl bs (cs.elements t nl (n * w) n) rs (k.elements t nl (n * w) n) (h.elements t nl (n * w) n) e
encoded_fit (Some encoding.Struct) (structure fs nl) n m bs cs rs b k h e =
    structs_fit fs n nl bs (cs.fields fs nl n) rs (k.fields fs nl n) (h.fields fs nl n) e
encoded_fit (Some encoding.Ext) (extension id t x) n m bs cs rs b k h e =
    extended_fit id t x rs (h.only t n rs (storage_found bs (cs.only t n) rs e))
encoded_fit (Some encoding.Constant) t n m bs cs rs b k h e =
    constant_fit t n bs rs (alone_found cs.none (constant_rows t n bs) rs e)
encoded_fit _ _ _ _ _ _ rs b k h e = absurd (none_some rs e)

-- ---- children

elements_fitting : (t : Term) (r : Option (List Row)) (v : Option Validity) (p : Parts)
    → ((rs : List Row) → r ≡ Some rs → AllByRecursion (Fits t) rs)
    → option_and_then (λ rs. option_and_then (λ m. Some (rs, m)) v) r ≡ Some p → AllByRecursion (Fits t) p.0
elements_fitting t None v p h e = absurd (none_some p e)
elements_fitting t (Some rs) None p h e = absurd (none_some p e)
elements_fitting t (Some rs) (Some m) p h e =
    subst (λ (q : Parts). AllByRecursion (Fits t) q.0) (some_same (rs, m) p e) (h rs refl)

no_columns : (v : Option Validity) (p : List (List Row) × Validity) → option_map (λ m. ([], m)) v ≡ Some p
    → ColumnsFit no_fields p.0
no_columns None p e = absurd (none_some p e)
no_columns (Some m) p e =
    subst (λ (q : List (List Row) × Validity). ColumnsFit no_fields q.0) (some_same ([], m) p e) tt

one_column : (x : List ℕ) (t : Term) (fs : Fields) (r : Option (List Row))
    (rest : Option (List (List Row) × Validity)) (p : List (List Row) × Validity)
    → ((rs : List Row) → r ≡ Some rs → AllByRecursion (Fits t) rs)
    → ((q : List (List Row) × Validity) → rest ≡ Some q → ColumnsFit fs q.0)
    → option_and_then (λ rs. option_and_then (λ (q : List (List Row) × Validity). Some (rs ∷ q.0, q.1)) rest) r ≡ Some p
    → ColumnsFit (field x t fs) p.0
one_column x t fs None rest p h k e = absurd (none_some p e)
one_column x t fs (Some rs) None p h k e = absurd (none_some p e)
one_column x t fs (Some rs) (Some q) p h k e =
    subst (λ (q : List (List Row) × Validity). ColumnsFit (field x t fs) q.0) (some_same (rs ∷ q.0, q.1) p e)
    (h rs refl, k q refl)

mutual
  unfolding rows_of

  pub rows_fitting : (f : ℕ → Option Encoding) (x : Node) (t : Term) (n : ℕ) (rs : List Row) → IsByteNode x
      → rows_of f x t n ≡ Some rs → AllByRecursion (Fits t) rs
  rows_fitting f (node e m cs bs) t n rs b h =
      encoded_fit (f e) t n m bs (rows_under f cs) rs b.1 (children_count f cs) (record {
        elements = λ t nl count n p. elements_of_fit f cs t nl count n p b.2;
        fields = λ fs nl n p. columns_fit f cs fs nl n p b.2;
        only = λ t n rs. only_fit f cs t n rs b.2;
      }) (node_found f e m cs bs t n rs h).1

  pub elements_of_fit : (f : ℕ → Option Encoding) (cs : Nodes) (t : Term) (nl : Bool) (count n : ℕ) (p : Parts)
      → AreByteNodes cs → elements_of f cs t nl count n ≡ Some p → AllByRecursion (Fits t) p.0
  elements_of_fit f no_nodes t nl count n p b h = absurd (none_some p h)
  elements_of_fit f (child c cs) t nl count n p b h =
      elements_fitting t (rows_of f c t count) (validity_of f cs nl n) p (λ rs. rows_fitting f c t count rs b.0) h

  pub columns_fit : (f : ℕ → Option Encoding) (cs : Nodes) (fs : Fields) (nl : Bool) (n : ℕ)
      (p : List (List Row) × Validity) → AreByteNodes cs → field_rows_of f cs fs nl n ≡ Some p → ColumnsFit fs p.0
  columns_fit f no_nodes no_fields nl n p b h =
      subst (λ (q : List (List Row) × Validity). ColumnsFit no_fields q.0) (some_same ([], None) p h) tt
  columns_fit f (child c cs) no_fields nl n p b h = no_columns (mask_in nl cs (rows_of f c (boolean false) n)) p h
  columns_fit f no_nodes (field x t fs) nl n p b h = absurd (none_some p h)
  columns_fit f (child c cs) (field x t fs) nl n p b h =
      one_column x t fs (rows_of f c t n) (field_rows_of f cs fs nl n) p (λ rs. rows_fitting f c t n rs b.0)
      (λ q. columns_fit f cs fs nl n q b.1) h

  pub only_fit : (f : ℕ → Option Encoding) (cs : Nodes) (t : Term) (n : ℕ) (rs : List Row)
      → AreByteNodes cs → only_rows_of f cs t n ≡ Some rs → AllByRecursion (Fits t) rs
  only_fit f no_nodes t n rs b h = absurd (none_some rs h)
  only_fit f (child c cs) t n rs b h =
      rows_fitting f c t n rs b.0 (only_found cs (rows_of f c t n) rs h)
