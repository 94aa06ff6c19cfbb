-- Nodes of arrays that agree with those of bodies.
use Rattle.std.proofs.Common.{◌≡◌, ◌≤◌, ◌∙◌, ℕ, List, [], ◌∷◌, ◌++◌, ◌*◌, Bool, true, false, Option, Some, None, length, map, get_or, inl, inr, refl, sym, ap, subst}
use Rattle.std.specs.Prelude.{if◌then◌else◌, Result, Ok, Err, IfOk}
use Rattle.vortex_terms.specs.Term.{Term, structure, list, extension, fixed_size_list, Fields, no_fields, field}
use Rattle.vortex_terms.specs.Types.{types_of}
use Rattle.vortex_body.specs.Node.{Node, node, Nodes, no_nodes, child, nodes_from, node_encoding, node_children}
use Rattle.vortex_node_rows.specs.declared.encoding.Encoding.{Encoding}
use Rattle.vortex_node_rows.specs.declared.encoding.Encoding.TheVariants as encoding
use Rattle.vortex_node_rows.specs.RowsOf.{Validity}
use Rattle.vortex_array_data.specs.declared.error.ArrayError.{ArrayError}
use Rattle.vortex_array_data.specs.ArrayNode.{ArrayNode, array_node, ArrayNodes, no_array_nodes, array_child, array_nodes_before}
use Rattle.vortex_array_decode.specs.Agreement.{Part, part, parts_in, AreAside, Agrees, PartsAgree}
use Rattle.vortex_array_decode.specs.inner.Agreeing.{HeldAgrees}
use Rattle.vortex_array_data.specs.Column.{Column}
use Rattle.vortex_array_data.specs.Content.{has_false, mask_nodes, column_nodes}
use Rattle.vortex_array_decode.proofs.Nodes.{first_rest}

-- the child of a mask stands aside
pub mask_aside : (n : ℕ) (v : Validity) → AreAside n (mask_nodes n v)
mask_aside n None = inl refl
mask_aside n (Some m) = by (has_false m)
  where
    by : (b : Bool) → AreAside n (if b then array_child (array_node encoding.Bool n no_array_nodes) no_array_nodes
        else no_array_nodes)
    by true = inr refl
    by false = inl refl

-- rows without parts
pub leaf_agrees : (f : ℕ → Option Encoding) (e : Encoding) (t : Term) (n : ℕ) (x : Node) (v : Validity)
    → parts_in e t (Some n) ≡ [] → HeldAgrees f e t n x (array_node e n (mask_nodes n v))
leaf_agrees f e t n x v none = record {
  encoding = refl;
  count = refl;
  parts = subst (λ (ps : List Part). PartsAgree f n ps (node_children x) (mask_nodes n v)) (sym none)
      (mask_aside n v);
}

-- how rows are held, and the encoding that the place is
pub agrees_by : (f : ℕ → Option Encoding) (e : Encoding) (t : Term) (n : ℕ) (x : Node) (a b : ArrayNode)
    → f (node_encoding x) ≡ Some e → HeldAgrees f e t n x a → b ≡ a → Agrees f t (Some n) x b
agrees_by f e t n x a b known h is = subst (Agrees f t (Some n) x) (sym is) (of x a known h)
  where
    of : (x : Node) (a : ArrayNode) → f (node_encoding x) ≡ Some e → HeldAgrees f e t n x a → Agrees f t (Some n) x a
    of (node p m cs bs) (array_node d k ds) known h = (
      known ∙ ap Some (sym h.encoding),
      h.count,
      subst (λ (i : ℕ). PartsAgree f i (parts_in d t (Some n)) cs ds) (sym h.count)
          (subst (λ (c : Encoding). PartsAgree f n (parts_in c t (Some n)) cs ds) (sym h.encoding) h.parts),
    )

-- ---- where it is not told how many rows there are

abbrev forget : Part → Part
forget p = part p.dtype None

fields_forgotten : (fs : Fields) (count : Option ℕ)
    → map forget (map (λ t. part t count) (types_of fs)) ≡ map (λ t. part t None) (types_of fs)
fields_forgotten no_fields count = refl
fields_forgotten (field x t fs) count = ap (λ (ps : List Part). part t None ∷ ps) (fields_forgotten fs count)

forgotten : (e : Encoding) (t : Term) (count : Option ℕ) → map forget (parts_in e t count) ≡ parts_in e t None
forgotten encoding.List (list t nl) count = refl
forgotten encoding.FixedSizeList (fixed_size_list t k nl) count = refl
forgotten encoding.Struct (structure fs nl) count = fields_forgotten fs count
forgotten encoding.Ext (extension id t x) count = refl
forgotten _ _ _ = refl

mutual
  pub agrees_untold : (f : ℕ → Option Encoding) (t : Term) (count : Option ℕ) (x : Node) (a : ArrayNode)
      → Agrees f t count x a → Agrees f t None x a
  agrees_untold f t count (node p m cs bs) (array_node e n ds) h = (
    h.0,
    tt,
    subst (λ (ps : List Part). PartsAgree f n ps cs ds) (forgotten e t count)
        (parts_untold f n (parts_in e t count) cs ds h.2),
  )

  parts_untold : (f : ℕ → Option Encoding) (n : ℕ) (ps : List Part) (cs : Nodes) (ds : ArrayNodes)
      → PartsAgree f n ps cs ds → PartsAgree f n (map forget ps) cs ds
  parts_untold f n (p ∷ ps) (child x cs) (array_child a ds) h =
      (agrees_untold f p.dtype p.count x a h.0, parts_untold f n ps cs ds h.1)
  parts_untold f n [] cs ds h = h
  parts_untold f n (p ∷ ps) no_nodes ds h = absurd h
  parts_untold f n (p ∷ ps) (child x cs) no_array_nodes h = absurd h

-- ---- one part

-- the first of nodes in a slice is that of the part
pub first_agrees : (f : ℕ → Option Encoding) (ns : List Node) (x : Node) (t : Term) (count : Option ℕ) (n : ℕ)
    (a : ArrayNode) (v : Validity)
    → 1 ≤ length ns → x ≡ get_or ns 0 x → Agrees f t count x a
    → PartsAgree f n (part t count ∷ []) (nodes_from ns) (array_child a (mask_nodes n v))
first_agrees f ns x t count n a v some first h =
    subst (λ (cs : Nodes). PartsAgree f n (part t count ∷ []) cs (array_child a (mask_nodes n v)))
    (sym (first_rest ns x some first)) (h, mask_aside n v)

-- that of an answer
pub only_agrees : (r : Result Column ArrayError) (f : ℕ → Option Encoding) (ns : List Node) (x : Node) (t : Term)
    (n : ℕ)
    → 1 ≤ length ns → x ≡ get_or ns 0 x → IfOk r (λ (a : Column). Agrees f t (Some n) x a.node)
    → IfOk r (λ (a : Column). PartsAgree f n (part t (Some n) ∷ []) (nodes_from ns)
    (array_child a.node no_array_nodes))
only_agrees (Ok a) f ns x t n some first h = first_agrees f ns x t (Some n) n a.node None some first h
only_agrees (Err e) f ns x t n some first h = tt

-- a part of which it is not told how many rows there are
pub part_untold : (f : ℕ → Option Encoding) (n : ℕ) (t : Term) (count : Option ℕ) (cs : Nodes) (ds : ArrayNodes)
    → PartsAgree f n (part t count ∷ []) cs ds → PartsAgree f n (part t None ∷ []) cs ds
part_untold f n t count cs ds h = parts_untold f n (part t count ∷ []) cs ds h

-- parts in a slice are those of the node
pub parts_agree : (f : ℕ → Option Encoding) (e : Encoding) (t : Term) (n : ℕ) (x : Node) (cs : Nodes)
    (ds : ArrayNodes)
    → cs ≡ node_children x → PartsAgree f n (parts_in e t (Some n)) cs ds
    → HeldAgrees f e t n x (array_node e n ds)
parts_agree f e t n x cs ds is h = record {
  encoding = refl;
  count = refl;
  parts = subst (λ (c : Nodes). PartsAgree f n (parts_in e t (Some n)) c ds) is h;
}

-- lists, whose elements are as many as they are; b is a, shared
pub list_agrees : (f : ℕ → Option Encoding) (t : Term) (nl : Bool) (count n : ℕ) (x : Node) (cs : Nodes)
    (a b : Column) (v : Validity)
    → cs ≡ node_children x → b ≡ a
    → PartsAgree f n (part t (Some count) ∷ []) cs (array_child a.node (mask_nodes n v))
    → HeldAgrees f encoding.List (list t nl) n x (array_node encoding.List n (array_child b.node (mask_nodes n v)))
list_agrees f t nl count n x cs a b v is same h =
    let shared : PartsAgree f n (part t (Some count) ∷ []) cs (array_child b.node (mask_nodes n v)) = subst (λ
    (c : Column). PartsAgree f n (part t (Some count) ∷ []) cs (array_child c.node (mask_nodes n v))) (sym same) h in
    parts_agree f encoding.List (list t nl) n x cs (array_child b.node (mask_nodes n v)) is
    (part_untold f n t (Some count) cs (array_child b.node (mask_nodes n v)) shared)

-- ---- fields

-- one more column before others
pub nodes_joined : (cs : List Column) (c : Column) (ds : ArrayNodes)
    → array_nodes_before (column_nodes cs) (array_child c.node ds)
    ≡ array_nodes_before (column_nodes (cs ++ (c ∷ []))) ds
nodes_joined [] c ds = refl
nodes_joined (d ∷ cs) c ds = ap (array_child d.node) (nodes_joined cs c ds)

-- ---- what does not agree

pub numbers_differ : Some encoding.Primitive ≡ Some encoding.Constant → ⊥
numbers_differ e = cc

pub truths_differ : Some encoding.Primitive ≡ Some encoding.Bool → ⊥
truths_differ e = cc

-- numbers are no mask
pub no_mask : (n k : ℕ) → AreAside n (array_child (array_node encoding.Primitive k no_array_nodes) no_array_nodes) → ⊥
no_mask n k (inl e) = cc
no_mask n k (inr e) = cc
