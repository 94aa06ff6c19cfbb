-- Nodes without constants.
use Rattle.std.proofs.Common.{◌≡◌, ℕ, List, [], ◌∷◌, Bool, true, false, Some, None, refl, sym, ap, ◌∙◌}
use Rattle.std.specs.Prelude.{if◌then◌else◌, ◌&&◌}
use Rattle.vortex_node_rows.specs.declared.encoding.Encoding.TheVariants as encoding
use Rattle.vortex_node_rows.specs.RowsOf.{Validity}
use Rattle.vortex_array_data.specs.ArrayNode.{ArrayNode, array_node, ArrayNodes, no_array_nodes, array_child, array_nodes_before}
use Rattle.vortex_array_data.specs.Constants.{is_canonical, are_canonical}
use Rattle.vortex_array_data.specs.Column.{Column}
use Rattle.vortex_array_data.specs.Content.{column_nodes, column_of, content_node, has_false, held_node, mask_nodes}
use Rattle.vortex_array_data.specs.declared.held.Content.{Content}
use Rattle.vortex_array_data.specs.declared.held.Content.TheVariants.{Nulls, Truths, Numbers, Decimals, Texts, Lists, FixedLists, Structs, Storage, Constant}
use Rattle.vortex_array_data.specs.declared.held.Held.{Held}
use Rattle.vortex_array_data.specs.declared.held.Array.TheInside.{Inside}
use Rattle.vortex_array_data.specs.inner.Picked.{are_plain_columns, is_plain_content, ArePickedColumns}

pub both_true : (a b : Bool) → a ≡ true → b ≡ true → (a && b) ≡ true
both_true a b e f = ap (λ (x : Bool). x && b) e ∙ f

pub first_true : (a b : Bool) → (a && b) ≡ true → a ≡ true
first_true true b e = refl
first_true false b e = e

pub second_true : (a b : Bool) → (a && b) ≡ true → b ≡ true
second_true true b e = e
second_true false b e = absurd (cc)

-- ---- children

pub child_plain : (a b : Bool) → (a ≡ true → b ≡ true) → (a && true) ≡ true → (b && true) ≡ true
child_plain a b f e = both_true b true (f (first_true a true e)) refl

pub columns_plain : (ps : List ℕ) (cs ds : List Column) → ArePickedColumns ps cs ds → are_plain_columns cs ≡ true
    → are_plain_columns ds ≡ true
columns_plain ps [] [] p e = refl
columns_plain ps (c ∷ cs) (d ∷ ds) p e =
    both_true (is_canonical d.node) (are_plain_columns ds) (p.0.canonical (first_true (is_canonical c.node) (are_plain_columns cs) e))
    (columns_plain ps cs ds p.1 (second_true (is_canonical c.node) (are_plain_columns cs) e))
columns_plain ps [] (d ∷ ds) p e = absurd p
columns_plain ps (c ∷ cs) [] p e = absurd p

-- ---- masks

pub masks_plain : (n : ℕ) (m : Validity) → are_canonical (mask_nodes n m) ≡ true
masks_plain n None = refl
masks_plain n (Some m) = by (has_false m)
  where
    by : (b : Bool)
        → are_canonical (if b then array_child (array_node encoding.Bool n no_array_nodes) no_array_nodes else no_array_nodes) ≡ true
    by true = refl
    by false = refl

before_plain : (ns : List ArrayNode) (v : ArrayNodes) → are_canonical v ≡ true
    → are_canonical (array_nodes_before ns v) ≡ are_canonical (array_nodes_before ns no_array_nodes)
before_plain [] v e = e
before_plain (n ∷ ns) v e = ap (λ (b : Bool). is_canonical n && b) (before_plain ns v e)

-- a mask adds no constant
pub content_plain : (n : ℕ) (v : ArrayNodes) (c : Content) → are_canonical v ≡ true
    → is_canonical (content_node c n v) ≡ is_plain_content c
content_plain n v Nulls e = e
content_plain n v (Truths m) e = e
content_plain n v (Numbers a) e = e
content_plain n v (Decimals a) e = e
content_plain n v (Texts a) e = e
content_plain n v (Lists os es) e = ap (λ (b : Bool). is_canonical es.value.node && b) e
content_plain n v (FixedLists k es) e = ap (λ (b : Bool). is_canonical es.value.node && b) e
content_plain n v (Structs fields) e = before_plain (column_nodes fields.items) v e
content_plain n v (Storage a) e = ap (λ (b : Bool). is_canonical a.value.node && b) e
content_plain n v (Constant c) e = refl

pub held_plain : (n : ℕ) (h : Held) → is_canonical (held_node n h) ≡ is_plain_content h.content
held_plain n h = content_plain n (mask_nodes n h.validity) h.content (masks_plain n h.validity)

-- ---- arrays

pub inside_plain : (a : Inside) (x : Column) → column_of a ≡ x → is_canonical x.node ≡ is_plain_content a.held.content
inside_plain a x v = ap (λ (c : Column). is_canonical c.node) (sym v) ∙ held_plain a.len a.held

pub made_plain : (n : ℕ) (h : Held) (m : ArrayNode) → m ≡ held_node n h → is_canonical m ≡ is_plain_content h.content
made_plain n h m e = ap is_canonical e ∙ held_plain n h

pub picked_plain : (a : Inside) (x : Column) (h : Held) (n : ℕ) (m : ArrayNode) → column_of a ≡ x → m ≡ held_node n h
    → (is_plain_content a.held.content ≡ true → is_plain_content h.content ≡ true) → is_canonical x.node ≡ true
    → is_canonical m ≡ true
picked_plain a x h n m v e f k = made_plain n h m e ∙ f (sym (inside_plain a x v) ∙ k)
