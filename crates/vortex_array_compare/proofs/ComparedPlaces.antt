-- How the row of an array at a place compares with a value, by how the array is held.
use Rattle.std.specs.Prelude.{slice_get, slice_range}
use Rattle.std.proofs.Common.{Bor, ◌≡◌, ◌<◌, ◌+◌, ◌-◌, ◌*◌, ◌∙◌, get_or, ℕ, zero, suc, ℤ, List, [], ◌∷◌, Bool, true, false, Option, Some, None, map, length, replicate, refl, sym, ap, subst, arith}
use Rattle.std.specs.List.{AllByRecursion}
use Rattle.std.specs.Option.{option_map, IsSome, unwrap_or}
use Rattle.std.specs.declared.cmp.Ordering.{Ordering}
use Rattle.std.specs.declared.cmp.Ordering.TheVariants.{Greater}
use Rattle.std.proofs.lemmas.List.{length-map}
use Rattle.std.proofs.lemmas.Option.{slice_get-map, slice_get-get_or, get_or_from_slice_get}
use Rattle.vortex_terms.specs.FromColumns.{zip_map, inside_structs, struct_rows, list_rows, pieces}
use Rattle.vortex_terms.specs.Order.{row_cmp, rows_cmp}
use Rattle.vortex_terms.specs.Row.{Row, null_row, truth_row, whole_row, bytes_row, list_row, Rows, no_rows, row, rows_from}
use Rattle.vortex_terms.specs.Term.{Term, null, boolean, primitive, decimal, utf8, binary, structure, list, extension, fixed_size_list, Fields, no_fields, field}
use Rattle.vortex_types.specs.DTypes.{term_of}
use Rattle.vortex_scalar_value.specs.Value.{ValueTerm, values_from}
use Rattle.vortex_value_rows.specs.HeldRow.{held_row, rows_inside, rows_under}
use Rattle.vortex_value_rows.specs.Inside.{InTerm, every, each, in_of, in_rows}
use Rattle.vortex_value_rows.specs.RowOf.{row_of, row_under, row_before, field_rows}
use Rattle.vortex_value_rows.specs.declared.row_refs.RowRef.{RowRef}
use Rattle.vortex_value_rows.specs.declared.row_refs.RowRef.TheVariants as refs
use Rattle.vortex_value_rows.proofs.Walks.{list_is, inside_some, inside_is}
use Rattle.vortex_leaves.proofs.Rising.{piece_there}
use Rattle.vortex_leaves.specs.Numbers.{NumberBytes, number_rows}
use Rattle.vortex_leaves.specs.Texts.{TextBytes, text_pieces}
use Rattle.vortex_array_data.specs.ArrayNode.{ArrayNodes, array_node_count}
use Rattle.vortex_array_data.specs.Column.{Column}
use Rattle.vortex_array_data.specs.Content.{content_node, content_rows, column_of, column_rows, mask_nodes, IsArray, IsShaped, AreFields}
use Rattle.vortex_array_data.specs.ValidRows.{valid_at}
use Rattle.vortex_array_data.specs.declared.held.Content.{Content}
use Rattle.vortex_array_data.specs.declared.held.Content.TheVariants.{Nulls, Truths, Numbers, Decimals, Texts, Lists, FixedLists, Structs, Storage, Constant}
use Rattle.vortex_array_data.specs.declared.held.Array.TheInside.{Inside}
use Rattle.vortex_array_compare.specs.inner.ComparedRows.{row_in, leaf_cmp, rows_at, rows_beside, HaveRows}
use Rattle.vortex_array_data.proofs.ValidLists.{shown_place, hidden_place}
use Rattle.vortex_array_data.proofs.HeldRows.{held_count}
use Rattle.vortex_array_data.proofs.HeldParts.{fields_in, storage_in}
use Rattle.vortex_array_data.proofs.HeldValues.{lists_in, lists_are, fixed_in, fixed_are, place_below, content_below, copies_at}
use Rattle.vortex_array_data.proofs.ValueRows.{chunk_place}

none_some : {A : Type 0} (x : A) → None ≡ Some x → ⊥
none_some x e = cc

same : {A : Type 0} (x y : A) → Some x ≡ Some y → x ≡ y
same x y e = cc

-- ---- rows that are no lists

abbrev pub IsLeaf : Row → Type 0
IsLeaf null_row = Unit {0}
IsLeaf (truth_row b) = Unit {0}
IsLeaf (whole_row z) = Unit {0}
IsLeaf (bytes_row bs) = Unit {0}
IsLeaf (list_row rs) = ⊥

beside_list : (r : Row) (vs : Bor (List ValueTerm)) (rs : Rows) → IsLeaf r → leaf_cmp r (refs.List vs) ≡ row_cmp r (list_row rs)
beside_list null_row vs rs h = refl
beside_list (truth_row b) vs rs h = refl
beside_list (whole_row z) vs rs h = refl
beside_list (bytes_row bs) vs rs h = refl
beside_list (list_row qs) vs rs h = absurd h

leaf_beside : (t : Term) (r : Row) (x : RowRef) → IsLeaf r → IsSome (held_row t x)
    → leaf_cmp r x ≡ row_cmp r (unwrap_or (held_row t x) null_row)
leaf_beside t null_row refs.Null h k = refl
leaf_beside t null_row (refs.Truth c) h k = refl
leaf_beside t null_row (refs.Whole y) h k = refl
leaf_beside t null_row (refs.Bytes cs) h k = refl
leaf_beside t (truth_row b) refs.Null h k = refl
leaf_beside t (truth_row b) (refs.Truth c) h k = refl
leaf_beside t (truth_row b) (refs.Whole y) h k = refl
leaf_beside t (truth_row b) (refs.Bytes cs) h k = refl
leaf_beside t (whole_row z) refs.Null h k = refl
leaf_beside t (whole_row z) (refs.Truth c) h k = refl
leaf_beside t (whole_row z) (refs.Whole y) h k = refl
leaf_beside t (whole_row z) (refs.Bytes cs) h k = refl
leaf_beside t (bytes_row bs) refs.Null h k = refl
leaf_beside t (bytes_row bs) (refs.Truth c) h k = refl
leaf_beside t (bytes_row bs) (refs.Whole y) h k = refl
leaf_beside t (bytes_row bs) (refs.Bytes cs) h k = refl
leaf_beside t r (refs.List vs) h k =
    let there = list_is (rows_inside t (values_from vs.now)) k in
    beside_list r vs (unwrap_or (rows_inside t (values_from vs.now)) no_rows) h ∙ ap (row_cmp r) (sym there)
leaf_beside t (list_row rs) refs.Null h k = absurd h
leaf_beside t (list_row rs) (refs.Truth c) h k = absurd h
leaf_beside t (list_row rs) (refs.Whole y) h k = absurd h
leaf_beside t (list_row rs) (refs.Bytes cs) h k = absurd h

leaf_order : (t : Term) (r : Row) (x : RowRef) (v : ValueTerm) → IsLeaf r → held_row t x ≡ row_of t v → IsSome (row_of t v)
    → leaf_cmp r x ≡ row_cmp r (row_under t v)
leaf_order t r x v h e k =
    leaf_beside t r x h (subst IsSome (sym e) k) ∙ ap (λ (o : Option Row). row_cmp r (unwrap_or o null_row)) e

-- a list is behind what is none
list_beside : (t : Term) (rs : Rows) (x : RowRef) → ((vs : Bor (List ValueTerm)) → x ≡ refs.List vs → ⊥)
    → Greater ≡ row_cmp (list_row rs) (unwrap_or (held_row t x) null_row)
list_beside t rs refs.Null h = refl
list_beside t rs (refs.Truth b) h = refl
list_beside t rs (refs.Whole z) h = refl
list_beside t rs (refs.Bytes bs) h = refl
list_beside t rs (refs.List vs) h = absurd (h vs refl)

-- ---- the row at a place

-- the value is held so, under the type of an array
pub record IsHeld (t : Term) (x : RowRef) (v : ValueTerm) : Type 0 where
  pub held : held_row t x ≡ row_of t v
  pub some : IsSome (row_of t v)

pub own_held : (a : Inside) (c : Column) (u : Term) (x : RowRef) (v : ValueTerm) → column_of a ≡ c → u ≡ term_of a.dtype
    → held_row u x ≡ row_of u v → IsSome (row_of c.dtype v) → IsHeld c.dtype x v
own_held a c u x v is e held some =
    let type : u ≡ c.dtype = e ∙ ap (λ (c : Column). c.dtype) is in
    record { held = subst (λ (t : Term). held_row t x ≡ row_of t v) type held; some = some }

-- the row of the content at a place where the mask shows it
pub record IsShown (a : Inside) (c : Column) (i : ℕ) : Type 0 where
  pub array : IsArray a
  pub view : column_of a ≡ c
  pub below : i < length c.rows
  pub valid : valid_at a.held.validity i ≡ true

pub shown : (a : Inside) (c : Column) (i : ℕ) → IsArray a → column_of a ≡ c → i < length c.rows
    → true ≡ valid_at a.held.validity i → IsShown a c i
shown a c i h is below e = record { array = h; view = is; below = below; valid = sym e }

abbrev pub rows_of : Inside → List Row
rows_of a = content_rows a.held.content (term_of a.dtype) a.len

pub shown_row : (a : Inside) (c : Column) (i : ℕ) (r : Row) → IsShown a c i → slice_get (rows_of a) i ≡ Some r
    → row_in c.rows i ≡ r
shown_row a c i r h e =
    ap (λ (c : Column). row_in c.rows i) (sym h.view)
    ∙ get_or_from_slice_get (column_of a).rows i r null_row
    (shown_place a.held.validity (rows_of a) a.len i r (held_count a h.array)
    (place_below a c i h.array h.view h.below) h.valid e)

pub shown_order : (a : Inside) (c : Column) (i : ℕ) (r : Row) (s : Row) (o : Ordering) → IsShown a c i
    → slice_get (rows_of a) i ≡ Some r → o ≡ row_cmp r s → o ≡ row_cmp (row_in c.rows i) s
shown_order a c i r s o h e is = is ∙ ap (λ (r : Row). row_cmp r s) (sym (shown_row a c i r h e))

pub shown_leaf : (a : Inside) (c : Column) (i : ℕ) (r : Row) (x : RowRef) (v : ValueTerm) (o : Ordering) → IsShown a c i
    → slice_get (rows_of a) i ≡ Some r → IsHeld c.dtype x v → IsLeaf r → o ≡ leaf_cmp r x
    → o ≡ row_cmp (row_in c.rows i) (row_under c.dtype v)
shown_leaf a c i r x v o h e k leaf is =
    shown_order a c i r (row_under c.dtype v) o h e (is ∙ leaf_order c.dtype r x v leaf k.held k.some)

pub hidden_order : (a : Inside) (c : Column) (i : ℕ) (x : RowRef) (v : ValueTerm) (o : Ordering) → IsArray a
    → column_of a ≡ c → i < length c.rows → valid_at a.held.validity i ≡ false → IsHeld c.dtype x v
    → o ≡ leaf_cmp null_row x → o ≡ row_cmp (row_in c.rows i) (row_under c.dtype v)
hidden_order a c i x v o h is below hidden k e =
    let count : a.len ≡ length c.rows = h.count ∙ ap (λ (c : Column). length c.rows) is in
    let here : row_in c.rows i ≡ null_row =
    ap (λ (c : Column). row_in c.rows i) (sym is)
    ∙ get_or_from_slice_get (column_of a).rows i null_row null_row
    (hidden_place a.held.validity (rows_of a) a.len i (held_count a h) h.count (omega (arith, below, count)) hidden) in
    e ∙ leaf_order c.dtype null_row x v tt k.held k.some ∙ ap (λ (r : Row). row_cmp r (row_under c.dtype v)) (sym here)

-- ---- rows of leaves

pub nulls_at : (a : Inside) (c : Column) (i : ℕ) → IsShown a c i → a.held.content ≡ Nulls
    → slice_get (rows_of a) i ≡ Some null_row
nulls_at a c i h e =
    ap (λ (x : Content). slice_get (content_rows x (term_of a.dtype) a.len) i) e
    ∙ copies_at a.len i null_row (place_below a c i h.array h.view h.below)

pub truths_at : (a : Inside) (c : Column) (i : ℕ) (m : List Bool) (b : Bool) → IsShown a c i → a.held.content ≡ Truths m
    → b ≡ get_or m i false → slice_get (rows_of a) i ≡ Some (truth_row b)
truths_at a c i m b h e is =
    let long : i < length (map truth_row m) =
    subst (λ (x : Content). i < length (content_rows x (term_of a.dtype) a.len)) e (content_below a c i h.view h.below) in
    ap (λ (x : Content). slice_get (content_rows x (term_of a.dtype) a.len) i) e ∙ slice_get-map truth_row m i
    ∙ ap (option_map truth_row) (slice_get-get_or m i false (subst (λ k. i < k) (length-map m truth_row) long))
    ∙ ap (λ (x : Bool). Some (truth_row x)) (sym is)

pub numbers_at : (a : Inside) (i : ℕ) (b : NumberBytes) (z : ℤ) → a.held.content ≡ Numbers b
    → slice_get (number_rows b) i ≡ Some (whole_row z) → slice_get (rows_of a) i ≡ Some (whole_row z)
numbers_at a i b z e is = ap (λ (x : Content). slice_get (content_rows x (term_of a.dtype) a.len) i) e ∙ is

pub decimals_at : (a : Inside) (i : ℕ) (b : NumberBytes) (z : ℤ) → a.held.content ≡ Decimals b
    → slice_get (number_rows b) i ≡ Some (whole_row z) → slice_get (rows_of a) i ≡ Some (whole_row z)
decimals_at a i b z e is = ap (λ (x : Content). slice_get (content_rows x (term_of a.dtype) a.len) i) e ∙ is

pub texts_at : (a : Inside) (i : ℕ) (b : TextBytes) (bs : List ℕ) → a.held.content ≡ Texts b
    → slice_get (text_pieces b) i ≡ Some bs → slice_get (rows_of a) i ≡ Some (bytes_row bs)
texts_at a i b bs e is =
    ap (λ (x : Content). slice_get (content_rows x (term_of a.dtype) a.len) i) e
    ∙ slice_get-map bytes_row (text_pieces b) i ∙ ap (option_map bytes_row) is

pub constant_at : (a : Inside) (c : Column) (i : ℕ) (v : ValueTerm) → IsShown a c i → a.held.content ≡ Constant v
    → slice_get (rows_of a) i ≡ Some (row_under (term_of a.dtype) v)
constant_at a c i v h e =
    ap (λ (x : Content). slice_get (content_rows x (term_of a.dtype) a.len) i) e
    ∙ copies_at a.len i (row_under (term_of a.dtype) v) (place_below a c i h.array h.view h.below)

-- ---- rows of lists

pub lists_at : (a : Inside) (i : ℕ) (p : List ℕ × Column) (from to : ℕ) → IsArray a → lists_in a.held.content ≡ Some p
    → slice_get p.0 i ≡ Some from → slice_get p.0 (suc i) ≡ Some to
    → slice_get (rows_of a) i ≡ Some (list_row (rows_from (slice_range p.1.rows from to)))
lists_at a i p from to h e f g =
    ap (λ (l : List Row). slice_get l i) (lists_are a.len p a.held.content (term_of a.dtype) e h.shape).rows
    ∙ slice_get-map (λ rs. list_row (rows_from rs)) (pieces p.0 p.1.rows) i
    ∙ ap (option_map (λ rs. list_row (rows_from rs))) (piece_there p.0 p.1.rows i from to f g)

pub fixed_at : (a : Inside) (c : Column) (i : ℕ) (p : ℕ × Column) → IsShown a c i → fixed_in a.held.content ≡ Some p
    → slice_get (rows_of a) i ≡ Some (list_row (rows_from (slice_range p.1.rows (i * p.0) (i * p.0 + p.0))))
fixed_at a c i p h e =
    ap (λ (l : List Row). slice_get l i) (fixed_are a.len p a.held.content (term_of a.dtype) e h.array.shape).rows
    ∙ chunk_place p.0 a.len i p.1.rows (place_below a c i h.array h.view h.below)

-- the type of what is in lists
abbrev elements_in : Content → Option Term
elements_in Nulls = None
elements_in (Truths m) = None
elements_in (Numbers a) = None
elements_in (Decimals a) = None
elements_in (Texts a) = None
elements_in (Lists os es) = Some es.value.dtype
elements_in (FixedLists j es) = Some es.value.dtype
elements_in (Structs cs) = None
elements_in (Storage a) = None
elements_in (Constant x) = None

elements_type : (c : Content) (t d : Term) (n : ℕ) → elements_in c ≡ Some d → IsShaped c t n → in_of t ≡ Some (every d)
elements_type Nulls t d n e h = absurd (none_some d e)
elements_type (Truths m) t d n e h = absurd (none_some d e)
elements_type (Numbers a) t d n e h = absurd (none_some d e)
elements_type (Decimals a) t d n e h = absurd (none_some d e)
elements_type (Texts a) t d n e h = absurd (none_some d e)
elements_type (Lists os es) null d n e h = absurd h
elements_type (Lists os es) (boolean nl) d n e h = absurd h
elements_type (Lists os es) (primitive k nl) d n e h = absurd h
elements_type (Lists os es) (decimal pr sc nl) d n e h = absurd h
elements_type (Lists os es) (utf8 nl) d n e h = absurd h
elements_type (Lists os es) (binary nl) d n e h = absurd h
elements_type (Lists os es) (structure fs nl) d n e h = absurd h
elements_type (Lists os es) (list u nl) d n e h = ap (λ (w : Term). Some (every w)) (sym h.0 ∙ same es.value.dtype d e)
elements_type (Lists os es) (extension id u y) d n e h = absurd h
elements_type (Lists os es) (fixed_size_list u size nl) d n e h = absurd h
elements_type (FixedLists j es) null d n e h = absurd h
elements_type (FixedLists j es) (boolean nl) d n e h = absurd h
elements_type (FixedLists j es) (primitive k nl) d n e h = absurd h
elements_type (FixedLists j es) (decimal pr sc nl) d n e h = absurd h
elements_type (FixedLists j es) (utf8 nl) d n e h = absurd h
elements_type (FixedLists j es) (binary nl) d n e h = absurd h
elements_type (FixedLists j es) (structure fs nl) d n e h = absurd h
elements_type (FixedLists j es) (list u nl) d n e h = absurd h
elements_type (FixedLists j es) (extension id u y) d n e h = absurd h
elements_type (FixedLists j es) (fixed_size_list u size nl) d n e h = ap (λ (w : Term). Some (every w)) (sym h.1.0 ∙ same es.value.dtype d e)
elements_type (Structs cs) t d n e h = absurd (none_some d e)
elements_type (Storage a) t d n e h = absurd (none_some d e)
elements_type (Constant x) t d n e h = absurd (none_some d e)

lists_elements : (c : Content) (p : List ℕ × Column) → lists_in c ≡ Some p → elements_in c ≡ Some p.1.dtype
lists_elements Nulls p e = absurd (none_some p e)
lists_elements (Truths m) p e = absurd (none_some p e)
lists_elements (Numbers a) p e = absurd (none_some p e)
lists_elements (Decimals a) p e = absurd (none_some p e)
lists_elements (Texts a) p e = absurd (none_some p e)
lists_elements (Lists os es) p e = ap (λ (q : List ℕ × Column). Some q.1.dtype) (same (os, es.value) p e)
lists_elements (FixedLists j es) p e = absurd (none_some p e)
lists_elements (Structs cs) p e = absurd (none_some p e)
lists_elements (Storage a) p e = absurd (none_some p e)
lists_elements (Constant x) p e = absurd (none_some p e)

fixed_elements : (c : Content) (p : ℕ × Column) → fixed_in c ≡ Some p → elements_in c ≡ Some p.1.dtype
fixed_elements Nulls p e = absurd (none_some p e)
fixed_elements (Truths m) p e = absurd (none_some p e)
fixed_elements (Numbers a) p e = absurd (none_some p e)
fixed_elements (Decimals a) p e = absurd (none_some p e)
fixed_elements (Texts a) p e = absurd (none_some p e)
fixed_elements (Lists os es) p e = absurd (none_some p e)
fixed_elements (FixedLists j es) p e = ap (λ (q : ℕ × Column). Some q.1.dtype) (same (j, es.value) p e)
fixed_elements (Structs cs) p e = absurd (none_some p e)
fixed_elements (Storage a) p e = absurd (none_some p e)
fixed_elements (Constant x) p e = absurd (none_some p e)

-- the types of what is in the rows, and the values that are in a value beside them
pub record HasInside (t : Term) (c : InTerm) (vs : List ValueTerm) (v : ValueTerm) : Type 0 where
  pub some : IsSome (in_rows c (values_from vs))
  pub row : row_under t v ≡ list_row (rows_under c (values_from vs))

inside_held : (t : Term) (c : InTerm) (x : RowRef) (vs : Bor (List ValueTerm)) (v : ValueTerm) → in_of t ≡ Some c
    → IsHeld t x v → x ≡ refs.List vs → HasInside t c vs.now v
inside_held t c x vs v is k e =
    let held : option_map list_row (rows_inside t (values_from vs.now)) ≡ row_of t v = ap (held_row t) (sym e) ∙ k.held in
    record {
      some = inside_some t c (values_from vs.now) (row_of t v) held k.some is;
      row = inside_is t c (values_from vs.now) (row_of t v) held k.some is;
    }

own_type : (a : Inside) (c : Column) (d : InTerm) → column_of a ≡ c → in_of (term_of a.dtype) ≡ Some d → in_of c.dtype ≡ Some d
own_type a c d is e = ap (λ (c : Column). in_of c.dtype) (sym is) ∙ e

pub lists_inside : (a : Inside) (c : Column) (p : List ℕ × Column) (x : RowRef) (vs : Bor (List ValueTerm)) (v : ValueTerm)
    → IsArray a → column_of a ≡ c → lists_in a.held.content ≡ Some p → IsHeld c.dtype x v → x ≡ refs.List vs
    → HasInside c.dtype (every p.1.dtype) vs.now v
lists_inside a c p x vs v h is e k f =
    inside_held c.dtype (every p.1.dtype) x vs v
    (own_type a c (every p.1.dtype) is
    (elements_type a.held.content (term_of a.dtype) p.1.dtype a.len (lists_elements a.held.content p e) h.shape)) k f

pub fixed_inside : (a : Inside) (c : Column) (p : ℕ × Column) (x : RowRef) (vs : Bor (List ValueTerm)) (v : ValueTerm)
    → IsArray a → column_of a ≡ c → fixed_in a.held.content ≡ Some p → IsHeld c.dtype x v → x ≡ refs.List vs
    → HasInside c.dtype (every p.1.dtype) vs.now v
fixed_inside a c p x vs v h is e k f =
    inside_held c.dtype (every p.1.dtype) x vs v
    (own_type a c (every p.1.dtype) is
    (elements_type a.held.content (term_of a.dtype) p.1.dtype a.len (fixed_elements a.held.content p e) h.shape)) k f

-- lists compare as the rows in them
pub shown_lists : (a : Inside) (c : Column) (i : ℕ) (rs : Rows) (d : InTerm) (vs : List ValueTerm) (v : ValueTerm)
    (o : Ordering) → IsShown a c i → slice_get (rows_of a) i ≡ Some (list_row rs) → HasInside c.dtype d vs v
    → o ≡ rows_cmp rs (rows_under d (values_from vs)) → o ≡ row_cmp (row_in c.rows i) (row_under c.dtype v)
shown_lists a c i rs d vs v o h e k is =
    shown_order a c i (list_row rs) (row_under c.dtype v) o h e (is ∙ ap (row_cmp (list_row rs)) (sym k.row))

pub shown_greater : (a : Inside) (c : Column) (i : ℕ) (rs : Rows) (x : RowRef) (v : ValueTerm) → IsShown a c i
    → slice_get (rows_of a) i ≡ Some (list_row rs) → IsHeld c.dtype x v
    → ((vs : Bor (List ValueTerm)) → x ≡ refs.List vs → ⊥) → Greater ≡ row_cmp (row_in c.rows i) (row_under c.dtype v)
shown_greater a c i rs x v h e k other =
    shown_order a c i (list_row rs) (row_under c.dtype v) Greater h e
    (list_beside c.dtype rs x other ∙ ap (λ (o : Option Row). row_cmp (list_row rs) (unwrap_or o null_row)) k.held)

-- ---- rows of structs

zip_there : {A B C : Type 0} (f : A → B → C) (xs : List A) (ys : List B) (i : ℕ) (x : A) (y : B) → slice_get xs i ≡ Some x
    → slice_get ys i ≡ Some y → slice_get (zip_map f xs ys) i ≡ Some (f x y)
zip_there f [] ys i x y e g = absurd (none_some x e)
zip_there f (z ∷ xs) [] i x y e g = absurd (none_some y g)
zip_there f (z ∷ xs) (w ∷ ys) zero x y e g = λ i. Some (f (same z x e i) (same w y g i))
zip_there f (z ∷ xs) (w ∷ ys) (suc i) x y e g = zip_there f xs ys i x y e g

none_at : (n i : ℕ) → i < n → slice_get (replicate n no_rows) i ≡ Some no_rows
none_at zero i h = absurd (omega (arith, h))
none_at (suc n) zero h = refl
none_at (suc n) (suc i) h = none_at n i (omega (arith, h))

inside_there : (n i : ℕ) (cs : List Column) → i < n → AllByRecursion (λ (f : Column). i < length f.rows) cs
    → slice_get (inside_structs n (column_rows cs)) i ≡ Some (rows_at i cs)
inside_there n i [] below h = none_at n i below
inside_there n i (c ∷ cs) below h =
    zip_there row c.rows (inside_structs n (column_rows cs)) i (row_in c.rows i) (rows_at i cs)
    (slice_get-get_or c.rows i null_row h.0) (inside_there n i cs below h.1)

pub fields_rows : (c : Content) (cs : List Column) (t : Term) (n : ℕ) → fields_in c ≡ Some cs
    → content_rows c t n ≡ struct_rows n (column_rows cs)
fields_rows Nulls cs t n e = absurd (none_some cs e)
fields_rows (Truths m) cs t n e = absurd (none_some cs e)
fields_rows (Numbers a) cs t n e = absurd (none_some cs e)
fields_rows (Decimals a) cs t n e = absurd (none_some cs e)
fields_rows (Texts a) cs t n e = absurd (none_some cs e)
fields_rows (Lists os es) cs t n e = absurd (none_some cs e)
fields_rows (FixedLists j es) cs t n e = absurd (none_some cs e)
fields_rows (Structs ds) cs t n e = ap (λ (l : List Column). struct_rows n (column_rows l)) (same ds.items cs e)
fields_rows (Storage a) cs t n e = absurd (none_some cs e)
fields_rows (Constant x) cs t n e = absurd (none_some cs e)

pub structs_at : (a : Inside) (c : Column) (i : ℕ) (cs : List Column) → IsShown a c i → fields_in a.held.content ≡ Some cs
    → AllByRecursion (λ (f : Column). i < length f.rows) cs
    → slice_get (rows_of a) i ≡ Some (list_row (rows_at i cs))
structs_at a c i cs h e all =
    ap (λ (l : List Row). slice_get l i) (fields_rows a.held.content cs (term_of a.dtype) a.len e)
    ∙ slice_get-map list_row (inside_structs a.len (column_rows cs)) i
    ∙ ap (option_map list_row) (inside_there a.len i cs (place_below a c i h.array h.view h.below) all)

-- the fields of the type, and their columns
pub record HasFields (t : Term) (n : ℕ) (cs : List Column) : Type 0 where
  pub fields : Fields
  pub inside : in_of t ≡ Some (each fields)
  pub columns : AreFields n fields cs

fields_type : (c : Content) (cs : List Column) (t : Term) (n : ℕ) → fields_in c ≡ Some cs → IsShaped c t n → HasFields t n cs
fields_type Nulls cs t n e h = absurd (none_some cs e)
fields_type (Truths m) cs t n e h = absurd (none_some cs e)
fields_type (Numbers a) cs t n e h = absurd (none_some cs e)
fields_type (Decimals a) cs t n e h = absurd (none_some cs e)
fields_type (Texts a) cs t n e h = absurd (none_some cs e)
fields_type (Lists os es) cs t n e h = absurd (none_some cs e)
fields_type (FixedLists j es) cs t n e h = absurd (none_some cs e)
fields_type (Structs ds) cs null n e h = absurd h
fields_type (Structs ds) cs (boolean nl) n e h = absurd h
fields_type (Structs ds) cs (primitive k nl) n e h = absurd h
fields_type (Structs ds) cs (decimal pr sc nl) n e h = absurd h
fields_type (Structs ds) cs (utf8 nl) n e h = absurd h
fields_type (Structs ds) cs (binary nl) n e h = absurd h
fields_type (Structs ds) cs (structure fs nl) n e h =
    record { fields = fs; inside = refl; columns = subst (AreFields n fs) (same ds.items cs e) h }
fields_type (Structs ds) cs (list u nl) n e h = absurd h
fields_type (Structs ds) cs (extension id u y) n e h = absurd h
fields_type (Structs ds) cs (fixed_size_list u size nl) n e h = absurd h
fields_type (Storage a) cs t n e h = absurd (none_some cs e)
fields_type (Constant x) cs t n e h = absurd (none_some cs e)

first_there : (o : Option Row) (p : Option Rows) → IsSome (row_before o p) → IsSome o
first_there (Some r) p h = refl
first_there None p h = absurd (cc)

rest_there : (o : Option Row) (p : Option Rows) → IsSome (row_before o p) → IsSome p
rest_there (Some r) (Some rs) h = refl
rest_there (Some r) None h = absurd (cc)
rest_there None p h = absurd (cc)

before_is : (o : Option Row) (p : Option Rows) → IsSome (row_before o p)
    → unwrap_or (row_before o p) no_rows ≡ row (unwrap_or o null_row) (unwrap_or p no_rows)
before_is (Some r) (Some rs) h = refl
before_is (Some r) None h = absurd (cc)
before_is None p h = absurd (cc)

beside_fields : (n : ℕ) (fs : Fields) (cs : List Column) (vs : List ValueTerm) → AreFields n fs cs
    → IsSome (field_rows fs (values_from vs)) → HaveRows cs vs
beside_fields n no_fields [] [] h k = tt
beside_fields n no_fields [] (v ∷ vs) h k = absurd (cc)
beside_fields n no_fields (c ∷ cs) vs h k = absurd h
beside_fields n (field x t fs) [] vs h k = absurd h
beside_fields n (field x t fs) (c ∷ cs) [] h k = absurd (cc)
beside_fields n (field x t fs) (c ∷ cs) (v ∷ vs) h k = (
  subst (λ (u : Term). IsSome (row_of u v)) (sym h.0.0) (first_there (row_of t v) (field_rows fs (values_from vs)) k),
  beside_fields n fs cs vs h.1 (rest_there (row_of t v) (field_rows fs (values_from vs)) k),
)

under_fields : (n : ℕ) (fs : Fields) (cs : List Column) (vs : List ValueTerm) → AreFields n fs cs
    → IsSome (field_rows fs (values_from vs)) → rows_under (each fs) (values_from vs) ≡ rows_beside cs vs
under_fields n no_fields [] [] h k = refl
under_fields n no_fields [] (v ∷ vs) h k = absurd (cc)
under_fields n no_fields (c ∷ cs) vs h k = absurd h
under_fields n (field x t fs) [] vs h k = absurd h
under_fields n (field x t fs) (c ∷ cs) [] h k = absurd (cc)
under_fields n (field x t fs) (c ∷ cs) (v ∷ vs) h k =
    before_is (row_of t v) (field_rows fs (values_from vs)) k
    ∙ (λ i. row (row_under (sym h.0.0 i) v) (under_fields n fs cs vs h.1 (rest_there (row_of t v) (field_rows fs (values_from vs)) k) i))

pub record HasFieldsInside (t : Term) (cs : List Column) (vs : List ValueTerm) (v : ValueTerm) : Type 0 where
  pub rows : HaveRows cs vs
  pub row : row_under t v ≡ list_row (rows_beside cs vs)

pub structs_inside : (a : Inside) (c : Column) (cs : List Column) (x : RowRef) (vs : Bor (List ValueTerm)) (v : ValueTerm)
    → IsArray a → column_of a ≡ c → fields_in a.held.content ≡ Some cs → IsHeld c.dtype x v → x ≡ refs.List vs
    → HasFieldsInside c.dtype cs vs.now v
structs_inside a c cs x vs v h is e k f =
    let known = fields_type a.held.content cs (term_of a.dtype) a.len e h.shape in
    let here = inside_held c.dtype (each known.fields) x vs v (own_type a c (each known.fields) is known.inside) k f in
    record {
      rows = beside_fields a.len known.fields cs vs.now known.columns here.some;
      row = here.row ∙ ap list_row (under_fields a.len known.fields cs vs.now known.columns here.some);
    }

pub shown_structs : (a : Inside) (c : Column) (i : ℕ) (cs : List Column) (vs : List ValueTerm) (v : ValueTerm)
    (o : Ordering) → IsShown a c i → slice_get (rows_of a) i ≡ Some (list_row (rows_at i cs))
    → HasFieldsInside c.dtype cs vs v → o ≡ rows_cmp (rows_at i cs) (rows_beside cs vs)
    → o ≡ row_cmp (row_in c.rows i) (row_under c.dtype v)
shown_structs a c i cs vs v o h e k is =
    shown_order a c i (list_row (rows_at i cs)) (row_under c.dtype v) o h e
    (is ∙ ap (row_cmp (list_row (rows_at i cs))) (sym k.row))

-- lists are behind what is none
map_there : {A B : Type 0} (f : A → B) (xs : List A) (i : ℕ) (d : A) → i < length (map f xs)
    → slice_get (map f xs) i ≡ Some (f (get_or xs i d))
map_there f xs i d h =
    slice_get-map f xs i ∙ ap (option_map f) (slice_get-get_or xs i d (subst (λ k. i < k) (length-map xs f) h))

pub lists_greater : (a : Inside) (c : Column) (i : ℕ) (p : List ℕ × Column) (x : RowRef) (v : ValueTerm) → IsShown a c i
    → lists_in a.held.content ≡ Some p → IsHeld c.dtype x v → ((vs : Bor (List ValueTerm)) → x ≡ refs.List vs → ⊥)
    → Greater ≡ row_cmp (row_in c.rows i) (row_under c.dtype v)
lists_greater a c i p x v h e k other =
    let rows = (lists_are a.len p a.held.content (term_of a.dtype) e h.array.shape).rows in
    let below : i < length (list_rows p.0 p.1.rows) =
    subst (λ (l : List Row). i < length l) rows (content_below a c i h.view h.below) in
    shown_greater a c i (rows_from (get_or (pieces p.0 p.1.rows) i [])) x v h
    (ap (λ (l : List Row). slice_get l i) rows
    ∙ map_there (λ rs. list_row (rows_from rs)) (pieces p.0 p.1.rows) i [] below) k other

pub fixed_greater : (a : Inside) (c : Column) (i : ℕ) (p : ℕ × Column) (x : RowRef) (v : ValueTerm) → IsShown a c i
    → fixed_in a.held.content ≡ Some p → IsHeld c.dtype x v → ((vs : Bor (List ValueTerm)) → x ≡ refs.List vs → ⊥)
    → Greater ≡ row_cmp (row_in c.rows i) (row_under c.dtype v)
fixed_greater a c i p x v h e k other = shown_greater a c i _ x v h (fixed_at a c i p h e) k other

pub structs_greater : (a : Inside) (c : Column) (i : ℕ) (cs : List Column) (x : RowRef) (v : ValueTerm) → IsShown a c i
    → fields_in a.held.content ≡ Some cs → AllByRecursion (λ (f : Column). i < length f.rows) cs → IsHeld c.dtype x v
    → ((vs : Bor (List ValueTerm)) → x ≡ refs.List vs → ⊥) → Greater ≡ row_cmp (row_in c.rows i) (row_under c.dtype v)
structs_greater a c i cs x v h e all k other = shown_greater a c i (rows_at i cs) x v h (structs_at a c i cs h e all) k other

-- ---- storage

storage_row : (c : Content) (s : Column) (t : Term) (n : ℕ) (v : ValueTerm) → storage_in c ≡ Some s → IsShaped c t n
    → row_of t v ≡ row_of s.dtype v
storage_row Nulls s t n v e h = absurd (none_some s e)
storage_row (Truths m) s t n v e h = absurd (none_some s e)
storage_row (Numbers a) s t n v e h = absurd (none_some s e)
storage_row (Decimals a) s t n v e h = absurd (none_some s e)
storage_row (Texts a) s t n v e h = absurd (none_some s e)
storage_row (Lists os es) s t n v e h = absurd (none_some s e)
storage_row (FixedLists j es) s t n v e h = absurd (none_some s e)
storage_row (Structs cs) s t n v e h = absurd (none_some s e)
storage_row (Storage a) s null n v e h = absurd h
storage_row (Storage a) s (boolean nl) n v e h = absurd h
storage_row (Storage a) s (primitive k nl) n v e h = absurd h
storage_row (Storage a) s (decimal pr sc nl) n v e h = absurd h
storage_row (Storage a) s (utf8 nl) n v e h = absurd h
storage_row (Storage a) s (binary nl) n v e h = absurd h
storage_row (Storage a) s (structure fs nl) n v e h = absurd h
storage_row (Storage a) s (list u nl) n v e h = absurd h
storage_row (Storage a) s (extension id u y) n v e h =
    ap (λ (w : Term). row_of w v) (sym h.0 ∙ ap (λ (b : Column). b.dtype) (same a.value s e))
storage_row (Storage a) s (fixed_size_list u size nl) n v e h = absurd h
storage_row (Constant x) s t n v e h = absurd (none_some s e)

storage_rows : (c : Content) (s : Column) (t : Term) (n : ℕ) → storage_in c ≡ Some s → content_rows c t n ≡ s.rows
storage_rows Nulls s t n e = absurd (none_some s e)
storage_rows (Truths m) s t n e = absurd (none_some s e)
storage_rows (Numbers a) s t n e = absurd (none_some s e)
storage_rows (Decimals a) s t n e = absurd (none_some s e)
storage_rows (Texts a) s t n e = absurd (none_some s e)
storage_rows (Lists os es) s t n e = absurd (none_some s e)
storage_rows (FixedLists j es) s t n e = absurd (none_some s e)
storage_rows (Structs cs) s t n e = absurd (none_some s e)
storage_rows (Storage a) s t n e = ap (λ (b : Column). b.rows) (same a.value s e)
storage_rows (Constant x) s t n e = absurd (none_some s e)

pub storage_below : (a : Inside) (c s : Column) (i : ℕ) → column_of a ≡ c → storage_in a.held.content ≡ Some s
    → i < length c.rows → i < length s.rows
storage_below a c s i is e below =
    subst (λ (l : List Row). i < length l) (storage_rows a.held.content s (term_of a.dtype) a.len e) (content_below a c i is below)

pub storage_value : (a : Inside) (c s : Column) (v : ValueTerm) → IsArray a → column_of a ≡ c
    → storage_in a.held.content ≡ Some s → row_of c.dtype v ≡ row_of s.dtype v
storage_value a c s v h is e =
    ap (λ (c : Column). row_of c.dtype v) (sym is) ∙ storage_row a.held.content s (term_of a.dtype) a.len v e h.shape

pub storage_order : (a : Inside) (c s : Column) (i : ℕ) (v : ValueTerm) (o : Ordering) → IsShown a c i
    → storage_in a.held.content ≡ Some s → o ≡ row_cmp (row_in s.rows i) (row_under s.dtype v)
    → o ≡ row_cmp (row_in c.rows i) (row_under c.dtype v)
storage_order a c s i v o h e is =
    let there : slice_get (rows_of a) i ≡ Some (row_in s.rows i) =
    ap (λ (l : List Row). slice_get l i) (storage_rows a.held.content s (term_of a.dtype) a.len e)
    ∙ slice_get-get_or s.rows i null_row (storage_below a c s i h.view e h.below) in
    shown_order a c i (row_in s.rows i) (row_under c.dtype v) o h there
    (is ∙ ap (λ (o : Option Row). row_cmp (row_in s.rows i) (unwrap_or o null_row)) (sym (storage_value a c s v h.array h.view e)))

storage_counted : (c : Content) (s : Column) (n : ℕ) (v : ArrayNodes) → storage_in c ≡ Some s
    → array_node_count s.node < array_node_count (content_node c n v)
storage_counted Nulls s n v e = absurd (none_some s e)
storage_counted (Truths m) s n v e = absurd (none_some s e)
storage_counted (Numbers a) s n v e = absurd (none_some s e)
storage_counted (Decimals a) s n v e = absurd (none_some s e)
storage_counted (Texts a) s n v e = absurd (none_some s e)
storage_counted (Lists os es) s n v e = absurd (none_some s e)
storage_counted (FixedLists j es) s n v e = absurd (none_some s e)
storage_counted (Structs cs) s n v e = absurd (none_some s e)
storage_counted (Storage a) s n v e =
    let is : array_node_count a.value.node ≡ array_node_count s.node =
    ap (λ (b : Column). array_node_count b.node) (same a.value s e) in
    omega (arith, is)
storage_counted (Constant x) s n v e = absurd (none_some s e)

pub storage_lighter : (a : Inside) (c s : Column) → column_of a ≡ c → storage_in a.held.content ≡ Some s
    → array_node_count s.node < array_node_count c.node
storage_lighter a c s is e =
    subst (λ (c : Column). array_node_count s.node < array_node_count c.node) is
    (storage_counted a.held.content s a.len (mask_nodes a.len a.held.validity) e)
