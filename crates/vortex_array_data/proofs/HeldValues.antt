-- The values of the rows of an array, by how they are held.
use Rattle.std.proofs.Common.{◌≡◌, ◌≤◌, ◌<◌, ◌+◌, ◌*◌, ◌∙◌, ◌⊎◌, inl, inr, get_or, ℕ, zero, suc, ℤ, List, [], ◌∷◌, Bool, true, false, Option, Some, None, map, length, refl, sym, ap, subst, arith}
use Rattle.std.specs.Prelude.{slice_get, slice_range, IfOk, Result, Ok, Err}
use Rattle.std.specs.Option.{option_map, IsSome, unwrap_or}
use Rattle.std.specs.List.{AllByRecursion}
use Rattle.std.specs.Str.{IsUtf8}
use Rattle.std.proofs.lemmas.Option.{slice_get-map, slice_get-get_or}
use Rattle.std.proofs.lemmas.List.{length-map}
use Rattle.std.proofs.lemmas.Nat.{mul-le}
use Rattle.vortex_terms.specs.Term.{WholeKind, Term, null, boolean, primitive, decimal, utf8, binary, structure, list, extension, fixed_size_list, Fields, no_fields, field}
use Rattle.vortex_terms.specs.Row.{Row, null_row, truth_row, whole_row, bytes_row, list_row, Rows, no_rows, rows_from, copies}
use Rattle.vortex_terms.specs.Fits.{Fits, InRange}
use Rattle.vortex_terms.specs.FromColumns.{masked, struct_rows, inside_structs, list_rows, pieces}
use Rattle.vortex_types.specs.DTypes.{term_of}
use Rattle.vortex_scalar_value.specs.Value.{ValueTerm, null_value, truth_value, whole_value, decimal_value, bytes_value, text_value, list_value, values_from}
use Rattle.vortex_value_rows.specs.RowOf.{row_of, row_under, fitting_row, rows_by}
use Rattle.vortex_value.specs.declared.decimal.DecimalValueType.{DecimalValueType}
use Rattle.vortex_cast.proofs.Leaves.{null_row_of}
use Rattle.vortex_node_rows.specs.Pieces.{chunks}
use Rattle.vortex_leaves.specs.Numbers.{NumberBytes, number_rows}
use Rattle.vortex_leaves.specs.Texts.{AreOffsets, TextBytes, text_pieces}
use Rattle.vortex_leaves.proofs.Rising.{ends_within, piece_there}
use Rattle.vortex_node_rows.specs.RowsOf.{Validity}
use Rattle.vortex_array_data.specs.ArrayNode.{ArrayNodes, no_array_nodes, array_nodes_before, array_node_count, array_nodes_count}
use Rattle.vortex_array_data.specs.Column.{Column}
use Rattle.vortex_array_data.specs.Content.{content_rows, content_node, mask_nodes, column_nodes, column_rows, column_of, IsArray, IsShaped, AreFields}
use Rattle.vortex_array_data.specs.ValidRows.{valid_at}
use Rattle.vortex_array_data.specs.ValuesAt.{AreValuesOf, AreValuesAt}
use Rattle.vortex_array_data.specs.declared.error.ArrayError.{ArrayError}
use Rattle.vortex_array_data.specs.declared.held.Content.{Content}
use Rattle.vortex_array_data.specs.declared.held.Content.TheVariants.{Nulls, Truths, Numbers, Decimals, Texts, Lists, FixedLists, Structs, Storage, Constant}
use Rattle.vortex_array_data.specs.declared.held.Array.TheInside.{Inside}
use Rattle.vortex_array_data.proofs.ValidLists.{shown_place, hidden_place}
use Rattle.vortex_array_data.proofs.HeldRows.{held_count}
use Rattle.vortex_array_data.proofs.ConstantRows.{row_there}
use Rattle.vortex_array_data.proofs.HeldParts.{fields_in}
use Rattle.vortex_array_data.proofs.ValueRows.{fits_at, listed_value, struct_value, chunk_place}

-- ---- a value and the row that it is

-- the value is what the content has at a place
abbrev pub IsRowAt : Content → Term → ℕ → ℕ → ValueTerm → Type 0
IsRowAt c t n i v = (r : Row) × ((slice_get (content_rows c t n) i ≡ Some r) × (row_of t v ≡ Some r))

pub shown_value : (a : Inside) (c : Column) (i : ℕ) (v : ValueTerm) → IsArray a → column_of a ≡ c → i < length c.rows
    → valid_at a.held.validity i ≡ true → IsRowAt a.held.content (term_of a.dtype) a.len i v
    → row_of c.dtype v ≡ slice_get c.rows i
shown_value a c i v h is below valid at =
    let count : a.len ≡ length c.rows = h.count ∙ ap (λ (c : Column). length c.rows) is in
    let here = shown_place a.held.validity (content_rows a.held.content (term_of a.dtype) a.len) a.len i at.0
    (held_count a h) (omega (arith, below, count)) valid at.1.0 in
    ap (λ (c : Column). row_of c.dtype v) (sym is) ∙ at.1.1 ∙ sym here ∙ ap (λ (c : Column). slice_get c.rows i) is

pub hidden_value : (a : Inside) (c : Column) (i : ℕ) (v : ValueTerm) → IsArray a → column_of a ≡ c → i < length c.rows
    → valid_at a.held.validity i ≡ false → v ≡ null_value → row_of c.dtype v ≡ slice_get c.rows i
hidden_value a c i v h is below hidden e =
    let count : a.len ≡ length c.rows = h.count ∙ ap (λ (c : Column). length c.rows) is in
    let here = hidden_place a.held.validity (content_rows a.held.content (term_of a.dtype) a.len) a.len i
    (held_count a h) h.count (omega (arith, below, count)) hidden in
    ap (row_of c.dtype) e ∙ null_row_of c.dtype ∙ sym here ∙ ap (λ (c : Column). slice_get c.rows i) is

pub copies_at : (n i : ℕ) (r : Row) → i < n → slice_get (copies n r) i ≡ Some r
unfolding copies
copies_at zero i r h = absurd (omega (arith, h))
copies_at (suc n) zero r h = refl
copies_at (suc n) (suc i) r h = copies_at n i r (omega (arith, h))

-- ---- leaves

null_at : (t : Term) (n i : ℕ) (v : ValueTerm) → i < n → v ≡ null_value → IsRowAt Nulls t n i v
null_at t n i v below e = (null_row, (copies_at n i null_row below, ap (row_of t) e ∙ null_row_of t))

pub nulls_value : (t : Term) (n i : ℕ) (v : ValueTerm) (c : Content) → c ≡ Nulls → i < n → v ≡ null_value
    → IsRowAt c t n i v
nulls_value t n i v c is below e = subst (λ (x : Content). IsRowAt x t n i v) (sym is) (null_at t n i v below e)

-- ---- what the type is of which a content has rows

truths_row : (m : List Bool) (b : Bool) (t : Term) (n : ℕ) → IsShaped (Truths m) t n → (length m ≡ n) × (row_of t (truth_value b) ≡ Some (truth_row b))
truths_row m b null n h = absurd h
truths_row m b (boolean nl) n h = (h, refl)
truths_row m b (primitive k nl) n h = absurd h
truths_row m b (decimal pr sc nl) n h = absurd h
truths_row m b (utf8 nl) n h = absurd h
truths_row m b (binary nl) n h = absurd h
truths_row m b (structure fs nl) n h = absurd h
truths_row m b (list u nl) n h = absurd h
truths_row m b (extension id u x) n h = absurd h
truths_row m b (fixed_size_list u size nl) n h = absurd h

pub truths_value : (t : Term) (n i : ℕ) (c : Content) (m : List Bool) (b : Bool) (v : ValueTerm) → c ≡ Truths m → IsShaped c t n
    → i < n → b ≡ get_or m i false → v ≡ truth_value b → IsRowAt c t n i v
truths_value t n i c m b v is shape below e f =
    let known = truths_row m b t n (subst (λ (x : Content). IsShaped x t n) is shape) in
    let here : slice_get (map truth_row m) i ≡ Some (truth_row b) =
    slice_get-map truth_row m i ∙ ap (option_map truth_row) (slice_get-get_or m i false (omega (arith, below, known.0)))
    ∙ ap (λ (x : Bool). Some (truth_row x)) (sym e) in
    (truth_row b, (ap (λ (x : Content). slice_get (content_rows x t n) i) is ∙ here, ap (row_of t) f ∙ known.1))

numbers_row : (a : NumberBytes) (l : WholeKind) (z : ℤ) (t : Term) (n : ℕ) → IsShaped (Numbers a) t n → (a.count ≡ n) × (row_of t (whole_value l z) ≡ Some (whole_row z))
numbers_row a l z null n h = absurd h
numbers_row a l z (boolean nl) n h = absurd h
numbers_row a l z (primitive k nl) n h = (h.1, refl)
numbers_row a l z (decimal pr sc nl) n h = absurd h
numbers_row a l z (utf8 nl) n h = absurd h
numbers_row a l z (binary nl) n h = absurd h
numbers_row a l z (structure fs nl) n h = absurd h
numbers_row a l z (list u nl) n h = absurd h
numbers_row a l z (extension id u x) n h = absurd h
numbers_row a l z (fixed_size_list u size nl) n h = absurd h

pub numbers_value : (t : Term) (n i : ℕ) (c : Content) (a : NumberBytes) (l : WholeKind) (z : ℤ) (v : ValueTerm)
    → c ≡ Numbers a → IsShaped c t n → slice_get (number_rows a) i ≡ Some (whole_row z) → v ≡ whole_value l z
    → IsRowAt c t n i v
numbers_value t n i c a l z v is shape e f =
    let known = numbers_row a l z t n (subst (λ (x : Content). IsShaped x t n) is shape) in
    (whole_row z, (ap (λ (x : Content). slice_get (content_rows x t n) i) is ∙ e, ap (row_of t) f ∙ known.1))

decimals_row : (a : NumberBytes) (w : DecimalValueType) (z : ℤ) (t : Term) (n : ℕ) → IsShaped (Decimals a) t n → (a.count ≡ n) × (row_of t (decimal_value w z) ≡ Some (whole_row z))
decimals_row a w z null n h = absurd h
decimals_row a w z (boolean nl) n h = absurd h
decimals_row a w z (primitive k nl) n h = absurd h
decimals_row a w z (decimal pr sc nl) n h = (h, refl)
decimals_row a w z (utf8 nl) n h = absurd h
decimals_row a w z (binary nl) n h = absurd h
decimals_row a w z (structure fs nl) n h = absurd h
decimals_row a w z (list u nl) n h = absurd h
decimals_row a w z (extension id u x) n h = absurd h
decimals_row a w z (fixed_size_list u size nl) n h = absurd h

pub decimals_value : (t : Term) (n i : ℕ) (c : Content) (a : NumberBytes) (w : DecimalValueType) (z : ℤ) (v : ValueTerm)
    → c ≡ Decimals a → IsShaped c t n → slice_get (number_rows a) i ≡ Some (whole_row z) → v ≡ decimal_value w z
    → IsRowAt c t n i v
decimals_value t n i c a w z v is shape e f =
    let known = decimals_row a w z t n (subst (λ (x : Content). IsShaped x t n) is shape) in
    (whole_row z, (ap (λ (x : Content). slice_get (content_rows x t n) i) is ∙ e, ap (row_of t) f ∙ known.1))

texts_row : (a : TextBytes) (bs : List ℕ) (t : Term) (n : ℕ) → IsShaped (Texts a) t n → (row_of t (bytes_value bs) ≡ Some (bytes_row bs)) × (row_of t (text_value bs) ≡ Some (bytes_row bs))
texts_row a bs null n h = absurd h
texts_row a bs (boolean nl) n h = absurd h
texts_row a bs (primitive k nl) n h = absurd h
texts_row a bs (decimal pr sc nl) n h = absurd h
texts_row a bs (utf8 nl) n h = (refl, refl)
texts_row a bs (binary nl) n h = (refl, refl)
texts_row a bs (structure fs nl) n h = absurd h
texts_row a bs (list u nl) n h = absurd h
texts_row a bs (extension id u x) n h = absurd h
texts_row a bs (fixed_size_list u size nl) n h = absurd h

-- a value of bytes or of a text
abbrev pub IsBytesValue : List ℕ → ValueTerm → Type 0
IsBytesValue bs v = (v ≡ bytes_value bs) ⊎ (v ≡ text_value bs)

pub texts_value : (t : Term) (n i : ℕ) (c : Content) (a : TextBytes) (bs : List ℕ) (v : ValueTerm)
    → c ≡ Texts a → IsShaped c t n → slice_get (text_pieces a) i ≡ Some bs → IsBytesValue bs v → IsRowAt c t n i v
texts_value t n i c a bs v is shape e f =
    let known = texts_row a bs t n (subst (λ (x : Content). IsShaped x t n) is shape) in
    let here : slice_get (map bytes_row (text_pieces a)) i ≡ Some (bytes_row bs) =
    slice_get-map bytes_row (text_pieces a) i ∙ ap (option_map bytes_row) e in
    (bytes_row bs, (ap (λ (x : Content). slice_get (content_rows x t n) i) is ∙ here, by f known))
  where
    by : IsBytesValue bs v → (row_of t (bytes_value bs) ≡ Some (bytes_row bs)) × (row_of t (text_value bs) ≡ Some (bytes_row bs))
        → row_of t v ≡ Some (bytes_row bs)
    by (inl g) k = ap (row_of t) g ∙ k.0
    by (inr g) k = ap (row_of t) g ∙ k.1

-- ---- lists

none_some : {A : Type 0} (x : A) → None ≡ Some x → ⊥
none_some x e = cc

same : {A : Type 0} (x y : A) → Some x ≡ Some y → x ≡ y
same x y e = cc

-- the offsets and elements of lists
abbrev pub lists_in : Content → Option (List ℕ × Column)
lists_in Nulls = None
lists_in (Truths m) = None
lists_in (Numbers a) = None
lists_in (Decimals a) = None
lists_in (Texts a) = None
lists_in (Lists os es) = Some (os, es.value)
lists_in (FixedLists j es) = None
lists_in (Structs fields) = None
lists_in (Storage a) = None
lists_in (Constant x) = None

-- the size and elements of lists of one length
abbrev pub fixed_in : Content → Option (ℕ × Column)
fixed_in Nulls = None
fixed_in (Truths m) = None
fixed_in (Numbers a) = None
fixed_in (Decimals a) = None
fixed_in (Texts a) = None
fixed_in (Lists os es) = None
fixed_in (FixedLists j es) = Some (j, es.value)
fixed_in (Structs fields) = None
fixed_in (Storage a) = None
fixed_in (Constant x) = None

-- the elements of a list
list_of : (u : Term) (d : Term) (vs : List ValueTerm) (rs : List Row) (v : ValueTerm) → d ≡ u → AreValuesOf d vs rs
    → v ≡ list_value (values_from vs)
    → option_map list_row (rows_by (row_of u) (values_from vs)) ≡ Some (list_row (rows_from rs))
list_of u d vs rs v e h f =
    ap (λ (w : Term). option_map list_row (rows_by (row_of w) (values_from vs))) (sym e) ∙ listed_value d vs rs h

-- what is so of offsets and elements
pub record Listed (t : Term) (n : ℕ) (c : Content) (p : List ℕ × Column) : Type 0 where
  pub offsets : AreOffsets n (length p.1.rows) p.0
  pub rows : content_rows c t n ≡ list_rows p.0 p.1.rows
  pub value : (vs : List ValueTerm) (rs : List Row) → AreValuesOf p.1.dtype vs rs
      → row_of t (list_value (values_from vs)) ≡ Some (list_row (rows_from rs))

pub lists_are : (n : ℕ) (p : List ℕ × Column) (c : Content) (t : Term) → lists_in c ≡ Some p → IsShaped c t n → Listed t n c p
lists_are n p Nulls t e h = absurd (none_some p e)
lists_are n p (Truths m) t e h = absurd (none_some p e)
lists_are n p (Numbers a) t e h = absurd (none_some p e)
lists_are n p (Decimals a) t e h = absurd (none_some p e)
lists_are n p (Texts a) t e h = absurd (none_some p e)
lists_are n p (FixedLists j es) t e h = absurd (none_some p e)
lists_are n p (Structs fields) t e h = absurd (none_some p e)
lists_are n p (Storage a) t e h = absurd (none_some p e)
lists_are n p (Constant x) t e h = absurd (none_some p e)
lists_are n p (Lists os es) null e h = absurd h
lists_are n p (Lists os es) (boolean nl) e h = absurd h
lists_are n p (Lists os es) (primitive k nl) e h = absurd h
lists_are n p (Lists os es) (decimal pr sc nl) e h = absurd h
lists_are n p (Lists os es) (utf8 nl) e h = absurd h
lists_are n p (Lists os es) (binary nl) e h = absurd h
lists_are n p (Lists os es) (structure fs nl) e h = absurd h
lists_are n p (Lists os es) (list u nl) e h =
    let is : (os, es.value) ≡ p = same (os, es.value) p e in
    record {
      offsets = subst (λ (q : List ℕ × Column). AreOffsets n (length q.1.rows) q.0) is h.1;
      rows = ap (λ (q : List ℕ × Column). list_rows q.0 q.1.rows) is;
      value = λ vs rs k. list_of u p.1.dtype vs rs (list_value (values_from vs))
          (ap (λ (q : List ℕ × Column). q.1.dtype) (sym is) ∙ h.0) k refl;
    }
lists_are n p (Lists os es) (extension id u x) e h = absurd h
lists_are n p (Lists os es) (fixed_size_list u size nl) e h = absurd h

-- between the offsets of a list lie its elements
pub list_within : (t : Term) (n i : ℕ) (c : Content) (p : List ℕ × Column) (from to : ℕ) → lists_in c ≡ Some p
    → IsShaped c t n → slice_get p.0 i ≡ Some from → slice_get p.0 (suc i) ≡ Some to
    → (from ≤ to) × (to ≤ length p.1.rows)
list_within t n i c p from to e h a b =
    let known = lists_are n p c t e h in
    let ends = ends_within 0 p.0 i from to known.offsets.rise a b in
    (ends.0, omega (arith, ends.1, known.offsets.within))

pub lists_value : (t : Term) (n i : ℕ) (c : Content) (p : List ℕ × Column) (from to : ℕ) (vs : List ValueTerm)
    (v : ValueTerm) → lists_in c ≡ Some p → IsShaped c t n → slice_get p.0 i ≡ Some from
    → slice_get p.0 (suc i) ≡ Some to → AreValuesOf p.1.dtype vs (slice_range p.1.rows from to)
    → v ≡ list_value (values_from vs) → IsRowAt c t n i v
lists_value t n i c p from to vs v e h a b all f =
    let known = lists_are n p c t e h in
    let rs = slice_range p.1.rows from to in
    let here : slice_get (list_rows p.0 p.1.rows) i ≡ Some (list_row (rows_from rs)) =
    slice_get-map (λ rs. list_row (rows_from rs)) (pieces p.0 p.1.rows) i
    ∙ ap (option_map (λ rs. list_row (rows_from rs))) (piece_there p.0 p.1.rows i from to a b) in (
      list_row (rows_from rs),
      (
        ap (λ (l : List Row). slice_get l i) known.rows ∙ here,
        ap (row_of t) f ∙ known.value vs rs all,
      ),
    )

pub record Fixed (t : Term) (n : ℕ) (c : Content) (p : ℕ × Column) : Type 0 where
  pub count : length p.1.rows ≡ n * p.0
  pub rows : content_rows c t n ≡ map (λ rs. list_row (rows_from rs)) (chunks p.0 n p.1.rows)
  pub value : (vs : List ValueTerm) (rs : List Row) → AreValuesOf p.1.dtype vs rs
      → row_of t (list_value (values_from vs)) ≡ Some (list_row (rows_from rs))

pub fixed_are : (n : ℕ) (p : ℕ × Column) (c : Content) (t : Term) → fixed_in c ≡ Some p → IsShaped c t n → Fixed t n c p
fixed_are n p Nulls t e h = absurd (none_some p e)
fixed_are n p (Truths m) t e h = absurd (none_some p e)
fixed_are n p (Numbers a) t e h = absurd (none_some p e)
fixed_are n p (Decimals a) t e h = absurd (none_some p e)
fixed_are n p (Texts a) t e h = absurd (none_some p e)
fixed_are n p (Lists os es) t e h = absurd (none_some p e)
fixed_are n p (Structs fields) t e h = absurd (none_some p e)
fixed_are n p (Storage a) t e h = absurd (none_some p e)
fixed_are n p (Constant x) t e h = absurd (none_some p e)
fixed_are n p (FixedLists j es) null e h = absurd h
fixed_are n p (FixedLists j es) (boolean nl) e h = absurd h
fixed_are n p (FixedLists j es) (primitive k nl) e h = absurd h
fixed_are n p (FixedLists j es) (decimal pr sc nl) e h = absurd h
fixed_are n p (FixedLists j es) (utf8 nl) e h = absurd h
fixed_are n p (FixedLists j es) (binary nl) e h = absurd h
fixed_are n p (FixedLists j es) (structure fs nl) e h = absurd h
fixed_are n p (FixedLists j es) (list u nl) e h = absurd h
fixed_are n p (FixedLists j es) (extension id u x) e h = absurd h
fixed_are n p (FixedLists j es) (fixed_size_list u size nl) e h =
    let is : (j, es.value) ≡ p = same (j, es.value) p e in
    record {
      count = ap (λ (q : ℕ × Column). length q.1.rows) (sym is) ∙ h.1.1 ∙ ap (λ (m : ℕ). n * m) (sym h.0)
          ∙ ap (λ (q : ℕ × Column). n * q.0) is;
      rows = ap (λ (q : ℕ × Column). map (λ rs. list_row (rows_from rs)) (chunks q.0 n q.1.rows)) is;
      value = λ vs rs k. list_of u p.1.dtype vs rs (list_value (values_from vs))
          (ap (λ (q : ℕ × Column). q.1.dtype) (sym is) ∙ h.1.0) k refl;
    }

pub fixed_within : (t : Term) (n i : ℕ) (c : Content) (p : ℕ × Column) → fixed_in c ≡ Some p → IsShaped c t n → i < n
    → i * p.0 + p.0 ≤ length p.1.rows
fixed_within t n i c p e h below =
    let less : suc i * p.0 ≤ n * p.0 = mul-le (suc i) p.0 n p.0 (omega (arith, below)) (omega arith) in
    let next : suc i * p.0 ≡ i * p.0 + p.0 = omega arith in
    omega (arith, less, next, (fixed_are n p c t e h).count)

pub fixed_value : (t : Term) (n i : ℕ) (c : Content) (p : ℕ × Column) (vs : List ValueTerm) (v : ValueTerm)
    → fixed_in c ≡ Some p → IsShaped c t n → i < n
    → AreValuesOf p.1.dtype vs (slice_range p.1.rows (i * p.0) (i * p.0 + p.0)) → v ≡ list_value (values_from vs)
    → IsRowAt c t n i v
fixed_value t n i c p vs v e h below all f =
    let known = fixed_are n p c t e h in
    let rs = slice_range p.1.rows (i * p.0) (i * p.0 + p.0) in (
      list_row (rows_from rs),
      (
        ap (λ (l : List Row). slice_get l i) known.rows ∙ chunk_place p.0 n i p.1.rows below,
        ap (row_of t) f ∙ known.value vs rs all,
      ),
    )

-- ---- structs

pub record Structed (t : Term) (n : ℕ) (c : Content) (cs : List Column) : Type 0 where
  pub rows : content_rows c t n ≡ struct_rows n (column_rows cs)
  pub long : AllByRecursion (λ (f : Column). length f.rows ≡ n) cs
  pub value : (vs : List ValueTerm) (j : ℕ) (rs : Rows) → AreValuesAt j cs vs
      → slice_get (struct_rows n (column_rows cs)) j ≡ Some (list_row rs)
      → row_of t (list_value (values_from vs)) ≡ Some (list_row rs)

fields_long : (n : ℕ) (fs : Fields) (cs : List Column) → AreFields n fs cs
    → AllByRecursion (λ (f : Column). length f.rows ≡ n) cs
fields_long n no_fields [] h = tt
fields_long n no_fields (c ∷ cs) h = absurd h
fields_long n (field x t fs) [] h = absurd h
fields_long n (field x t fs) (c ∷ cs) h = (h.0.1, fields_long n fs cs h.1)

pub structs_are : (n : ℕ) (p : List Column) (c : Content) (t : Term) → fields_in c ≡ Some p → IsShaped c t n
    → Structed t n c p
structs_are n p Nulls t e h = absurd (none_some p e)
structs_are n p (Truths m) t e h = absurd (none_some p e)
structs_are n p (Numbers a) t e h = absurd (none_some p e)
structs_are n p (Decimals a) t e h = absurd (none_some p e)
structs_are n p (Texts a) t e h = absurd (none_some p e)
structs_are n p (Lists os es) t e h = absurd (none_some p e)
structs_are n p (FixedLists j es) t e h = absurd (none_some p e)
structs_are n p (Storage a) t e h = absurd (none_some p e)
structs_are n p (Constant x) t e h = absurd (none_some p e)
structs_are n p (Structs fields) null e h = absurd h
structs_are n p (Structs fields) (boolean nl) e h = absurd h
structs_are n p (Structs fields) (primitive k nl) e h = absurd h
structs_are n p (Structs fields) (decimal pr sc nl) e h = absurd h
structs_are n p (Structs fields) (utf8 nl) e h = absurd h
structs_are n p (Structs fields) (binary nl) e h = absurd h
structs_are n p (Structs fields) (structure fs nl) e h =
    let is : fields.items ≡ p = same fields.items p e in
    let all : AreFields n fs p = subst (AreFields n fs) is h in
    record {
      rows = ap (λ (l : List Column). struct_rows n (column_rows l)) is;
      long = fields_long n fs p all;
      value = λ vs j rs k found. struct_value n fs p vs j rs all k found;
    }
structs_are n p (Structs fields) (list u nl) e h = absurd h
structs_are n p (Structs fields) (extension id u x) e h = absurd h
structs_are n p (Structs fields) (fixed_size_list u size nl) e h = absurd h

above : (n i : ℕ) (cs : List Column) → i < n → AllByRecursion (λ (f : Column). length f.rows ≡ n) cs
    → AllByRecursion (λ (f : Column). i < length f.rows) cs
above n i [] below h = tt
above n i (c ∷ cs) below h = (omega (arith, below, h.0), above n i cs below h.1)

pub fields_above : (t : Term) (n i : ℕ) (c : Content) (cs : List Column) → fields_in c ≡ Some cs → IsShaped c t n
    → i < n → AllByRecursion (λ (f : Column). i < length f.rows) cs
fields_above t n i c cs e h below = above n i cs below (structs_are n cs c t e h).long

struct_there : (n : ℕ) (cs : List (List Row)) (j : ℕ) → j < length (struct_rows n cs)
    → (rs : Rows) × (slice_get (struct_rows n cs) j ≡ Some (list_row rs))
struct_there n cs j below =
    let inside : j < length (inside_structs n cs) = subst (λ k. j < k) (length-map (inside_structs n cs) list_row) below in (
      get_or (inside_structs n cs) j no_rows,
      slice_get-map list_row (inside_structs n cs) j
          ∙ ap (option_map list_row) (slice_get-get_or (inside_structs n cs) j no_rows inside),
    )

pub structs_value : (t : Term) (n i : ℕ) (c : Content) (cs : List Column) (vs : List ValueTerm) (v : ValueTerm)
    → fields_in c ≡ Some cs → IsShaped c t n → i < length (content_rows c t n) → AreValuesAt i cs vs
    → v ≡ list_value (values_from vs) → IsRowAt c t n i v
structs_value t n i c cs vs v e h below all f =
    let known = structs_are n cs c t e h in
    let long : i < length (struct_rows n (column_rows cs)) = subst (λ (l : List Row). i < length l) known.rows below in
    let there = struct_there n (column_rows cs) i long in (
      list_row there.0,
      (
        ap (λ (l : List Row). slice_get l i) known.rows ∙ there.1,
        ap (row_of t) f ∙ known.value vs i there.0 all there.1,
      ),
    )

-- ---- constants

some_is : (o : Option Row) → IsSome o → o ≡ Some (unwrap_or o null_row)
some_is (Some r) h = refl
some_is None h = absurd (cc)

pub constant_value : (t : Term) (n i : ℕ) (c : Content) (x v : ValueTerm) → c ≡ Constant x → IsShaped c t n → i < n
    → v ≡ x → IsRowAt c t n i v
constant_value t n i c x v is shape below e =
    let fits : IsSome (fitting_row t x) = subst (λ (y : Content). IsShaped y t n) is shape in (
      row_under t x,
      (
        ap (λ (y : Content). slice_get (content_rows y t n) i) is ∙ copies_at n i (row_under t x) below,
        ap (row_of t) e ∙ some_is (row_of t x) (row_there t x fits),
      ),
    )

-- ---- what an array knows of a place

pub place_below : (a : Inside) (c : Column) (i : ℕ) → IsArray a → column_of a ≡ c → i < length c.rows → i < a.len
place_below a c i h is below =
    let count : a.len ≡ length c.rows = h.count ∙ ap (λ (c : Column). length c.rows) is in
    omega (arith, below, count)

under_count : (v : Validity) (rs : List Row) (i : ℕ) → i < length (masked v rs) → i < length rs
under_count None rs i h = h
under_count (Some m) rs i h = by m rs i h
  where
    by : (m : List Bool) (rs : List Row) (i : ℕ) → i < length (masked (Some m) rs) → i < length rs
    by [] rs i h = absurd (omega (arith, h))
    by (b ∷ m) [] i h = absurd (omega (arith, h))
    by (b ∷ m) (r ∷ rs) zero h = omega arith
    by (b ∷ m) (r ∷ rs) (suc i) h = omega (arith, by m rs i (omega (arith, h)))

pub content_below : (a : Inside) (c : Column) (i : ℕ) → column_of a ≡ c → i < length c.rows
    → i < length (content_rows a.held.content (term_of a.dtype) a.len)
content_below a c i is below =
    under_count a.held.validity (content_rows a.held.content (term_of a.dtype) a.len) i
    (subst (λ (c : Column). i < length c.rows) (sym is) below)

pub row_fits : (a : Inside) (c : Column) (i : ℕ) (r : Row) → IsArray a → column_of a ≡ c → i < length c.rows
    → valid_at a.held.validity i ≡ true → slice_get (content_rows a.held.content (term_of a.dtype) a.len) i ≡ Some r
    → Fits (term_of a.dtype) r
row_fits a c i r h is below valid e =
    fits_at (Fits (term_of a.dtype)) (column_of a).rows i r h.holds.fit
    (shown_place a.held.validity (content_rows a.held.content (term_of a.dtype) a.len) a.len i r (held_count a h)
    (place_below a c i h is below) valid e)

pub number_fits : (a : Inside) (c : Column) (i : ℕ) (b : NumberBytes) (z : ℤ) (k : WholeKind) (nl : Bool) → IsArray a
    → column_of a ≡ c → i < length c.rows → valid_at a.held.validity i ≡ true → a.held.content ≡ Numbers b
    → slice_get (number_rows b) i ≡ Some (whole_row z) → term_of a.dtype ≡ primitive k nl → InRange k z
number_fits a c i b z k nl h is below valid con e t =
    subst (λ (u : Term). Fits u (whole_row z)) t (row_fits a c i (whole_row z) h is below valid
    (ap (λ (x : Content). slice_get (content_rows x (term_of a.dtype) a.len) i) con ∙ e))

pub text_fits : (a : Inside) (c : Column) (i : ℕ) (b : TextBytes) (bs : List ℕ) (nl : Bool) → IsArray a
    → column_of a ≡ c → i < length c.rows → valid_at a.held.validity i ≡ true → a.held.content ≡ Texts b
    → slice_get (text_pieces b) i ≡ Some bs → term_of a.dtype ≡ utf8 nl → IsUtf8 bs
text_fits a c i b bs nl h is below valid con e t =
    subst (λ (u : Term). Fits u (bytes_row bs)) t (row_fits a c i (bytes_row bs) h is below valid
    (ap (λ (x : Content). slice_get (content_rows x (term_of a.dtype) a.len) i) con
    ∙ slice_get-map bytes_row (text_pieces b) i ∙ ap (option_map bytes_row) e))

pub ok_then : {X : Type 0} (r : Result X ArrayError) (P Q : X → Type 0) → IfOk r P → ((x : X) → P x → Q x) → IfOk r Q
ok_then (Ok x) P Q h k = k x h
ok_then (Err e) P Q h k = tt

-- ---- what is inside has fewer nodes

lists_lighter : (p : List ℕ × Column) (c : Content) (n : ℕ) (v : ArrayNodes) → lists_in c ≡ Some p
    → array_node_count p.1.node < array_node_count (content_node c n v)
lists_lighter p Nulls n v e = absurd (none_some p e)
lists_lighter p (Truths m) n v e = absurd (none_some p e)
lists_lighter p (Numbers a) n v e = absurd (none_some p e)
lists_lighter p (Decimals a) n v e = absurd (none_some p e)
lists_lighter p (Texts a) n v e = absurd (none_some p e)
lists_lighter p (Lists os es) n v e =
    let is : array_node_count es.value.node ≡ array_node_count p.1.node =
    ap (λ (q : List ℕ × Column). array_node_count q.1.node) (same (os, es.value) p e) in
    omega (arith, is)
lists_lighter p (FixedLists j es) n v e = absurd (none_some p e)
lists_lighter p (Structs fields) n v e = absurd (none_some p e)
lists_lighter p (Storage a) n v e = absurd (none_some p e)
lists_lighter p (Constant x) n v e = absurd (none_some p e)

pub list_lighter : (a : Inside) (c : Column) (p : List ℕ × Column) → column_of a ≡ c → lists_in a.held.content ≡ Some p
    → array_node_count p.1.node < array_node_count c.node
list_lighter a c p is e =
    subst (λ (c : Column). array_node_count p.1.node < array_node_count c.node) is
    (lists_lighter p a.held.content a.len (mask_nodes a.len a.held.validity) e)

fixed_lighter : (p : ℕ × Column) (c : Content) (n : ℕ) (v : ArrayNodes) → fixed_in c ≡ Some p
    → array_node_count p.1.node < array_node_count (content_node c n v)
fixed_lighter p Nulls n v e = absurd (none_some p e)
fixed_lighter p (Truths m) n v e = absurd (none_some p e)
fixed_lighter p (Numbers a) n v e = absurd (none_some p e)
fixed_lighter p (Decimals a) n v e = absurd (none_some p e)
fixed_lighter p (Texts a) n v e = absurd (none_some p e)
fixed_lighter p (Lists os es) n v e = absurd (none_some p e)
fixed_lighter p (FixedLists j es) n v e =
    let is : array_node_count es.value.node ≡ array_node_count p.1.node =
    ap (λ (q : ℕ × Column). array_node_count q.1.node) (same (j, es.value) p e) in
    omega (arith, is)
fixed_lighter p (Structs fields) n v e = absurd (none_some p e)
fixed_lighter p (Storage a) n v e = absurd (none_some p e)
fixed_lighter p (Constant x) n v e = absurd (none_some p e)

pub fixed_list_lighter : (a : Inside) (c : Column) (p : ℕ × Column) → column_of a ≡ c
    → fixed_in a.held.content ≡ Some p → array_node_count p.1.node < array_node_count c.node
fixed_list_lighter a c p is e =
    subst (λ (c : Column). array_node_count p.1.node < array_node_count c.node) is
    (fixed_lighter p a.held.content a.len (mask_nodes a.len a.held.validity) e)

-- the nodes of columns, counted
abbrev pub columns_count : List Column → ℕ
columns_count cs = array_nodes_count (array_nodes_before (column_nodes cs) no_array_nodes)

before_count : (cs : List Column) (v : ArrayNodes)
    → columns_count cs ≤ array_nodes_count (array_nodes_before (column_nodes cs) v)
before_count [] v = omega arith
before_count (c ∷ cs) v = omega (arith, before_count cs v)

structs_lighter : (p : List Column) (c : Content) (n : ℕ) (v : ArrayNodes) → fields_in c ≡ Some p
    → columns_count p < array_node_count (content_node c n v)
structs_lighter p Nulls n v e = absurd (none_some p e)
structs_lighter p (Truths m) n v e = absurd (none_some p e)
structs_lighter p (Numbers a) n v e = absurd (none_some p e)
structs_lighter p (Decimals a) n v e = absurd (none_some p e)
structs_lighter p (Texts a) n v e = absurd (none_some p e)
structs_lighter p (Lists os es) n v e = absurd (none_some p e)
structs_lighter p (FixedLists j es) n v e = absurd (none_some p e)
structs_lighter p (Structs fields) n v e =
    let is : columns_count fields.items ≡ columns_count p = ap columns_count (same fields.items p e) in
    omega (arith, is, before_count fields.items v)
structs_lighter p (Storage a) n v e = absurd (none_some p e)
structs_lighter p (Constant x) n v e = absurd (none_some p e)

pub struct_lighter : (a : Inside) (c : Column) (p : List Column) → column_of a ≡ c → fields_in a.held.content ≡ Some p
    → columns_count p < array_node_count c.node
struct_lighter a c p is e =
    subst (λ (c : Column). columns_count p < array_node_count c.node) is
    (structs_lighter p a.held.content a.len (mask_nodes a.len a.held.validity) e)

pub field_lighter : (cs : List Column) (k : ℕ) (f : Column) → slice_get cs k ≡ Some f
    → array_node_count f.node ≤ columns_count cs
field_lighter [] k f e = absurd (none_some f e)
field_lighter (c ∷ cs) zero f e =
    let is : array_node_count c.node ≡ array_node_count f.node = ap (λ (x : Column). array_node_count x.node) (same c f e) in
    omega (arith, is)
field_lighter (c ∷ cs) (suc k) f e = omega (arith, field_lighter cs k f e)
