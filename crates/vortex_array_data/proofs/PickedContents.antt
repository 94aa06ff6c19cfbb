-- What is picked of how rows are held is how the rows that are picked are held.
use Rattle.std.proofs.Common.{◌≡◌, ◌≤◌, ◌<◌, ◌-◌, ◌*◌, ℕ, suc, List, [], ◌∷◌, Bool, true, Some, None, map, length, refl, sym, ap, subst, ◌∙◌, arith, Vec, Global}
use Rattle.std.specs.declared.rc.Rc.{Rc}
use Rattle.std.specs.List.{AllByRecursion}
use Rattle.std.proofs.lemmas.List.{length-map, length-replicate}
use Rattle.vortex_terms.specs.Term.{Term, null, boolean, primitive, decimal, utf8, binary, structure, list, extension, fixed_size_list, Fields, no_fields, field}
use Rattle.vortex_terms.specs.Row.{Row, null_row, truth_row, bytes_row, list_row, no_rows, row, rows_from, copies}
use Rattle.vortex_terms.specs.Fits.{Fits}
use Rattle.vortex_terms.specs.FromColumns.{zip_map, masked, inside_structs}
use Rattle.vortex_scalar_value.specs.Value.{ValueTerm}
use Rattle.vortex_value_rows.specs.RowOf.{row_under}
use Rattle.vortex_types.specs.DTypes.{term_of}
use Rattle.vortex_node_rows.specs.Pieces.{chunks}
use Rattle.vortex_node_rows.specs.RowsOf.{Validity}
use Rattle.vortex_node_rows.proofs.Constants.{length-copies}
use Rattle.vortex_node_rows.proofs.Masks.{length-zip_map}
use Rattle.vortex_node_rows.proofs.Lists.{length-chunks}
use Rattle.vortex_leaves.specs.Numbers.{NumberBytes, number_rows}
use Rattle.vortex_leaves.specs.Texts.{AreOffsets, TextBytes, text_pieces}
use Rattle.vortex_leaves.specs.Selected.{AreNumbersOf}
use Rattle.vortex_leaves.proofs.Rising.{length-first_chunks, length-pieces}
use Rattle.vortex_array_data.specs.Column.{Column}
use Rattle.vortex_array_data.specs.ArrayNode.{array_node_count, ArrayNode, ArrayNodes, no_array_nodes, array_nodes_count, array_nodes_before}
use Rattle.vortex_array_data.specs.Content.{column_nodes, content_node, content_rows, column_rows, column_of, AreFields, is_maskable, IsMask, IsShaped, IsArray}
use Rattle.vortex_array_data.specs.inner.Picked.{is_plain_content, picked, ArePickedColumns, IsPickedColumn, IsPickedContent, IsPickedLists, IsPickedMask, IsPickedTexts}
use Rattle.vortex_array_data.specs.inner.Spans.{spans, AreStarts}
use Rattle.vortex_array_data.specs.declared.held.Content.{Content}
use Rattle.vortex_array_data.specs.declared.held.Content.TheVariants.{Nulls, Truths, Numbers, Decimals, Texts, Lists, FixedLists, Structs, Storage, Constant}
use Rattle.vortex_array_data.specs.declared.held.Array.TheInside.{Inside}
use Rattle.vortex_array_data.proofs.PickLaws.{Below, picked-map, picked-zip, picked-replicate, length-picked, all_picked}
use Rattle.vortex_array_data.proofs.PickedParts.{even_starts, even_picked}
use Rattle.vortex_array_data.proofs.ShownRows.{below_mask, mask_is}
use Rattle.vortex_array_data.proofs.PlainNodes.{child_plain, columns_plain}

-- the rows at places, whatever is null
pub record IsSameContent (t : Term) (ps : List ℕ) (n : ℕ) (old new : Content) : Type 0 where
  pub shape : IsShaped new t (length ps)
  pub rows : content_rows new t (length ps) ≡ picked ps (content_rows old t n)
  pub canonical : is_plain_content old ≡ true → is_plain_content new ≡ true

-- ---- leaves

copies_picked : (n : ℕ) (r : Row) (ps : List ℕ) → Below n ps → copies (length ps) r ≡ picked ps (copies n r)
unfolding copies
copies_picked n r ps b = sym (picked-replicate n r ps b)

pub nulls_picked : (t : Term) (ps : List ℕ) (n : ℕ) → Below n ps → IsShaped Nulls t n → IsSameContent t ps n Nulls Nulls
nulls_picked null ps n b h = record { shape = tt; rows = copies_picked n null_row ps b; canonical = λ e. e }
nulls_picked _ ps n b h = absurd h

pub truths_picked : (t : Term) (ps : List ℕ) (n : ℕ) (m k : List Bool) → Below n ps → IsShaped (Truths m) t n → k ≡ picked ps m
    → IsSameContent t ps n (Truths m) (Truths k)
truths_picked (boolean nl) ps n m k b h e =
    record { shape = ap length e ∙ length-picked ps m (subst (λ j. Below j ps) (sym h) b); rows = ap (map truth_row) e ∙ sym (picked-map truth_row ps m); canonical = λ e. e }
truths_picked _ ps n m k b h e = absurd h

pub numbers_long : (a : NumberBytes) → length (number_rows a) ≡ a.count
numbers_long a = length-map _ _ ∙ length-first_chunks _ a.count a.bytes

still_below : {A : Type 0} (ps : List ℕ) (n : ℕ) (xs : List A) → Below n ps → length xs ≡ n → Below (length xs) ps
still_below ps n xs b e = subst (λ j. Below j ps) (sym e) b

pub numbers_picked : (t : Term) (ps : List ℕ) (n : ℕ) (a b : NumberBytes) → Below n ps → IsShaped (Numbers a) t n
    → AreNumbersOf a.format (picked ps (number_rows a)) b → IsSameContent t ps n (Numbers a) (Numbers b)
numbers_picked (primitive k nl) ps n a b w h e = record {
  shape = (e.format ∙ h.0, e.count ∙ length-picked ps (number_rows a) (still_below ps n (number_rows a) w (numbers_long a ∙ h.1)));
  rows = e.rows;
  canonical = λ k. k;
}
numbers_picked _ ps n a b w h e = absurd h

pub decimals_picked : (t : Term) (ps : List ℕ) (n : ℕ) (a b : NumberBytes) → Below n ps → IsShaped (Decimals a) t n
    → AreNumbersOf a.format (picked ps (number_rows a)) b → IsSameContent t ps n (Decimals a) (Decimals b)
decimals_picked (decimal p s nl) ps n a b w h e = record {
  shape = e.count ∙ length-picked ps (number_rows a) (still_below ps n (number_rows a) w (numbers_long a ∙ h));
  rows = e.rows;
  canonical = λ k. k;
}
decimals_picked _ ps n a b w h e = absurd h

-- how many there are, by the content
pub numbers_count : (t : Term) (n : ℕ) (a : NumberBytes) → IsShaped (Numbers a) t n → a.count ≡ n
numbers_count (primitive k nl) n a h = h.1
numbers_count _ n a h = absurd h

pub decimals_count : (t : Term) (n : ℕ) (a : NumberBytes) → IsShaped (Decimals a) t n → a.count ≡ n
decimals_count (decimal p s nl) n a h = h
decimals_count _ n a h = absurd h

pub truths_count : (t : Term) (n : ℕ) (m : List Bool) → IsShaped (Truths m) t n → length m ≡ n
truths_count (boolean nl) n m h = h
truths_count _ n m h = absurd h

pub texts_count : (t : Term) (n : ℕ) (a : TextBytes) → IsShaped (Texts a) t n → length (text_pieces a) ≡ n
texts_count (utf8 nl) n a h = h
texts_count (binary nl) n a h = h
texts_count _ n a h = absurd h

pub lists_count : (t : Term) (n : ℕ) (os : List ℕ) (es : Rc Column Global) → IsShaped (Lists os es) t n → length os ≡ suc n
lists_count (list t nl) n os es h = h.1.count
lists_count _ n os es h = absurd h

pub texts_picked : (t : Term) (ps : List ℕ) (n : ℕ) (v : Validity) (a b : TextBytes) → IsShaped (Texts a) t n
    → IsPickedTexts ps v a b → IsPickedContent t ps n v (Texts a) (Texts b)
texts_picked (utf8 nl) ps n v a b h e = record { shape = e.count; rows = e.same; canonical = λ k. k }
texts_picked (binary nl) ps n v a b h e = record { shape = e.count; rows = e.same; canonical = λ k. k }
texts_picked _ ps n v a b h e = absurd h

pub constant_picked : (t : Term) (ps : List ℕ) (n : ℕ) (v w : ValueTerm) → Below n ps → IsShaped (Constant v) t n → w ≡ v
    → IsSameContent t ps n (Constant v) (Constant w)
constant_picked t ps n v w b h e =
    rw e (record { shape = constant_shaped t n (length ps) v h; rows = copies_picked n (row_under t v) ps b; canonical = λ k. k })
  where
    constant_shaped : (t : Term) (n k : ℕ) (v : ValueTerm) → IsShaped (Constant v) t n → IsShaped (Constant v) t k
    constant_shaped t n k v h = h

-- ---- lists

pub lists_shape : (t : Term) (n : ℕ) (os : List ℕ) (es : Rc Column Global) → IsShaped (Lists os es) t n
    → AreOffsets n (length es.value.rows) os
lists_shape (list t nl) n os es h = h.1
lists_shape _ n os es h = absurd h

pub lists_picked : (t : Term) (ps : List ℕ) (n : ℕ) (v : Validity) (os new : List ℕ) (es fs : Rc Column Global) → IsShaped (Lists os es) t n
    → IsPickedLists ps v os es.value new fs.value → IsPickedContent t ps n v (Lists os es) (Lists new fs)
lists_picked (list t nl) ps n v os new es fs h p = record {
  shape = (p.dtype ∙ h.0, p.shape);
  rows = p.same;
  canonical = child_plain _ _ p.canonical;
}
lists_picked _ ps n v os new es fs h p = absurd h

pub fixed_parts : (t : Term) (n k : ℕ) (es : Rc Column Global) → IsShaped (FixedLists k es) t n
    → AreStarts (λ i. i * k) n (length es.value.rows)
fixed_parts (fixed_size_list t j nl) n k es h =
    let long : length es.value.rows ≡ n * k = h.1.1 ∙ ap (λ i. n * i) (sym h.0) in
    even_starts k n (length es.value.rows) long
fixed_parts _ n k es h = absurd h

pub fixed_picked : (t : Term) (ps : List ℕ) (n k : ℕ) (es fs : Rc Column Global) → Below n ps → IsShaped (FixedLists k es) t n
    → IsPickedColumn (spans (λ i. i * k) ps) es.value fs.value → IsSameContent t ps n (FixedLists k es) (FixedLists k fs)
fixed_picked (fixed_size_list t j nl) ps n k es fs b h p =
    let g : List Row → Row = λ rs. list_row (rows_from rs) in
    let long : length es.value.rows ≡ n * k = h.1.1 ∙ ap (λ i. n * i) (sym h.0) in
    let cut = even_picked k n ps es.value.rows fs.value.rows b long p.rows in
    record {
      shape = (h.0, (p.dtype ∙ h.1.0, cut.0 ∙ ap (λ i. length ps * i) h.0));
      rows = ap (map g) cut.1 ∙ sym (picked-map g ps (chunks k n es.value.rows));
      canonical = child_plain _ _ p.canonical;
    }
fixed_picked _ ps n k es fs b h p = absurd h

-- ---- extensions

pub storage_picked : (t : Term) (ps : List ℕ) (n : ℕ) (es fs : Rc Column Global) → Below n ps → IsShaped (Storage es) t n
    → IsPickedColumn ps es.value fs.value → IsSameContent t ps n (Storage es) (Storage fs)
storage_picked (extension id t x) ps n es fs b h p = record {
  shape = (p.dtype ∙ h.0, ap length p.rows ∙ length-picked ps es.value.rows (subst (λ j. Below j ps) (sym h.1) b));
  rows = p.rows;
  canonical = child_plain _ _ p.canonical;
}
storage_picked _ ps n es fs b h p = absurd h

pub storage_count : (t : Term) (n : ℕ) (es : Rc Column Global) → IsShaped (Storage es) t n → length es.value.rows ≡ n
storage_count (extension id t x) n es h = h.1
storage_count _ n es h = absurd h

-- ---- structs

pub length-inside : (n : ℕ) (fs : Fields) (cs : List Column) → AreFields n fs cs → length (inside_structs n (column_rows cs)) ≡ n
length-inside n no_fields [] h = length-replicate n no_rows
length-inside n no_fields (c ∷ cs) h = absurd h
length-inside n (field x t fs) [] h = absurd h
length-inside n (field x t fs) (c ∷ cs) h =
    let others : length (inside_structs n (column_rows cs)) ≡ n = length-inside n fs cs h.1 in
    length-zip_map row c.rows (inside_structs n (column_rows cs)) (h.0.1 ∙ sym others) ∙ others

fields_picked : (n : ℕ) (fs : Fields) (ps : List ℕ) (cs ds : List Column) → Below n ps → AreFields n fs cs → ArePickedColumns ps cs ds
    → AreFields (length ps) fs ds
fields_picked n no_fields ps [] [] b h p = tt
fields_picked n (field x t fs) ps (c ∷ cs) (d ∷ ds) b h p = (
  (p.0.dtype ∙ h.0.0, ap length p.0.rows ∙ length-picked ps c.rows (subst (λ j. Below j ps) (sym h.0.1) b)),
  fields_picked n fs ps cs ds b h.1 p.1,
)
fields_picked n (field x t fs) ps [] [] b h p = absurd h
fields_picked n no_fields ps (c ∷ cs) (d ∷ ds) b h p = absurd h
fields_picked n fs ps [] (d ∷ ds) b h p = absurd p
fields_picked n fs ps (c ∷ cs) [] b h p = absurd p

inside_picked : (n : ℕ) (fs : Fields) (ps : List ℕ) (cs ds : List Column) → Below n ps → AreFields n fs cs → ArePickedColumns ps cs ds
    → inside_structs (length ps) (column_rows ds) ≡ picked ps (inside_structs n (column_rows cs))
inside_picked n no_fields ps [] [] b h p = sym (picked-replicate n no_rows ps b)
inside_picked n (field x t fs) ps (c ∷ cs) (d ∷ ds) b h p =
    ap (λ (l : List Row). zip_map row l (inside_structs (length ps) (column_rows ds))) p.0.rows
    ∙ ap (zip_map row (picked ps c.rows)) (inside_picked n fs ps cs ds b h.1 p.1)
    ∙ sym (picked-zip row ps c.rows (inside_structs n (column_rows cs)) (h.0.1 ∙ sym (length-inside n fs cs h.1)))
inside_picked n (field x t fs) ps [] [] b h p = absurd h
inside_picked n no_fields ps (c ∷ cs) (d ∷ ds) b h p = absurd h
inside_picked n fs ps [] (d ∷ ds) b h p = absurd p
inside_picked n fs ps (c ∷ cs) [] b h p = absurd p

pub structs_picked : (t : Term) (ps : List ℕ) (n : ℕ) (v w : Vec Column Global) → Below n ps → IsShaped (Structs v) t n
    → ArePickedColumns ps v.items w.items → IsSameContent t ps n (Structs v) (Structs w)
structs_picked (structure fs nl) ps n v w b h p = record {
  shape = fields_picked n fs ps v.items w.items b h p;
  rows = ap (map list_row) (inside_picked n fs ps v.items w.items b h p) ∙ sym (picked-map list_row ps (inside_structs n (column_rows v.items)));
  canonical = columns_plain ps v.items w.items p;
}
structs_picked _ ps n v w b h p = absurd h

counted_fields : (n : ℕ) (fs : Fields) (cs : List Column) → AreFields n fs cs → AllByRecursion (λ (a : Column). length a.rows ≡ n) cs
counted_fields n no_fields [] h = tt
counted_fields n no_fields (c ∷ cs) h = absurd h
counted_fields n (field x t fs) [] h = absurd h
counted_fields n (field x t fs) (c ∷ cs) h = (h.0.1, counted_fields n fs cs h.1)

pub structs_counted : (t : Term) (n : ℕ) (v : Vec Column Global) → IsShaped (Structs v) t n
    → AllByRecursion (λ (a : Column). length a.rows ≡ n) v.items
structs_counted (structure fs nl) n v h = counted_fields n fs v.items h
structs_counted _ n v h = absurd h

pub none_picked : (ps : List ℕ) (cs : List Column) → length cs < 1 → ArePickedColumns ps cs []
none_picked ps [] h = tt
none_picked ps (c ∷ cs) h = absurd (omega (arith, h))

-- ---- masks and rows

pub length-content : (t : Term) (n : ℕ) (c : Content) → IsShaped c t n → length (content_rows c t n) ≡ n
length-content t n c h = length_by t n c h
  where
    length_by : (t : Term) (n : ℕ) (c : Content) → IsShaped c t n → length (content_rows c t n) ≡ n
    length_by null n Nulls h = length-copies n null_row
    length_by (boolean nl) n (Truths m) h = length-map _ _ ∙ h
    length_by (primitive k nl) n (Numbers a) h = numbers_long a ∙ h.1
    length_by (decimal p s nl) n (Decimals a) h = numbers_long a ∙ h
    length_by (utf8 nl) n (Texts a) h = length-map _ _ ∙ h
    length_by (binary nl) n (Texts a) h = length-map _ _ ∙ h
    length_by (list t nl) n (Lists os es) h = length-map _ _ ∙ length-pieces n os es.value.rows h.1.count
    length_by (fixed_size_list t k nl) n (FixedLists j es) h = length-map _ _ ∙ length-chunks j n es.value.rows
    length_by (structure fs nl) n (Structs v) h = length-map _ _ ∙ length-inside n fs v.items h
    length_by (extension id t x) n (Storage es) h = h.1
    length_by t n (Constant v) h = length-copies n (row_under t v)
    length_by _ n _ h = absurd h

pub under_mask : (t : Term) (ps : List ℕ) (n : ℕ) (v : Validity) (old new : Content) → IsShaped old t n → IsMask n (is_maskable t) v
    → IsSameContent t ps n old new → IsPickedContent t ps n v old new
under_mask t ps n v old new h m p = record {
  shape = p.shape;
  rows = below_mask n (is_maskable t) ps v (content_rows old t n) (content_rows new t (length ps)) m (length-content t n old h) p.rows;
  canonical = p.canonical;
}

pub texts_under : (n : ℕ) (nl : Bool) (ps : List ℕ) (v : Validity) (a b : TextBytes) → IsMask n nl v → Below n ps → length (text_pieces a) ≡ n
    → text_pieces b ≡ picked ps (text_pieces a) → IsPickedTexts ps v a b
texts_under n nl ps v a b m w h e = record {
  count = ap length e ∙ length-picked ps (text_pieces a) (still_below ps n (text_pieces a) w h);
  same = below_mask n nl ps v (map bytes_row (text_pieces a)) (map bytes_row (text_pieces b)) m (length-map _ _ ∙ h)
      (ap (map bytes_row) e ∙ sym (picked-map bytes_row ps (text_pieces a)));
}

pub nullable_mask : (n : ℕ) (nl : Bool) (v : Validity) → IsMask n nl v → IsMask n true v
nullable_mask n nl None h = tt
nullable_mask n nl (Some m) h = (h.0, refl)

pub mask_picked : (n : ℕ) (nl : Bool) (ps : List ℕ) (m k : Validity) → IsMask n nl m → Below n ps → IsPickedMask ps m k
    → IsMask (length ps) nl k
mask_picked n nl ps None None h b p = tt
mask_picked n nl ps (Some m) (Some k) h b p = (ap length p ∙ length-picked ps m (subst (λ j. Below j ps) (sym h.0) b), h.1)
mask_picked n nl ps None (Some k) h b p = absurd p
mask_picked n nl ps (Some m) None h b p = absurd p

-- the rows of the parts that are picked are the rows that are picked
pub picked_rows : (a : Inside) (ps : List ℕ) (k : Validity) (c : Content) → IsPickedMask ps a.held.validity k
    → IsPickedContent (term_of a.dtype) ps a.len a.held.validity a.held.content c
    → masked k (content_rows c (term_of a.dtype) (length ps)) ≡ picked ps (column_of a).rows
picked_rows a ps k c p q =
    ap (λ (k : Validity). masked k (content_rows c (term_of a.dtype) (length ps))) (mask_is ps a.held.validity k p) ∙ q.rows

-- ---- the array of what is picked

pub record IsMade (ps : List ℕ) (x : Column) (t : Term) (n : ℕ) (k : Validity) (c : Content) : Type 0 where
  pub shape : IsShaped c t n
  pub mask : IsMask n (is_maskable t) k
  pub same : masked k (content_rows c t n) ≡ picked ps x.rows
  pub count : n ≡ length (masked k (content_rows c t n))
  pub fit : AllByRecursion (Fits t) (masked k (content_rows c t n))

made_by : (a : Inside) (ps : List ℕ) (k : Validity) (c : Content) → IsArray a → Below a.len ps
    → IsPickedMask ps a.held.validity k → IsPickedContent (term_of a.dtype) ps a.len a.held.validity a.held.content c
    → IsMade ps (column_of a) (term_of a.dtype) (length ps) k c
made_by a ps k c h b p q =
    let t = term_of a.dtype in
    let rs = (column_of a).rows in
    let same : masked k (content_rows c t (length ps)) ≡ picked ps rs = picked_rows a ps k c p q in
    let below : Below (length rs) ps = subst (λ n. Below n ps) h.count b in
    record {
      shape = q.shape;
      mask = mask_picked a.len (is_maskable t) ps a.held.validity k h.mask b p;
      same = same;
      count = sym (ap length same ∙ length-picked ps rs below);
      fit = subst (AllByRecursion (Fits t)) (sym same) (all_picked (Fits t) ps rs h.holds.fit);
    }

-- where x is what the array is seen as, and t a copy of its type
pub made_of : (a : Inside) (x : Column) (ps : List ℕ) (t : Term) (n : ℕ) (k : Validity) (c : Content) → IsArray a
    → column_of a ≡ x → Below (length x.rows) ps → t ≡ term_of a.dtype → n ≡ length ps
    → IsPickedMask ps a.held.validity k → IsPickedContent (term_of a.dtype) ps a.len a.held.validity a.held.content c
    → IsMade ps x t n k c
made_of a x ps t n k c h v b e l p q =
    let below : Below a.len ps = subst (λ n. Below n ps) (sym (h.count ∙ ap (λ (x : Column). length x.rows) v)) b in
    subst (λ (x : Column). IsMade ps x t n k c) v
    (subst (λ (t : Term). IsMade ps (column_of a) t n k c) (sym e)
    (subst (λ (n : ℕ). IsMade ps (column_of a) (term_of a.dtype) n k c) (sym l) (made_by a ps k c h below p q)))

-- ---- weights

fewer_nodes : (ns : List ArrayNode) (v : ArrayNodes)
    → array_nodes_count (array_nodes_before ns no_array_nodes) ≤ array_nodes_count (array_nodes_before ns v)
fewer_nodes [] v = omega arith
fewer_nodes (n ∷ ns) v = omega (arith, fewer_nodes ns v)

-- a content has no more nodes without a mask
pub lighter : (n : ℕ) (v : ArrayNodes) (c : Content)
    → array_node_count (content_node c 0 no_array_nodes) ≤ array_node_count (content_node c n v)
lighter n v Nulls = omega arith
lighter n v (Truths m) = omega arith
lighter n v (Numbers a) = omega arith
lighter n v (Decimals a) = omega arith
lighter n v (Texts a) = omega arith
lighter n v (Lists os es) = omega arith
lighter n v (FixedLists k es) = omega arith
lighter n v (Structs fields) = omega (arith, fewer_nodes (column_nodes fields.items) v)
lighter n v (Storage a) = omega arith
lighter n v (Constant c) = omega arith

pub rows_len : (a : Inside) (x : Column) → IsArray a → column_of a ≡ x → length x.rows ≡ a.len
rows_len a x h v = sym (h.count ∙ ap (λ (x : Column). length x.rows) v)
