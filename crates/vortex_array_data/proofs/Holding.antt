-- Rows that are too much, by how they are held.
use Rattle.std.proofs.Common.{◌≡◌, ◌<◌, ◌*◌, inl, inr, ℕ, List, [], ◌∷◌, Bool, true, false, Some, None, map, length, refl, sym, ap, subst, ◌∙◌, Vec, Global}
use Rattle.std.specs.declared.rc.Rc.{Rc}
use Rattle.std.specs.List.{AllByRecursion, flat_map}
use Rattle.std.proofs.lemmas.List.{length-map}
use Rattle.vortex_terms.specs.Term.{Term, null, boolean, primitive, decimal, utf8, binary, structure, list, extension, fixed_size_list, Fields, no_fields, field}
use Rattle.vortex_terms.specs.Row.{Row, list_row, no_rows, row}
use Rattle.vortex_terms.specs.Fits.{Fits}
use Rattle.vortex_terms.specs.Parts.{inner_rows}
use Rattle.vortex_terms.specs.FromColumns.{zip_map, list_rows, masked, inside_structs, struct_rows}
use Rattle.vortex_node_rows.specs.Pieces.{chunks}
use Rattle.vortex_node_rows.specs.RowsOf.{most_rows, Validity}
use Rattle.vortex_node_rows.proofs.Lists.{length-chunks}
use Rattle.vortex_leaves.specs.Texts.{TextBytes}
use Rattle.vortex_array_data.specs.Column.{Column}
use Rattle.vortex_array_data.specs.Content.{column_rows, AreFields, is_maskable, IsMask, IsShaped}
use Rattle.vortex_array_data.specs.Taken.{FieldsHoldMuch, HoldsMuch}
use Rattle.vortex_array_data.specs.declared.held.Content.TheVariants.{Texts, Lists, FixedLists, Structs, Storage}
use Rattle.vortex_array_data.specs.inner.Picked.{picked, picked_validity}
use Rattle.vortex_array_data.specs.inner.PickedPlaces.{AnyMuch, ColumnMuch, ContentMuch, ListsMuch, TextsMuch}
use Rattle.vortex_array_data.specs.inner.Spans.{spans}
use Rattle.vortex_array_data.proofs.PickLaws.{Below, all_picked, length-picked, picked-map, picked-replicate, picked-zip}
use Rattle.vortex_array_data.proofs.PickedContents.{length-inside}
use Rattle.vortex_array_data.proofs.PickedParts.{even_picked}
use Rattle.vortex_array_data.proofs.ShownRows.{below_mask, length_masked, list_of}

-- more rows than a node holds are too much of each type
pub many_hold : (t : Term) (rs : List Row) → most_rows < length rs → HoldsMuch t rs
many_hold null rs l = l
many_hold (boolean nl) rs l = l
many_hold (primitive k nl) rs l = l
many_hold (decimal p s nl) rs l = l
many_hold (utf8 nl) rs l = inl l
many_hold (binary nl) rs l = inl l
many_hold (structure fs nl) rs l = inl l
many_hold (list t nl) rs l = inl l
many_hold (extension id t x) rs l = many_hold t rs l
many_hold (fixed_size_list t k nl) rs l = inl l

pub texts_hold : (t : Term) (n : ℕ) (v : Validity) (a : TextBytes) (ps : List ℕ) → IsShaped (Texts a) t n → TextsMuch v a ps
    → ContentMuch t n v (Texts a) ps
texts_hold (utf8 nl) n v a ps h m = inr m
texts_hold (binary nl) n v a ps h m = inr m
texts_hold _ n v a ps h m = absurd h

pub lists_hold : (t : Term) (n : ℕ) (v : Validity) (os : List ℕ) (es : Rc Column Global) (ps : List ℕ) → IsShaped (Lists os es) t n
    → ListsMuch v os es.value ps → ContentMuch t n v (Lists os es) ps
lists_hold (list t nl) n v os es ps h m =
    inr (subst (λ (t : Term). HoldsMuch t (flat_map inner_rows (picked ps (masked v (list_rows os es.value.rows))))) h.0 m)
lists_hold _ n v os es ps h m = absurd h

pub storage_hold : (t : Term) (n : ℕ) (v : Validity) (es : Rc Column Global) (ps : List ℕ) → IsShaped (Storage es) t n
    → IsMask n (is_maskable t) v → ColumnMuch es.value ps → ContentMuch t n v (Storage es) ps
storage_hold (extension id t x) n None es ps h k m = subst (λ (t : Term). HoldsMuch t (picked ps es.value.rows)) h.0 m
storage_hold (extension id t x) n (Some b) es ps h k m = absurd (masked_never k.1)
  where
    masked_never : false ≡ true → ⊥
    masked_never e = absurd (cc)
storage_hold _ n v es ps h k m = absurd h

-- ---- rows under a mask that are picked

length_below : (nl : Bool) (v : Validity) (n : ℕ) (rs : List Row) (ps : List ℕ) → IsMask n nl v → length rs ≡ n → Below n ps
    → length (picked ps (masked v rs)) ≡ length ps
length_below nl v n rs ps h l b =
    let mask : IsMask (length rs) nl v = subst (λ n. IsMask n nl v) (sym l) h in
    length-picked ps (masked v rs) (subst (λ n. Below n ps) (sym (length_masked nl v rs mask ∙ l)) b)

-- ---- lists of one size

fixed_column : (es : Column) (k n : ℕ) (nl m : Bool) (v : Validity) (ps : List ℕ) → length es.rows ≡ n * k → IsMask n m v → Below n ps
    → AllByRecursion (Fits es.dtype) es.rows → ColumnMuch es (spans (λ i. i * k) ps)
    → HoldsMuch (fixed_size_list es.dtype k nl) (picked ps (masked v (map list_of (chunks k n es.rows))))
fixed_column es k n nl m v ps long h b fit much =
    let new : List Row = picked (spans (λ i. i * k) ps) es.rows in
    let cut = even_picked k n ps es.rows new b long refl in
    let many : length (map list_of (chunks k n es.rows)) ≡ n = length-map _ _ ∙ length-chunks k n es.rows in
    let count : length (picked ps (masked v (map list_of (chunks k n es.rows)))) ≡ length ps =
    length_below m v n (map list_of (chunks k n es.rows)) ps h many b in
    let same = below_mask n m ps v (map list_of (chunks k n es.rows)) (map list_of (chunks k (length ps) new)) h many
    (ap (map list_of) cut.1 ∙ sym (picked-map list_of ps (chunks k n es.rows))) in
    inr (
      picked_validity ps v,
      (
        new,
        (
          sym same ∙ ap (λ i. masked (picked_validity ps v) (map list_of (chunks k i new))) (sym count),
          (cut.0 ∙ ap (λ i. i * k) (sym count), all_picked (Fits es.dtype) (spans (λ i. i * k) ps) es.rows fit),
          much,
        ),
      ),
    )

pub fixed_hold : (t : Term) (n : ℕ) (v : Validity) (k : ℕ) (es : Rc Column Global) (ps : List ℕ) → IsShaped (FixedLists k es) t n
    → IsMask n (is_maskable t) v → Below n ps → AllByRecursion (Fits es.value.dtype) es.value.rows
    → ColumnMuch es.value (spans (λ i. i * k) ps) → ContentMuch t n v (FixedLists k es) ps
fixed_hold (fixed_size_list t j nl) n v k es ps h m b fit much =
    let long : length es.value.rows ≡ n * k = h.1.1 ∙ ap (λ i. n * i) (sym h.0) in
    let rs : List Row = picked ps (masked v (map list_of (chunks k n es.value.rows))) in
    subst (λ (t : Term). HoldsMuch (fixed_size_list t j nl) rs) h.1.0
    (subst (λ i. HoldsMuch (fixed_size_list es.value.dtype i nl) rs) h.0
    (fixed_column es.value k n nl nl v ps long m b fit much))
fixed_hold _ n v k es ps h m b fit much = absurd h

-- ---- structs

abbrev picked_columns : List ℕ → List Column → List (List Row)
picked_columns ps cs = map (λ (c : Column). picked ps c.rows) cs

columns_inside : (n : ℕ) (fs : Fields) (ps : List ℕ) (cs : List Column) → Below n ps → AreFields n fs cs
    → inside_structs (length ps) (picked_columns ps cs) ≡ picked ps (inside_structs n (column_rows cs))
columns_inside n no_fields ps [] b h = sym (picked-replicate n no_rows ps b)
columns_inside n (field x t fs) ps (c ∷ cs) b h =
    ap (zip_map row (picked ps c.rows)) (columns_inside n fs ps cs b h.1)
    ∙ sym (picked-zip row ps c.rows (inside_structs n (column_rows cs)) (h.0.1 ∙ sym (length-inside n fs cs h.1)))
columns_inside n (field x t fs) ps [] b h = absurd h
columns_inside n no_fields ps (c ∷ cs) b h = absurd h

fields_hold : (n k : ℕ) (fs : Fields) (ps : List ℕ) (cs : List Column) → k ≡ length ps → Below n ps → AreFields n fs cs → AnyMuch cs ps
    → FieldsHoldMuch k fs (picked_columns ps cs)
fields_hold n k no_fields ps [] e b h m = absurd m
fields_hold n k no_fields ps (c ∷ cs) e b h m = absurd h
fields_hold n k (field x t fs) ps [] e b h m = absurd m
fields_hold n k (field x t fs) ps (c ∷ cs) e b h (inl m) =
    let fit : AllByRecursion (Fits t) (picked ps c.rows) =
    subst (λ (t : Term). AllByRecursion (Fits t) (picked ps c.rows)) h.0.0 (all_picked (Fits c.dtype) ps c.rows m.0) in
    let long : length (picked ps c.rows) ≡ k = length-picked ps c.rows (subst (λ n. Below n ps) (sym h.0.1) b) ∙ sym e in
    inl ((long, fit), subst (λ (t : Term). HoldsMuch t (picked ps c.rows)) h.0.0 m.1)
fields_hold n k (field x t fs) ps (c ∷ cs) e b h (inr m) = inr (fields_hold n k fs ps cs e b h.1 m)

pub structs_hold : (t : Term) (n : ℕ) (v : Validity) (w : Vec Column Global) (ps : List ℕ) → IsShaped (Structs w) t n
    → IsMask n (is_maskable t) v → Below n ps → AnyMuch w.items ps → ContentMuch t n v (Structs w) ps
structs_hold (structure fs nl) n v w ps h m b much =
    let old : List Row = struct_rows n (column_rows w.items) in
    let many : length old ≡ n = length-map _ _ ∙ length-inside n fs w.items h in
    let count : length (picked ps (masked v old)) ≡ length ps = length_below nl v n old ps m many b in
    let same = below_mask n nl ps v old (struct_rows (length ps) (picked_columns ps w.items)) m many
    (ap (map list_row) (columns_inside n fs ps w.items b h) ∙ sym (picked-map list_row ps (inside_structs n (column_rows w.items)))) in
    inr (
      picked_validity ps v,
      (
        picked_columns ps w.items,
        (
          sym same ∙ ap (λ i. masked (picked_validity ps v) (struct_rows i (picked_columns ps w.items))) (sym count),
          fields_hold n (length (picked ps (masked v old))) fs ps w.items count b h much,
        ),
      ),
    )
structs_hold _ n v w ps h m b much = absurd h
