-- Arrays that are rebuilt without constants have the same rows.
use Rattle.std.proofs.Common.{◌⊎◌, ◌≡◌, ◌≤◌, ◌<◌, ◌∙◌, ◌+◌, ◌-◌, ◌*◌, ◌^◌, Option, inl, inr, ℕ, suc, List, [], ◌∷◌, Bool, true, false, Some, None, map, length, get_or, refl, sym, ap, subst, true≢false, arith, Bor, Vec, Global}
use Rattle.std.specs.declared.rc.Rc.{Rc}
use Rattle.std.specs.Prelude.{◌&&◌, not, slice_range, Result, Ok, Err, MatchResult}
use Rattle.std.specs.List.{AllByRecursion, flat_map, sum}
use Rattle.std.proofs.lemmas.List.{length-map, take_all}
use Rattle.vortex_terms.specs.Term.{Term, structure, list, extension, fixed_size_list, Fields, no_fields, field}
use Rattle.vortex_terms.specs.Weight.{weight, fields_weight}
use Rattle.vortex_terms.specs.Row.{Row, list_row, rows_from, copies}
use Rattle.vortex_terms.specs.Fits.{Fits}
use Rattle.vortex_terms.specs.Parts.{inner_rows}
use Rattle.vortex_terms.specs.FromColumns.{masked, list_rows, struct_rows}
use Rattle.vortex_types.specs.DTypes.{term_of}
use Rattle.vortex_scalar_value.specs.Value.{ValueTerm}
use Rattle.vortex_value_rows.specs.RowOf.{row_under}
use Rattle.vortex_node_rows.specs.Pieces.{chunks}
use Rattle.vortex_node_rows.specs.RowsOf.{Validity, most_rows}
use Rattle.vortex_node_rows.proofs.Lists.{length-chunks}
use Rattle.vortex_leaves.specs.Selected.{joined_offsets, shown_size}
use Rattle.vortex_leaves.specs.Texts.{AreOffsets}
use Rattle.vortex_leaves.proofs.Rising.{length-pieces}
use Rattle.vortex_array_data.specs.ArrayNode.{ArrayNode, ArrayNodes, array_encoding}
use Rattle.vortex_array_canonical.specs.Canonical.{IsCanonicalOf, RefusesCanonical}
use Rattle.vortex_array_data.specs.Constants.{is_canonical, is_constant}
use Rattle.vortex_array_data.specs.Column.{Column, Holds}
use Rattle.vortex_array_data.specs.Content.{column_of, column_rows, content_node, content_rows, held_node, held_rows, is_maskable, mask_nodes, AreFields, IsArray, IsMask, IsShaped}
use Rattle.vortex_array_data.specs.Taken.{FieldsHoldMuch, HoldsMuch}
use Rattle.vortex_array_data.specs.declared.error.ArrayError.{ArrayError}
use Rattle.vortex_array_data.specs.declared.error.ArrayError.TheVariants.{OutOfMemory, TooLarge}
use Rattle.vortex_array_data.specs.declared.held.Content.{Content}
use Rattle.vortex_array_data.specs.declared.held.Content.TheVariants.{Nulls, Truths, Numbers, Decimals, Texts, Lists, FixedLists, Structs, Storage, Constant}
use Rattle.vortex_array_data.specs.declared.held.Held.{Held}
use Rattle.vortex_array_data.specs.declared.held.Array.TheInside.{Inside}
use Rattle.vortex_array_data.specs.declared.pick_rows.Picks.TheVariants.{Range, Places}
use Rattle.vortex_array_data.specs.inner.Picked.{are_plain_columns, from_on, is_plain_content, picked, picked_validity, shown_places, IsPickedColumn, IsPickedContent, IsPickedMask}
use Rattle.vortex_array_data.specs.inner.PickedPlaces.{places_in, ArePicks, ListsMuch, RefusesPick}
use Rattle.vortex_array_plain.specs.PlainValues.{FitsValue, RefusesRows}
use Rattle.vortex_array_canonical.specs.inner.SameRows.{is_constant_content, shown_inside, AnyHoldsMuch, AreCanonicalLists, AreCanonicalOf, AreShownLists, IsCanonicalContent, IsRepeated, IsSameContent, RefusesColumns, RefusesContent, RefusesLists}
use Rattle.vortex_array_data.specs.inner.Spans.{spans}
use Rattle.vortex_array_data.proofs.PickLaws.{length-from_on, below_from_on, picked_range, Below}
use Rattle.vortex_array_data.proofs.PickedContents.{length-content, length-inside}
use Rattle.vortex_array_data.proofs.PickedParts.{inner_spans, lists_taken}
use Rattle.vortex_array_data.proofs.PickedRows.{elements_refused, lists_much}
use Rattle.vortex_array_data.proofs.PlainNodes.{both_true, inside_plain, made_plain}
use Rattle.vortex_array_data.proofs.ShownRows.{length_masked, list_of}

-- ---- all rows

pub all_places : (n : ℕ) → length (places_in (Range 0 n)) ≡ n
all_places n = length-from_on (n - 0) 0 ∙ omega arith

pub all_picked : {A : Type 0} (n : ℕ) (xs : List A) → length xs ≡ n → picked (places_in (Range 0 n)) xs ≡ xs
all_picked n xs l = picked_range 0 n xs (omega arith) (omega (arith, l)) ∙ take_all (n - 0) xs (omega (arith, l))

pub all_picks : (n : ℕ) → ArePicks n (Range 0 n)
all_picks n = (omega arith, omega arith)

-- what is picked of all rows is the content
pub leaf_kept : (t : Term) (n : ℕ) (old new : Content) → IsShaped old t n → IsPickedContent t (places_in (Range 0 n)) n None old new
    → IsSameContent t n old new
leaf_kept t n old new h p = record {
  shape = subst (IsShaped new t) (all_places n) p.shape;
  rows = ap (content_rows new t) (sym (all_places n)) ∙ p.rows ∙ all_picked n (content_rows old t n) (length-content t n old h);
  canonical = p.canonical;
}

pub leaf_plain : (t : Term) (n : ℕ) (v : Validity) (old new : Content) → (is_constant_content old ≡ false → is_plain_content old ≡ true)
    → IsSameContent t n old new → IsCanonicalContent t n v old new
leaf_plain t n v old new f p = record { shape = p.shape; rows = ap (masked v) p.rows; canonical = λ e. p.canonical (f e) }

pub mask_kept : (n : ℕ) (nl : Bool) (m k : Validity) → IsMask n nl m → IsPickedMask (places_in (Range 0 n)) m k → k ≡ m
mask_kept n nl None None h p = refl
mask_kept n nl (Some m) (Some k) h p = ap Some (p ∙ all_picked n m h.0)
mask_kept n nl None (Some k) h p = absurd p
mask_kept n nl (Some m) None h p = absurd p

-- ---- lists

-- whether a constant stands in an array, as it is asked
pub none_constant : (b r : Bool) → r ≡ not b → r ≡ false → b ≡ true
none_constant true r e f = refl
none_constant false r e f = absurd (true≢false (sym e ∙ f))

pub some_constant : (b r : Bool) → r ≡ not b → r ≡ true → b ≡ false
some_constant true r e f = absurd (true≢false (sym f ∙ e))
some_constant false r e f = refl

offsets_kept : (n : ℕ) (os new : List ℕ) → length os ≡ suc n → new ≡ slice_range os 0 (suc n) → new ≡ os
offsets_kept n os new l e = e ∙ take_all (suc n - 0) os (omega (arith, l))

-- lists whose elements stay
pub lists_shared : (n : ℕ) (v : Validity) (os new : List ℕ) (es fs : Column) → AreOffsets n (length es.rows) os
    → new ≡ slice_range os 0 (suc n) → fs ≡ es → is_canonical es.node ≡ true → AreCanonicalLists n v os es new fs
lists_shared n v os new es fs h e s c =
    let same : new ≡ os = offsets_kept n os new h.count e in
    subst (λ (fs : Column). AreCanonicalLists n v os es new fs) (sym s)
    (record {
      shape = subst (AreOffsets n (length es.rows)) (sym same) h;
      same = ap (λ (l : List ℕ). masked v (list_rows l es.rows)) same;
      dtype = refl;
      canonical = c;
    })

-- lists whose elements are laid out
pub lists_laid : (n : ℕ) (v : Validity) (os new : List ℕ) (es mid fs : Column) → AreShownLists n v os es new mid
    → IsCanonicalOf mid fs → AreCanonicalLists n v os es new fs
lists_laid n v os new es mid fs h c = record {
  shape = subst (λ (rs : List Row). AreOffsets n (length rs) new) (sym c.rows) h.shape;
  same = ap (λ (rs : List Row). masked v (list_rows new rs)) c.rows ∙ h.same;
  dtype = c.dtype ∙ h.dtype;
  canonical = c.canonical;
}

pub shown_refused : (v : Validity) (os : List ℕ) (es : Column) (e : ArrayError) → is_canonical es.node ≡ false
    → RefusesRows es.dtype (shown_inside v os es.rows) e → RefusesLists v os es e
shown_refused v os es e c (inl m) = inl m
shown_refused v os es e c (inr m) = inr (m.0, (c, m.1))

pub laid_refused : (n : ℕ) (v : Validity) (os new : List ℕ) (es mid : Column) (e : ArrayError) → is_canonical es.node ≡ false
    → AreShownLists n v os es new mid → RefusesCanonical mid e → RefusesLists v os es e
laid_refused n v os new es mid e c h (inl m) = inl m
laid_refused n v os new es mid e c h (inr m) =
    inr (m.0, (c, subst (λ (t : Term). HoldsMuch t (shown_inside v os es.rows)) h.dtype (subst (HoldsMuch mid.dtype) h.inside m.1.1)))

pub lists_canonical : (t : Term) (n : ℕ) (v : Validity) (os new : List ℕ) (es fs : Rc Column Global) → IsShaped (Lists os es) t n
    → AreCanonicalLists n v os es.value new fs.value → IsCanonicalContent t n v (Lists os es) (Lists new fs)
lists_canonical (list t nl) n v os new es fs h c = record {
  shape = (c.dtype ∙ h.0, c.shape);
  rows = c.same;
  canonical = λ z. both_true _ true c.canonical refl;
}
lists_canonical _ n v os new es fs h c = absurd h

-- ---- other contents that hold others

pub fixed_kept : (t : Term) (n : ℕ) (v : Validity) (k : ℕ) (es fs : Rc Column Global) → IsShaped (FixedLists k es) t n
    → IsCanonicalOf es.value fs.value → IsCanonicalContent t n v (FixedLists k es) (FixedLists k fs)
fixed_kept (fixed_size_list t j nl) n v k es fs h c = record {
  shape = (h.0, (c.dtype ∙ h.1.0, ap length c.rows ∙ h.1.1));
  rows = ap (λ (rs : List Row). masked v (map (λ ws. list_row (rows_from ws)) (chunks k n rs))) c.rows;
  canonical = λ z. both_true _ true c.canonical refl;
}
fixed_kept _ n v k es fs h c = absurd h

pub storage_kept : (t : Term) (n : ℕ) (v : Validity) (es fs : Rc Column Global) → IsShaped (Storage es) t n
    → IsCanonicalOf es.value fs.value → IsCanonicalContent t n v (Storage es) (Storage fs)
storage_kept (extension id t x) n v es fs h c = record {
  shape = (c.dtype ∙ h.0, ap length c.rows ∙ h.1);
  rows = ap (masked v) c.rows;
  canonical = λ z. both_true _ true c.canonical refl;
}
storage_kept _ n v es fs h c = absurd h

columns_shape : (n : ℕ) (fs : Fields) (cs ds : List Column) → AreFields n fs cs → AreCanonicalOf cs ds → AreFields n fs ds
columns_shape n no_fields [] [] h c = tt
columns_shape n (field x t fs) (a ∷ cs) (b ∷ ds) h c =
    ((c.0.dtype ∙ h.0.0, ap length c.0.rows ∙ h.0.1), columns_shape n fs cs ds h.1 c.1)
columns_shape n (field x t fs) [] [] h c = absurd h
columns_shape n no_fields (a ∷ cs) (b ∷ ds) h c = absurd h
columns_shape n fs [] (b ∷ ds) h c = absurd c
columns_shape n fs (a ∷ cs) [] h c = absurd c

columns_rows : (cs ds : List Column) → AreCanonicalOf cs ds → column_rows ds ≡ column_rows cs
columns_rows [] [] c = refl
columns_rows (a ∷ cs) (b ∷ ds) c = λ i. c.0.rows i ∷ columns_rows cs ds c.1 i
columns_rows [] (b ∷ ds) c = absurd c
columns_rows (a ∷ cs) [] c = absurd c

columns_canonical : (cs ds : List Column) → AreCanonicalOf cs ds → are_plain_columns ds ≡ true
columns_canonical [] [] c = refl
columns_canonical (a ∷ cs) (b ∷ ds) c = both_true _ (are_plain_columns ds) c.0.canonical (columns_canonical cs ds c.1)
columns_canonical [] (b ∷ ds) c = absurd c
columns_canonical (a ∷ cs) [] c = absurd c

pub structs_kept : (t : Term) (n : ℕ) (v : Validity) (a b : Vec Column Global) → IsShaped (Structs a) t n → AreCanonicalOf a.items b.items
    → IsCanonicalContent t n v (Structs a) (Structs b)
structs_kept (structure fs nl) n v a b h c = record {
  shape = columns_shape n fs a.items b.items h c;
  rows = ap (λ (rss : List (List Row)). masked v (struct_rows n rss)) (columns_rows a.items b.items c);
  canonical = λ z. columns_canonical a.items b.items c;
}
structs_kept _ n v a b h c = absurd h

pub none_kept : (cs : List Column) → length cs < 1 → AreCanonicalOf cs []
none_kept [] h = tt
none_kept (c ∷ cs) h = absurd (omega (arith, h))

-- ---- refusals

child_constant : (a : Bool) → a ≡ false → (a && true) ≡ false
child_constant a e = ap (λ (b : Bool). b && true) e

pub lists_refused : (t : Term) (n : ℕ) (v : Validity) (os : List ℕ) (es : Rc Column Global) (e : ArrayError) → IsShaped (Lists os es) t n
    → RefusesLists v os es.value e → RefusesContent t n v (Lists os es) e
lists_refused (list t nl) n v os es e h (inl m) = inl m
lists_refused (list t nl) n v os es e h (inr m) = inr (
  m.0,
  (
    child_constant _ m.1.0,
    inr (subst (λ (t : Term). HoldsMuch t (shown_inside v os es.value.rows)) h.0 m.1.1),
  ),
)
lists_refused _ n v os es e h m = absurd h

long_under : (nl : Bool) (n : ℕ) (v : Validity) (rs : List Row) → IsMask n nl v → length rs ≡ n → length (masked v rs) ≡ n
long_under nl n v rs m l = length_masked nl v rs (subst (λ n. IsMask n nl v) (sym l) m) ∙ l

fixed_much : (t : Term) (nl : Bool) (n : ℕ) (v : Validity) (k : ℕ) (es : Column) → IsMask n nl v → length es.rows ≡ n * k
    → es.dtype ≡ t → AllByRecursion (Fits es.dtype) es.rows → HoldsMuch es.dtype es.rows
    → HoldsMuch (fixed_size_list t k nl) (masked v (map list_of (chunks k n es.rows)))
fixed_much t nl n v k es m l d fit much =
    let rs : List Row = masked v (map list_of (chunks k n es.rows)) in
    let count : length rs ≡ n =
    long_under nl n v (map list_of (chunks k n es.rows)) m (length-map _ _ ∙ length-chunks k n es.rows) in
    inr (
      v,
      (
        es.rows,
        (
          ap (λ j. masked v (map list_of (chunks k j es.rows))) (sym count),
          (l ∙ ap (λ j. j * k) (sym count), subst (λ (t : Term). AllByRecursion (Fits t) es.rows) d fit),
          subst (λ (t : Term). HoldsMuch t es.rows) d much,
        ),
      ),
    )

pub fixed_refused : (t : Term) (n : ℕ) (v : Validity) (k : ℕ) (es : Rc Column Global) (e : ArrayError) → IsShaped (FixedLists k es) t n
    → IsMask n (is_maskable t) v → Holds es.value → RefusesCanonical es.value e → RefusesContent t n v (FixedLists k es) e
fixed_refused (fixed_size_list t j nl) n v k es e h m a (inl r) = inl r
fixed_refused (fixed_size_list t j nl) n v k es e h m a (inr r) = inr (
  r.0,
  (
    child_constant _ r.1.0,
    subst (λ i. HoldsMuch (fixed_size_list t i nl) (masked v (map list_of (chunks k n es.value.rows)))) h.0
        (fixed_much t nl n v k es.value m (h.1.1 ∙ ap (λ i. n * i) (sym h.0)) h.1.0 a.fit r.1.1),
  ),
)
fixed_refused _ n v k es e h m a r = absurd h

storage_much : (id : List ℕ) (t : Term) (x : Option (List ℕ)) (n : ℕ) (v : Validity) (es : Column) → es.dtype ≡ t
    → IsMask n false v → HoldsMuch es.dtype es.rows → HoldsMuch (extension id t x) (masked v es.rows)
storage_much id t x n None es d m much = subst (λ (t : Term). HoldsMuch t es.rows) d much
storage_much id t x n (Some b) es d m much = absurd (masked_never m.1)
  where
    masked_never : false ≡ true → ⊥
    masked_never e = absurd (cc)

pub storage_refused : (t : Term) (n : ℕ) (v : Validity) (es : Rc Column Global) (e : ArrayError) → IsShaped (Storage es) t n
    → IsMask n (is_maskable t) v → RefusesCanonical es.value e → RefusesContent t n v (Storage es) e
storage_refused (extension id t x) n v es e h m (inl r) = inl r
storage_refused (extension id t x) n v es e h m (inr r) =
    inr (r.0, (child_constant _ r.1.0, storage_much id t x n v es.value h.0 m r.1.1))
storage_refused _ n v es e h m r = absurd h

columns_much : (n : ℕ) (fs : Fields) (cs : List Column) → AreFields n fs cs → AnyHoldsMuch cs → FieldsHoldMuch n fs (column_rows cs)
columns_much n no_fields [] h m = absurd m
columns_much n no_fields (c ∷ cs) h m = absurd h
columns_much n (field x t fs) [] h m = absurd h
columns_much n (field x t fs) (c ∷ cs) h (inl m) = inl (
  (h.0.1, subst (λ (t : Term). AllByRecursion (Fits t) c.rows) h.0.0 m.0),
  subst (λ (t : Term). HoldsMuch t c.rows) h.0.0 m.1,
)
columns_much n (field x t fs) (c ∷ cs) h (inr m) = inr (columns_much n fs cs h.1 m)

structs_much : (fs : Fields) (nl : Bool) (n : ℕ) (v : Validity) (cs : List Column) → IsMask n nl v → AreFields n fs cs → AnyHoldsMuch cs
    → HoldsMuch (structure fs nl) (masked v (struct_rows n (column_rows cs)))
structs_much fs nl n v cs m h much =
    let count : length (masked v (struct_rows n (column_rows cs))) ≡ n =
    long_under nl n v (struct_rows n (column_rows cs)) m (length-map _ _ ∙ length-inside n fs cs h) in
    inr (
      v,
      (
        column_rows cs,
        (
          ap (λ j. masked v (struct_rows j (column_rows cs))) (sym count),
          subst (λ j. FieldsHoldMuch j fs (column_rows cs)) (sym count) (columns_much n fs cs h much),
        ),
      ),
    )

pub structs_refused : (t : Term) (n : ℕ) (v : Validity) (a : Vec Column Global) (e : ArrayError) → IsShaped (Structs a) t n
    → IsMask n (is_maskable t) v → RefusesColumns a.items e → RefusesContent t n v (Structs a) e
structs_refused (structure fs nl) n v a e h m (inl r) = inl r
structs_refused (structure fs nl) n v a e h m (inr r) = inr (r.0, (r.1.0, structs_much fs nl n v a.items m h r.1.1))
structs_refused _ n v a e h m r = absurd h

-- one of the columns is refused
pub column_refused : (c : Column) (cs all : List Column) (e : ArrayError) → Holds c
    → (are_plain_columns (c ∷ cs) ≡ false → are_plain_columns all ≡ false) → (AnyHoldsMuch (c ∷ cs) → AnyHoldsMuch all)
    → RefusesCanonical c e → RefusesColumns all e
column_refused c cs all e h f g (inl r) = inl r
column_refused c cs all e h f g (inr r) =
    inr (r.0, (f (ap (λ (b : Bool). b && are_plain_columns cs) r.1.0), g (inl (h.fit, r.1.1))))

-- ---- weights

abbrev pub columns_weight : List Column → ℕ
columns_weight [] = 0
columns_weight (c ∷ cs) = 1 + weight c.dtype + columns_weight cs

fields_lighter : (n : ℕ) (fs : Fields) (cs : List Column) → AreFields n fs cs → columns_weight cs ≡ fields_weight fs
fields_lighter n no_fields [] h = refl
fields_lighter n no_fields (c ∷ cs) h = absurd h
fields_lighter n (field x t fs) [] h = absurd h
fields_lighter n (field x t fs) (c ∷ cs) h = omega (arith, ap weight h.0.0, fields_lighter n fs cs h.1)

pub structs_lighter : (t : Term) (n : ℕ) (a : Vec Column Global) → IsShaped (Structs a) t n → columns_weight a.items < weight t
structs_lighter (structure fs nl) n a h = omega (arith, fields_lighter n fs a.items h)
structs_lighter _ n a h = absurd h

pub lists_lighter : (t : Term) (n : ℕ) (os : List ℕ) (es : Rc Column Global) → IsShaped (Lists os es) t n → weight es.value.dtype < weight t
lists_lighter (list t nl) n os es h = omega (arith, ap weight h.0)
lists_lighter _ n os es h = absurd h

pub fixed_lighter : (t : Term) (n k : ℕ) (es : Rc Column Global) → IsShaped (FixedLists k es) t n → weight es.value.dtype < weight t
fixed_lighter (fixed_size_list t j nl) n k es h = omega (arith, ap weight h.1.0)
fixed_lighter _ n k es h = absurd h

pub storage_lighter : (t : Term) (n : ℕ) (es : Rc Column Global) → IsShaped (Storage es) t n → weight es.value.dtype < weight t
storage_lighter (extension id t x) n es h = omega (arith, ap weight h.0)
storage_lighter _ n es h = absurd h

-- ---- arrays

encoding_is : (n : ℕ) (v : ArrayNodes) (c : Content) → is_constant (array_encoding (content_node c n v)) ≡ is_constant_content c
encoding_is n v Nulls = refl
encoding_is n v (Truths m) = refl
encoding_is n v (Numbers a) = refl
encoding_is n v (Decimals a) = refl
encoding_is n v (Texts a) = refl
encoding_is n v (Lists os es) = refl
encoding_is n v (FixedLists k es) = refl
encoding_is n v (Structs fields) = refl
encoding_is n v (Storage a) = refl
encoding_is n v (Constant c) = refl

pub constant_is : (a : Inside) (x : Column) → column_of a ≡ x → is_constant (array_encoding x.node) ≡ is_constant_content a.held.content
constant_is a x v =
    ap (λ (c : Column). is_constant (array_encoding c.node)) (sym v)
    ∙ encoding_is a.len (mask_nodes a.len a.held.validity) a.held.content

-- what the array is made of
pub record IsRebuilt (x : Column) (t : Term) (n : ℕ) (k : Validity) (c : Content) : Type 0 where
  pub shape : IsShaped c t n
  pub mask : IsMask n (is_maskable t) k
  pub same : masked k (content_rows c t n) ≡ x.rows
  pub count : n ≡ length (masked k (content_rows c t n))
  pub fit : AllByRecursion (Fits t) (masked k (content_rows c t n))

rebuilt_by : (a : Inside) (k : Validity) (c : Content) → IsArray a → k ≡ a.held.validity
    → IsCanonicalContent (term_of a.dtype) a.len a.held.validity a.held.content c → IsRebuilt (column_of a) (term_of a.dtype) a.len k c
rebuilt_by a k c h e p =
    let t = term_of a.dtype in
    let same : masked k (content_rows c t a.len) ≡ (column_of a).rows =
    ap (λ (m : Validity). masked m (content_rows c t a.len)) e ∙ p.rows in
    record {
      shape = p.shape;
      mask = subst (IsMask a.len (is_maskable t)) (sym e) h.mask;
      same = same;
      count = h.count ∙ ap length (sym same);
      fit = subst (AllByRecursion (Fits t)) (sym same) h.holds.fit;
    }

pub rebuilt_of : (a : Inside) (x : Column) (t : Term) (k : Validity) (c : Content) → IsArray a → column_of a ≡ x
    → t ≡ term_of a.dtype → IsPickedMask (places_in (Range 0 a.len)) a.held.validity k
    → IsCanonicalContent (term_of a.dtype) a.len a.held.validity a.held.content c → IsRebuilt x t a.len k c
rebuilt_of a x t k c h v e m p =
    subst (λ (x : Column). IsRebuilt x t a.len k c) v
    (subst (λ (t : Term). IsRebuilt (column_of a) t a.len k c) (sym e)
    (rebuilt_by a k c h (mask_kept a.len (is_maskable (term_of a.dtype)) a.held.validity k h.mask m) p))

pub rebuilt_plain : (a : Inside) (x : Column) (h : Held) (n : ℕ) (m : ArrayNode) → column_of a ≡ x
    → is_constant (array_encoding x.node) ≡ false → m ≡ held_node n h
    → (is_constant_content a.held.content ≡ false → is_plain_content h.content ≡ true) → is_canonical m ≡ true
rebuilt_plain a x h n m v e f k = made_plain n h m f ∙ k (sym (constant_is a x v) ∙ e)

pub rebuilt_refused : (a : Inside) (x : Column) (e : ArrayError) → column_of a ≡ x
    → RefusesContent (term_of a.dtype) a.len a.held.validity a.held.content e → RefusesCanonical x e
rebuilt_refused a x e v (inl m) = inl m
rebuilt_refused a x e v (inr m) = inr (
  m.0,
  (inside_plain a x v ∙ m.1.0, subst (λ (x : Column). HoldsMuch x.dtype x.rows) v m.1.1),
)

-- ---- the elements that lists show

pub all_below : (n : ℕ) → Below n (from_on (n - 0) 0)
all_below n = below_from_on (n - 0) 0 n (omega arith)

all_masks : (n : ℕ) (v : Validity) → IsMask n true v → picked_validity (from_on (n - 0) 0) v ≡ v
all_masks n None h = refl
all_masks n (Some m) h = ap (λ (m : List Bool). Some m) (all_picked n m h.0)

lists_long : (n : ℕ) (v : Validity) (os : List ℕ) (es : List Row) → AreOffsets n (length es) os → IsMask n true v
    → length (masked v (list_rows os es)) ≡ n
lists_long n v os es h m = long_under true n v (list_rows os es) m (length-map _ _ ∙ length-pieces n os es h.count)

pub shown_kept : (n : ℕ) (v : Validity) (os new ps : List ℕ) (old mid : Column) → AreOffsets n (length old.rows) os → IsMask n true v
    → ps ≡ from_on (n - 0) 0 → new ≡ joined_offsets (map (shown_size v os) ps)
    → IsPickedColumn (spans (λ i. get_or os i 0) (shown_places v ps)) old mid → AreShownLists n v os old new mid
shown_kept n v os new ps old mid h m e j p =
    let all : List ℕ = from_on (n - 0) 0 in
    let cut : IsPickedColumn (spans (λ i. get_or os i 0) (shown_places v all)) old mid =
    subst (λ (l : List ℕ). IsPickedColumn (spans (λ i. get_or os i 0) (shown_places v l)) old mid) e p in
    let lists = lists_taken n v os all new old mid h (all_below n) m
    (j ∙ ap (λ (l : List ℕ). joined_offsets (map (shown_size v os) l)) e) cut in
    let whole : picked all (masked v (list_rows os old.rows)) ≡ masked v (list_rows os old.rows) =
    all_picked n (masked v (list_rows os old.rows)) (lists_long n v os old.rows h m) in
    record {
      shape = subst (λ i. AreOffsets i (length mid.rows) new) (all_places n) lists.shape;
      same = ap (λ (k : Validity). masked k (list_rows new mid.rows)) (sym (all_masks n v m)) ∙ lists.same ∙ whole;
      dtype = lists.dtype;
      inside = cut.rows ∙ sym (inner_spans n v os all old.rows h (all_below n) m) ∙ ap (flat_map inner_rows) whole;
    }

shown_many : (n : ℕ) (v : Validity) (os ps : List ℕ) (es : Column) → AreOffsets n (length es.rows) os → IsMask n true v
    → ps ≡ from_on (n - 0) 0 → ListsMuch v os es ps → HoldsMuch es.dtype (shown_inside v os es.rows)
shown_many n v os ps es h m e much =
    subst (λ (rs : List Row). HoldsMuch es.dtype (flat_map inner_rows rs))
    (ap (λ (l : List ℕ). picked l (masked v (list_rows os es.rows))) e
    ∙ all_picked n (masked v (list_rows os es.rows)) (lists_long n v os es.rows h m)) much

pub shown_large : (n : ℕ) (v : Validity) (os : List ℕ) (es : Column) (ps : Bor (List ℕ)) → AreOffsets n (length es.rows) os
    → IsMask n true v → length es.rows ≤ most_rows → ps.now ≡ from_on (n - 0) 0 → 2 ^ 32 ≤ sum (map (shown_size v os) ps.now)
    → HoldsMuch es.dtype (shown_inside v os es.rows)
shown_large n v os es ps h m few e l =
    shown_many n v os ps.now es h m e
    ((lists_much n v os es ps (Places ps) refl (subst (Below n) (sym e) (all_below n)) h m few l).1)

pub elements_shown : (n : ℕ) (v : Validity) (os : List ℕ) (es : Column) (ps qs : Bor (List ℕ)) (e : ArrayError)
    → AreOffsets n (length es.rows) os → IsMask n true v → ps.now ≡ from_on (n - 0) 0 → qs.now ≡ shown_places v ps.now
    → RefusesPick (Places qs) (λ ps. HoldsMuch es.dtype (picked (spans (λ i. get_or os i 0) ps) es.rows)) e
    → RefusesRows es.dtype (shown_inside v os es.rows) e
elements_shown n v os es ps qs e h m a s r =
    by (elements_refused n v os es ps qs (Places ps) e refl (subst (Below n) (sym a) (all_below n)) h m s r)
  where
    by : RefusesPick (Places ps) (ListsMuch v os es) e → RefusesRows es.dtype (shown_inside v os es.rows) e
    by (inl k) = inl k
    by (inr k) = inr (k.0, shown_many n v os ps.now es h m a k.1.1)

-- a range is refused for lack of memory alone
pub range_only : (e : ArrayError) → (e ≡ OutOfMemory) ⊎ ((e ≡ TooLarge) × ⊥) → e ≡ OutOfMemory
range_only e (inl k) = k
range_only e (inr k) = absurd k.1

-- ---- constants

constant_content : (c : Content) (v : ValueTerm) → c ≡ Constant v → is_constant_content c ≡ true
constant_content c v e = ap is_constant_content e

constant_plain : (c : Content) (v : ValueTerm) → c ≡ Constant v → is_plain_content c ≡ false
constant_plain c v e = ap is_plain_content e

pub constant_fits : (a : Inside) (v : ValueTerm) → IsArray a → a.held.content ≡ Constant v → FitsValue (term_of a.dtype) v
constant_fits a v h e = subst (λ (c : Content). IsShaped c (term_of a.dtype) a.len) e h.shape

pub constant_repeated : (a : Inside) (x b : Column) (v : ValueTerm) → column_of a ≡ x → a.held.content ≡ Constant v
    → IsRepeated (term_of a.dtype) v a.held.validity a.len b → IsCanonicalOf x b
constant_repeated a x b v s e p =
    let t = term_of a.dtype in
    let rows : held_rows t a.len a.held ≡ masked a.held.validity (copies a.len (row_under t v)) =
    ap (λ (c : Content). masked a.held.validity (content_rows c t a.len)) e in
    subst (λ (x : Column). IsCanonicalOf x b) s
    (record { dtype = p.dtype; rows = p.rows ∙ sym rows; canonical = p.canonical })

constant_refused : (a : Inside) (x : Column) (v : ValueTerm) (e : ArrayError) → column_of a ≡ x → a.held.content ≡ Constant v
    → RefusesRows (term_of a.dtype) (masked a.held.validity (copies a.len (row_under (term_of a.dtype) v))) e → RefusesCanonical x e
constant_refused a x v e s c (inl m) = inl m
constant_refused a x v e s c (inr m) =
    let t = term_of a.dtype in
    let rows : held_rows t a.len a.held ≡ masked a.held.validity (copies a.len (row_under t v)) =
    ap (λ (c : Content). masked a.held.validity (content_rows c t a.len)) c in
    inr (
      m.0,
      (
        inside_plain a x s ∙ constant_plain a.held.content v c,
        subst (λ (x : Column). HoldsMuch x.dtype x.rows) s (subst (HoldsMuch t) (sym rows) m.1),
      ),
    )

pub constant_result : (a : Inside) (x : Column) (v : ValueTerm) (r : Result Column ArrayError) → column_of a ≡ x
    → a.held.content ≡ Constant v
    → MatchResult r (IsRepeated (term_of a.dtype) v a.held.validity a.len)
    (RefusesRows (term_of a.dtype) (masked a.held.validity (copies a.len (row_under (term_of a.dtype) v))))
    → MatchResult r (IsCanonicalOf x) (RefusesCanonical x)
constant_result a x v (Ok b) s e h = constant_repeated a x b v s e h
constant_result a x v (Err e) s c h = constant_refused a x v e s c h

-- ---- answers that are passed on

pub leaf_result : (t : Term) (n : ℕ) (v : Validity) (old : Content) (r : Result Content ArrayError)
    → (is_constant_content old ≡ false → is_plain_content old ≡ true)
    → MatchResult r (IsSameContent t n old) (λ e. e ≡ OutOfMemory)
    → MatchResult r (IsCanonicalContent t n v old) (RefusesContent t n v old)
leaf_result t n v old (Ok new) f h = leaf_plain t n v old new f h
leaf_result t n v old (Err e) f h = inl h

pub constant_leaf : (c : Content) (v : ValueTerm) → c ≡ Constant v → is_constant_content c ≡ false → is_plain_content c ≡ true
constant_leaf c v e f = absurd (true≢false (sym (constant_content c v e) ∙ f))
