-- A value in all rows of an array.
use Rattle.std.proofs.Common.{◌≡◌, ◌≤◌, ◌<◌, ◌∙◌, ◌+◌, inl, inr, ℕ, zero, suc, List, [], ◌∷◌, ◌++◌, Bool, true, false, Some, None, map, length, replicate, take, get_or, refl, sym, ap, subst, true≢false, arith, Bor}
use Rattle.std.specs.Prelude.{IfSome, Result, Ok, Err, MatchResult}
use Rattle.std.proofs.lemmas.List.{length-map, length-replicate, map-append, take_all, take_more}
use Rattle.vortex_terms.specs.Term.{Term, null, boolean, primitive, decimal, utf8, binary, structure, list, extension, fixed_size_list}
use Rattle.vortex_terms.specs.Row.{Row, null_row, copies}
use Rattle.vortex_terms.specs.FromColumns.{masked}
use Rattle.vortex_terms.specs.Tests.{is_fitting}
use Rattle.vortex_scalar_value.specs.Value.{ValueTerm, null_value}
use Rattle.vortex_value_rows.specs.RowOf.{row_under}
use Rattle.vortex_cast.proofs.Leaves.{null_row_of}
use Rattle.vortex_node_rows.specs.RowsOf.{Validity, most_rows}
use Rattle.vortex_array_data.specs.Constants.{is_canonical}
use Rattle.vortex_array_data.specs.Column.{Column}
use Rattle.vortex_array_data.specs.Content.{is_maskable, IsMask}
use Rattle.vortex_array_data.specs.Taken.{HoldsMuch}
use Rattle.vortex_array_data.specs.ValidRows.{valid_at}
use Rattle.vortex_array_data.specs.declared.error.ArrayError.{ArrayError}
use Rattle.vortex_array_data.specs.declared.pick_rows.Picks.TheVariants.{Places}
use Rattle.vortex_array_data.specs.inner.Picked.{picked, IsPickedColumn}
use Rattle.vortex_array_data.specs.inner.PickedPlaces.{ColumnMuch, RefusesPick}
use Rattle.vortex_array_plain.specs.PlainValues.{AllFit, FitsValue, IsPlain, RefusesPlain, RefusesRows}
use Rattle.vortex_array_canonical.specs.inner.SameRows.{choices_of, each_row, place_of, places_of_mask, value_where, values_of_mask, IsRepeated}
use Rattle.vortex_array_data.proofs.PickLaws.{Below}
use Rattle.vortex_array_plain.proofs.ValueFits.{null_under, value_fits}

-- ---- the value and null

maskable_null : (t : Term) → is_maskable t ≡ true → is_fitting t null_row ≡ true
maskable_null null h = refl
maskable_null (boolean n) h = h
maskable_null (primitive k n) h = h
maskable_null (decimal p s n) h = h
maskable_null (utf8 n) h = h
maskable_null (binary n) h = h
maskable_null (structure fs n) h = h
maskable_null (list t n) h = h
maskable_null (extension id t x) h = absurd (true≢false (sym h))
maskable_null (fixed_size_list t k n) h = h

pub choices_fit : (t : Term) (v : ValueTerm) (m : Validity) (n : ℕ) → FitsValue t v → IsMask n (is_maskable t) m → AllFit t (choices_of v m)
choices_fit t v None n h k = (h, tt)
choices_fit t v (Some m) n h k = (h, (value_fits t null_value null_row (null_row_of t) (maskable_null t k.1), tt))

pub choices_few : (v : ValueTerm) (m : Validity) → length (choices_of v m) ≤ most_rows
choices_few v None = omega arith
choices_few v (Some m) = omega arith

first_below : (n k : ℕ) → 1 ≤ k → Below k (replicate n 0)
first_below zero k h = tt
first_below (suc n) k h = (omega (arith, h), first_below n k h)

place_below : (b : Bool) (k : ℕ) → 2 ≤ k → place_of b < k
place_below true k h = omega (arith, h)
place_below false k h = omega (arith, h)

each_below : (m : List Bool) (k : ℕ) → 2 ≤ k → Below k (map place_of m)
each_below [] k h = tt
each_below (b ∷ m) k h = (place_below b k h, each_below m k h)

pub places_below : (t : Term) (v : ValueTerm) (m : Validity) (n : ℕ) (rs : List Row) → rs ≡ map (row_under t) (choices_of v m)
    → Below (length rs) (places_of_mask n m)
places_below t v None n rs e = first_below n (length rs) (omega (arith, ap length e))
places_below t v (Some m) n rs e = each_below m (length rs) (omega (arith, ap length e))

-- ---- what is at each row

-- what is at the first i rows
abbrev pub first_rows : {A : Type 0} → (Bool → A) → ℕ → Validity → List A
first_rows f i None = replicate i (f true)
first_rows f i (Some m) = map f (take i m)

one_more : {A : Type 0} (i : ℕ) (x : A) → replicate (suc i) x ≡ replicate i x ++ (x ∷ [])
one_more zero x = refl
one_more {A = A} (suc i) x = ap (λ (l : List A). x ∷ l) (one_more i x)

rows_more : {A : Type 0} (f : Bool → A) (i : ℕ) (m : Validity) → IfSome m (λ b. i < length b)
    → first_rows f (i + 1) m ≡ first_rows f i m ++ (f (valid_at m i) ∷ [])
rows_more f i None h =
    let next : i + 1 ≡ suc i = omega arith in
    ap (λ j. replicate j (f true)) next ∙ one_more i (f true)
rows_more f i (Some m) h = ap (map f) (take_more m i false h) ∙ map-append f (take i m) (get_or m i false ∷ [])

rows_all : {A : Type 0} (f : Bool → A) (n : ℕ) (m : Validity) → IfSome m (λ b. length b ≡ n) → first_rows f n m ≡ each_row f n m
rows_all f n None h = refl
rows_all f n (Some m) h = ap (map f) (take_all n m (omega (arith, h)))

pub rows_none : {A : Type 0} (f : Bool → A) (m : Validity) (l : List A) → l ≡ [] → l ≡ first_rows f 0 m
rows_none f None l e = e
rows_none f (Some m) l e = e

-- one more is put behind
pub rows_put : {A : Type 0} (f : Bool → A) (i : ℕ) (m : Validity) (out new : List A) (x : A) → IfSome m (λ b. i < length b)
    → out ≡ first_rows f i m → x ≡ f (valid_at m i) → new ≡ out ++ (x ∷ []) → new ≡ first_rows f (i + 1) m
rows_put {A = A} f i m out new x h o e n =
    n ∙ ap (λ (l : List A). l ++ (x ∷ [])) o ∙ ap (λ (y : A). first_rows f i m ++ (y ∷ [])) e ∙ sym (rows_more f i m h)

pub rows_done : {A : Type 0} (f : Bool → A) (i n : ℕ) (m : Validity) (out : List A) → IfSome m (λ b. length b ≡ n) → i ≡ n
    → out ≡ first_rows f i m → out ≡ each_row f n m
rows_done f i n m out h e o = o ∙ ap (λ j. first_rows f j m) e ∙ rows_all f n m h

-- ---- rows

same_picked : (n : ℕ) (r : Row) → picked (replicate n 0) (r ∷ []) ≡ copies n r
unfolding copies
same_picked zero r = refl
same_picked (suc n) r = ap (λ (rs : List Row). r ∷ rs) (same_picked n r)

chosen : (m : List Bool) (r s : Row) → s ≡ null_row → picked (map place_of m) (r ∷ (s ∷ [])) ≡ masked (Some m) (copies (length m) r)
unfolding copies
chosen [] r s e = refl
chosen (true ∷ m) r s e = ap (λ (rs : List Row). r ∷ rs) (chosen m r s e)
chosen (false ∷ m) r s e = λ i. e i ∷ chosen m r s e i

pub choices_picked : (t : Term) (v : ValueTerm) (m : Validity) (n : ℕ) → IsMask n (is_maskable t) m
    → picked (places_of_mask n m) (map (row_under t) (choices_of v m)) ≡ masked m (copies n (row_under t v))
choices_picked t v None n h = same_picked n (row_under t v)
choices_picked t v (Some m) n h =
    chosen m (row_under t v) (row_under t null_value) (null_under t)
    ∙ ap (λ j. masked (Some m) (copies j (row_under t v))) h.0

values_copied : (t : Term) (v : ValueTerm) (n : ℕ) → map (row_under t) (replicate n v) ≡ copies n (row_under t v)
unfolding copies
values_copied t v zero = refl
values_copied t v (suc n) = ap (λ (rs : List Row). row_under t v ∷ rs) (values_copied t v n)

values_hidden : (t : Term) (v : ValueTerm) (m : List Bool)
    → map (row_under t) (map (value_where v) m) ≡ masked (Some m) (copies (length m) (row_under t v))
unfolding copies
values_hidden t v [] = refl
values_hidden t v (true ∷ m) = ap (λ (rs : List Row). row_under t v ∷ rs) (values_hidden t v m)
values_hidden t v (false ∷ m) = λ i. null_under t i ∷ values_hidden t v m i

values_masked : (t : Term) (v : ValueTerm) (m : Validity) (n : ℕ) → IsMask n (is_maskable t) m
    → map (row_under t) (values_of_mask v n m) ≡ masked m (copies n (row_under t v))
values_masked t v None n h = values_copied t v n
values_masked t v (Some m) n h = values_hidden t v m ∙ ap (λ j. masked (Some m) (copies j (row_under t v))) h.0

values_long : (v : ValueTerm) (nl : Bool) (m : Validity) (n : ℕ) → IsMask n nl m → length (values_of_mask v n m) ≡ n
values_long v nl None n h = length-replicate n v
values_long v nl (Some m) n h = length-map m (value_where v) ∙ h.0

pub values_few : (v : ValueTerm) (nl : Bool) (m : Validity) (n : ℕ) → IsMask n nl m → n ≤ most_rows → length (values_of_mask v n m) ≤ most_rows
values_few v nl m n h few = omega (arith, values_long v nl m n h, few)

copies_fit : (t : Term) (v : ValueTerm) (n : ℕ) → FitsValue t v → AllFit t (replicate n v)
copies_fit t v zero h = tt
copies_fit t v (suc n) h = (h, copies_fit t v n h)

each_fit : (t : Term) (v : ValueTerm) (m : List Bool) → FitsValue t v → FitsValue t null_value → AllFit t (map (value_where v) m)
each_fit t v [] h k = tt
each_fit t v (true ∷ m) h k = (h, each_fit t v m h k)
each_fit t v (false ∷ m) h k = (k, each_fit t v m h k)

pub values_fit : (t : Term) (v : ValueTerm) (m : Validity) (n : ℕ) → FitsValue t v → IsMask n (is_maskable t) m → AllFit t (values_of_mask v n m)
values_fit t v None n h k = copies_fit t v n h
values_fit t v (Some m) n h k = each_fit t v m h (value_fits t null_value null_row (null_row_of t) (maskable_null t k.1))

-- ---- the array

pub repeated_refused : (t : Term) (v : ValueTerm) (n : ℕ) (m : Validity) (c : Column) (ps : Bor (List ℕ)) (e : ArrayError)
    → IsMask n (is_maskable t) m → IsPlain t (choices_of v m) c → ps.now ≡ places_of_mask n m
    → RefusesPick (Places ps) (ColumnMuch c) e → RefusesRows t (masked m (copies n (row_under t v))) e
repeated_refused t v n m c ps e h p is (inl k) = inl k
repeated_refused t v n m c ps e h p is (inr k) =
    let rows : picked ps.now c.rows ≡ masked m (copies n (row_under t v)) =
    ap (picked ps.now) p.rows ∙ ap (λ (l : List ℕ). picked l (map (row_under t) (choices_of v m))) is ∙ choices_picked t v m n h in
    inr (k.0, subst (λ (u : Term). HoldsMuch u (masked m (copies n (row_under t v)))) p.dtype (subst (HoldsMuch c.dtype) rows k.1.1))

-- the value of each row, laid out
pub each_result : (t : Term) (v : ValueTerm) (m : Validity) (n : ℕ) (vs : List ValueTerm) (r : Result Column ArrayError)
    → IsMask n (is_maskable t) m → vs ≡ values_of_mask v n m → MatchResult r (IsPlain t vs) (RefusesPlain t vs)
    → MatchResult r (IsRepeated t v m n) (RefusesRows t (masked m (copies n (row_under t v))))
each_result t v m n vs (Ok a) h e p = record {
  dtype = p.dtype;
  rows = p.rows ∙ ap (map (row_under t)) e ∙ values_masked t v m n h;
  canonical = p.canonical;
}
each_result t v m n vs (Err x) h e (inl k) = inl k
each_result t v m n vs (Err x) h e (inr k) =
    inr (k.0, subst (HoldsMuch t) (ap (map (row_under t)) e ∙ values_masked t v m n h) k.1)

all_hidden : (m : List Bool) → masked (Some m) (copies (length m) null_row) ≡ copies (length m) null_row
unfolding copies
all_hidden [] = refl
all_hidden (true ∷ m) = ap (λ (rs : List Row). null_row ∷ rs) (all_hidden m)
all_hidden (false ∷ m) = ap (λ (rs : List Row). null_row ∷ rs) (all_hidden m)

nulls_masked : (n : ℕ) (nl : Bool) (m : Validity) → IsMask n nl m → copies n null_row ≡ masked m (copies n null_row)
nulls_masked n nl None h = refl
nulls_masked n nl (Some m) h =
    sym (subst (λ j. masked (Some m) (copies j null_row) ≡ copies j null_row) h.0 (all_hidden m))

pub nulls_repeated : (t : Term) (v : ValueTerm) (m : Validity) (n : ℕ) (a : Column) → t ≡ null
    → ((v : ValueTerm) → row_under null v ≡ null_row) → IsMask n (is_maskable t) m → a.dtype ≡ null
    → a.rows ≡ copies n null_row → is_canonical a.node ≡ true → IsRepeated t v m n a
nulls_repeated t v m n a e f h d r c = record {
  dtype = d ∙ sym e;
  rows = r ∙ nulls_masked n (is_maskable t) m h ∙ ap (λ (s : Row). masked m (copies n s)) (sym (f v))
      ∙ ap (λ (u : Term). masked m (copies n (row_under u v))) (sym e);
  canonical = c;
}

-- what is picked of the value and null
pub repeated_made : (t : Term) (v : ValueTerm) (m : Validity) (n : ℕ) (c a : Column) (ps : List ℕ) → IsMask n (is_maskable t) m
    → IsPlain t (choices_of v m) c → ps ≡ places_of_mask n m → IsPickedColumn ps c a → IsRepeated t v m n a
repeated_made t v m n c a ps h p e k = record {
  dtype = k.dtype ∙ p.dtype;
  rows = k.rows ∙ ap (picked ps) p.rows ∙ ap (λ (l : List ℕ). picked l (map (row_under t) (choices_of v m))) e ∙ choices_picked t v m n h;
  canonical = k.canonical p.canonical;
}

pub place_there : (m : Validity) (n i : ℕ) → IfSome m (λ b. length b ≡ n) → i < n → IfSome m (λ b. i < length b)
place_there None n i h l = tt
place_there (Some m) n i h l = omega (arith, h, l)

pub mask_there : (n : ℕ) (nl : Bool) (m : Validity) → IsMask n nl m → IfSome m (λ b. length b ≡ n)
mask_there n nl None h = tt
mask_there n nl (Some m) h = h.0
