-- Values, and the rows inside structs and lists that they are.
use Rattle.std.proofs.Common.{◌≡◌, ◌≤◌, ◌<◌, ◌+◌, ◌-◌, ◌*◌, ◌∙◌, ℕ, zero, suc, List, [], ◌∷◌, ◌++◌, Option, Some, None, true, Bool, map, length, replicate, take, drop, get_or, refl, sym, ap, subst, arith}
use Rattle.std.specs.Prelude.{slice_get, slice_range, if◌then◌else◌}
use Rattle.std.specs.Option.{option_map, option_and_then}
use Rattle.std.specs.List.{AllByRecursion}
use Rattle.std.proofs.lemmas.Option.{slice_get-map, slice_get-get_or, get_or_from_slice_get, slice_get_within}
use Rattle.std.proofs.lemmas.List.{length-drop, take_more, get_or-drop, drop-drop}
use Rattle.vortex_terms.specs.Term.{Term, Fields, no_fields, field}
use Rattle.vortex_terms.specs.Row.{Row, list_row, Rows, no_rows, row, rows_from}
use Rattle.vortex_terms.specs.Fits.{Fits}
use Rattle.vortex_terms.specs.Tests.{is_fitting}
use Rattle.vortex_terms.specs.TestLaws.{is_fitting-Decides}
use Rattle.vortex_terms.specs.FromColumns.{inside_structs, struct_rows}
use Rattle.vortex_node_rows.specs.Pieces.{chunks}
use Rattle.vortex_scalar_value.specs.Value.{ValueTerm, values_from}
use Rattle.vortex_value_rows.specs.RowOf.{row_of, rows_by, row_before, field_rows, fitting_row}
use Rattle.vortex_array_data.specs.Column.{Column}
use Rattle.vortex_array_data.specs.Content.{column_rows, AreFields}
use Rattle.vortex_array_data.proofs.PartRows.{zip_at, inside_struct}
use Rattle.vortex_array_data.specs.ValuesAt.{AreValuesOf, AreValuesAt}

none_some : {A : Type 0} (x : A) → None ≡ Some x → ⊥
none_some x e = cc

same : {A : Type 0} (x y : A) → Some x ≡ Some y → x ≡ y
same x y e = cc

no_rows_at : (n j : ℕ) (rs : Rows) → slice_get (replicate n no_rows) j ≡ Some rs → Some no_rows ≡ Some rs
no_rows_at zero j rs e = absurd (none_some rs e)
no_rows_at (suc n) zero rs e = e
no_rows_at (suc n) (suc j) rs e = no_rows_at n j rs e

both_there : (o : Option Row) (p : Option Rows) (q : Row) (b : Rows) → o ≡ Some q → p ≡ Some b
    → row_before o p ≡ Some (row q b)
both_there o p q b e f = ap (λ (o : Option Row). row_before o p) e ∙ ap (row_before (Some q)) f

-- the values of the fields are what is inside the struct
inside_values : (n : ℕ) (fs : Fields) (cs : List Column) (vs : List ValueTerm) (j : ℕ) (rs : Rows) → AreFields n fs cs
    → AreValuesAt j cs vs → slice_get (inside_structs n (column_rows cs)) j ≡ Some rs
    → field_rows fs (values_from vs) ≡ Some rs
inside_values n no_fields [] [] j rs h k e = no_rows_at n j rs e
inside_values n no_fields [] (v ∷ vs) j rs h k e = absurd k
inside_values n no_fields (c ∷ cs) vs j rs h k e = absurd h
inside_values n (field x t fs) [] vs j rs h k e = absurd h
inside_values n (field x t fs) (c ∷ cs) [] j rs h k e = absurd k
inside_values n (field x t fs) (c ∷ cs) (v ∷ vs) j rs h k e =
    let z = zip_at c.rows (inside_structs n (column_rows cs)) j rs e in
    let own : row_of t v ≡ Some z.0 = ap (λ (u : Term). row_of u v) (sym h.0.0) ∙ k.0 ∙ z.1.1.0 in
    both_there (row_of t v) (field_rows fs (values_from vs)) z.0 z.1.0 own
    (inside_values n fs cs vs j z.1.0 h.1 k.1 z.1.1.1.0) ∙ ap Some z.1.1.1.1

pub struct_value : (n : ℕ) (fs : Fields) (cs : List Column) (vs : List ValueTerm) (j : ℕ) (rs : Rows) → AreFields n fs cs
    → AreValuesAt j cs vs → slice_get (struct_rows n (column_rows cs)) j ≡ Some (list_row rs)
    → option_map list_row (field_rows fs (values_from vs)) ≡ Some (list_row rs)
struct_value n fs cs vs j rs h k e =
    ap (option_map list_row) (inside_values n fs cs vs j rs h k (inside_struct n (column_rows cs) j rs e))

-- ---- values side by side

one_more : (j k : ℕ) (cs : List Column) (vs : List ValueTerm) (c : Column) (v : ValueTerm)
    → AreValuesAt j (take k cs) vs → slice_get cs k ≡ Some c → row_of c.dtype v ≡ slice_get c.rows j
    → AreValuesAt j (take (suc k) cs) (vs ++ v ∷ [])
one_more j k [] vs c v h e f = absurd (none_some c e)
one_more j zero (d ∷ cs) [] c v h e f =
    (ap (λ (a : Column). row_of a.dtype v) (same d c e) ∙ f ∙ ap (λ (a : Column). slice_get a.rows j) (sym (same d c e)), tt)
one_more j zero (d ∷ cs) (w ∷ vs) c v h e f = absurd h
one_more j (suc k) (d ∷ cs) [] c v h e f = absurd h
one_more j (suc k) (d ∷ cs) (w ∷ vs) c v h e f = (h.0, one_more j k cs vs c v h.1 e f)

pub values_more : (j k : ℕ) (cs : List Column) (vs : List ValueTerm) (c : Column) (v : ValueTerm)
    → AreValuesAt j (take k cs) vs → slice_get cs k ≡ Some c → row_of c.dtype v ≡ slice_get c.rows j
    → AreValuesAt j (take (k + 1) cs) (vs ++ v ∷ [])
values_more j k cs vs c v h e f =
    let next : suc k ≡ k + 1 = omega arith in
    subst (λ m. AreValuesAt j (take m cs) (vs ++ v ∷ [])) next (one_more j k cs vs c v h e f)

-- ---- values one behind the other

pub listed_more : (t : Term) (vs : List ValueTerm) (rs : List Row) (v : ValueTerm) (r : Row) → AreValuesOf t vs rs
    → row_of t v ≡ Some r → AreValuesOf t (vs ++ v ∷ []) (rs ++ r ∷ [])
listed_more t [] [] v r h e = (e, tt)
listed_more t [] (q ∷ rs) v r h e = absurd h
listed_more t (w ∷ vs) [] v r h e = absurd h
listed_more t (w ∷ vs) (q ∷ rs) v r h e = (h.0, listed_more t vs rs v r h.1 e)

pub listed_value : (t : Term) (vs : List ValueTerm) (rs : List Row) → AreValuesOf t vs rs
    → option_map list_row (rows_by (row_of t) (values_from vs)) ≡ Some (list_row (rows_from rs))
listed_value t vs rs h = ap (option_map list_row) (by_rows vs rs h)
  where
    by_rows : (vs : List ValueTerm) (rs : List Row) → AreValuesOf t vs rs
        → rows_by (row_of t) (values_from vs) ≡ Some (rows_from rs)
    by_rows [] [] h = refl
    by_rows [] (q ∷ rs) h = absurd h
    by_rows (w ∷ vs) [] h = absurd h
    by_rows (w ∷ vs) (q ∷ rs) h =
        both_there (row_of t w) (rows_by (row_of t) (values_from vs)) q (rows_from rs) h.0 (by_rows vs rs h.1)

-- ---- ranges of rows

pub range_none : {A : Type 0} (xs : List A) (a : ℕ) → slice_range xs a a ≡ []
range_none xs a =
    let none : a - a ≡ 0 = omega arith in
    ap (λ (k : ℕ). take k (drop a xs)) none

pub range_more : {A : Type 0} (xs : List A) (a b : ℕ) (x : A) → a ≤ b → slice_get xs b ≡ Some x
    → slice_range xs a b ++ x ∷ [] ≡ slice_range xs a (b + 1)
range_more xs a b x h e =
    let within : b < length xs = slice_get_within xs b x e in
    let most : b - a < length (drop a xs) = omega (arith, h, within, length-drop a xs) in
    let place : a + (b - a) ≡ b = omega (arith, h) in
    let last : get_or (drop a xs) (b - a) x ≡ x =
    get_or-drop a xs (b - a) x ∙ ap (λ k. get_or xs k x) place ∙ get_or_from_slice_get xs b x x e in
    let more : (b - a) + 1 ≡ (b + 1) - a = omega (arith, h) in
    ap (λ y. take (b - a) (drop a xs) ++ y ∷ []) (sym last) ∙ sym (take_more (drop a xs) (b - a) x most)
    ∙ ap (λ k. take k (drop a xs)) more

-- list i of those that have k elements each
pub chunk_place : (k n i : ℕ) (xs : List Row) → i < n
    → slice_get (map (λ rs. list_row (rows_from rs)) (chunks k n xs)) i
    ≡ Some (list_row (rows_from (slice_range xs (i * k) (i * k + k))))
chunk_place k n i xs h =
    slice_get-map (λ rs. list_row (rows_from rs)) (chunks k n xs) i
    ∙ ap (option_map (λ rs. list_row (rows_from rs))) (at n i xs h ∙ ap (λ m. Some (take m (drop (i * k) xs))) few)
  where
    few : k ≡ i * k + k - i * k
    few = omega arith

    at : (n i : ℕ) (xs : List Row) → i < n → slice_get (chunks k n xs) i ≡ Some (take k (drop (i * k) xs))
    at zero i xs h = absurd (omega (arith, h))
    at (suc n) zero xs h =
        let none : 0 ≡ 0 * k = omega arith in
        ap (λ m. Some (take k (drop m xs))) none
    at (suc n) (suc i) xs h =
        let far : k + i * k ≡ suc i * k = omega arith in
        at n i (drop k xs) (omega (arith, h)) ∙ ap (λ (l : List Row). Some (take k l)) (drop-drop (i * k) k xs)
        ∙ ap (λ m. Some (take k (drop m xs))) far

-- ---- values that fit

pub fits_at : {A : Type 0} (P : A → Type 0) (xs : List A) (i : ℕ) (x : A) → AllByRecursion P xs
    → slice_get xs i ≡ Some x → P x
fits_at P [] i x h e = absurd (none_some x e)
fits_at P (y ∷ xs) zero x h e = subst P (same y x e) h.0
fits_at P (y ∷ xs) (suc i) x h e = fits_at P xs i x h.1 e

pub value_fits : (t : Term) (v : ValueTerm) (rs : List Row) (i : ℕ) → AllByRecursion (Fits t) rs → i < length rs
    → row_of t v ≡ slice_get rs i → fitting_row t v ≡ slice_get rs i
value_fits t v [] i h below e = absurd (omega (arith, below))
value_fits t v (d ∷ rs) i h below e =
    let r : Row = get_or (d ∷ rs) i d in
    let is : slice_get (d ∷ rs) i ≡ Some r = slice_get-get_or (d ∷ rs) i d below in
    by r (fits_at (Fits t) (d ∷ rs) i r h is) (e ∙ is) ∙ sym is
  where
    chosen : (b : Bool) (r : Row) → b ≡ true → (if b then Some r else None) ≡ Some r
    chosen b r h = rw h refl

    kept : (o : Option Row) (r : Row) → o ≡ Some r → Fits t r
        → option_and_then (λ r. if is_fitting t r then Some r else None) o ≡ Some r
    kept o r e f = rw e (chosen (is_fitting t r) r ((is_fitting-Decides t r).1 f))

    by : (r : Row) → Fits t r → row_of t v ≡ Some r → fitting_row t v ≡ Some r
    by r f e = kept (row_of t v) r e f

-- one more row of a range, with its value
pub range_step : (t : Term) (rows : List Row) (from i : ℕ) (vs : List ValueTerm) (v : ValueTerm) → from ≤ i
    → i < length rows → AreValuesOf t vs (slice_range rows from i) → row_of t v ≡ slice_get rows i
    → AreValuesOf t (vs ++ v ∷ []) (slice_range rows from (i + 1))
range_step t [] from i vs v rise below h e = absurd (omega (arith, below))
range_step t (d ∷ rows) from i vs v rise below h e =
    let r : Row = get_or (d ∷ rows) i d in
    let is : slice_get (d ∷ rows) i ≡ Some r = slice_get-get_or (d ∷ rows) i d below in
    subst (AreValuesOf t (vs ++ v ∷ [])) (range_more (d ∷ rows) from i r rise is)
    (listed_more t vs (slice_range (d ∷ rows) from i) v r h (e ∙ is))
