-- Values that fit a type, and those that are put in place of nulls.
use Rattle.std.proofs.Common.{◌≡◌, List, [], ◌∷◌, Bool, true, false, Option, Some, None, map, refl, sym, ap, subst, true≢false}
use Rattle.std.specs.Prelude.{if◌then◌else◌, ◌||◌}
use Rattle.std.specs.Option.{IsSome, option_map, unwrap_or}
use Rattle.std.specs.List.{AllByRecursion, list_any}
use Rattle.vortex_prelude.specs.Chain.{◌>>=◌}
use Rattle.vortex_terms.specs.Term.{Term, null, boolean, primitive, decimal, utf8, binary, structure, list, extension, fixed_size_list}
use Rattle.vortex_terms.specs.Nullability.{with_nullability}
use Rattle.vortex_terms.specs.Row.{Row, null_row, whole_row, list_row}
use Rattle.vortex_terms.specs.Fits.{Fits}
use Rattle.vortex_terms.specs.FromColumns.{masked}
use Rattle.vortex_terms.specs.Tests.{is_fitting}
use Rattle.vortex_terms.specs.TestLaws.{is_fitting-Decides}
use Rattle.vortex_scalar_value.specs.Value.{ValueTerm, null_value, truth_value, whole_value, decimal_value, bytes_value, text_value, list_value, value_list, values_from, is_null_value}
use Rattle.vortex_value_rows.specs.RowOf.{row_of, row_under, rows_by, field_rows, number_of_bytes}
use Rattle.vortex_cast.proofs.Leaves.{null_row_of}
use Rattle.vortex_array_plain.specs.PlainValues.{filled, is_valued, takes_mask, AllFit, FitsValue}

-- ---- rows that fit

passed : (t : Term) (r : Row) (b : Bool) → IsSome (if b then Some r else None) → b ≡ true
passed t r true h = refl
passed t r false h = h

found : (t : Term) (o : Option Row) → IsSome (o >>= λ r. if is_fitting t r then Some r else None)
    → (o ≡ Some (unwrap_or o null_row)) × (is_fitting t (unwrap_or o null_row) ≡ true)
found t (Some r) h = (refl, passed t r (is_fitting t r) h)
found t None h = absurd (true≢false (sym h))

pub row_found : (t : Term) (v : ValueTerm) → FitsValue t v → row_of t v ≡ Some (row_under t v)
row_found t v h = (found t (row_of t v) h).0

pub row_fitting : (t : Term) (v : ValueTerm) → FitsValue t v → is_fitting t (row_under t v) ≡ true
row_fitting t v h = (found t (row_of t v) h).1

pub row_fits : (t : Term) (v : ValueTerm) → FitsValue t v → Fits t (row_under t v)
row_fits t v h = (is_fitting-Decides t (row_under t v)).0 (row_fitting t v h)

-- the other way
pub value_fits : (t : Term) (v : ValueTerm) (r : Row) → row_of t v ≡ Some r → is_fitting t r ≡ true → FitsValue t v
value_fits t v r e f =
    subst (λ (o : Option Row). IsSome (o >>= λ r. if is_fitting t r then Some r else None)) (sym e)
    (subst (λ (b : Bool). IsSome (if b then Some r else None)) (sym f) refl)

pub rows_fit_all : (t : Term) (vs : List ValueTerm) → AllFit t vs → AllByRecursion (Fits t) (map (row_under t) vs)
rows_fit_all t [] h = tt
rows_fit_all t (v ∷ vs) h = (row_fits t v h.0, rows_fit_all t vs h.1)

-- rows that are each the value's
pub map_fit : (t : Term) (f : ValueTerm → Row) (vs : List ValueTerm) → ((v : ValueTerm) → FitsValue t v → f v ≡ row_under t v)
    → AllFit t vs → map f vs ≡ map (row_under t) vs
map_fit t f [] e h = refl
map_fit t f (v ∷ vs) e h = λ i. e v h.0 i ∷ map_fit t f vs e h.1 i

pub all_more : (P Q : ValueTerm → Type 0) (vs : List ValueTerm) → ((v : ValueTerm) → P v → Q v) → AllByRecursion P vs
    → AllByRecursion Q vs
all_more P Q [] f h = tt
all_more P Q (v ∷ vs) f h = (f v h.0, all_more P Q vs f h.1)

-- ---- the type without nulls

pub row_of-with : (t : Term) (m : Bool) (v : ValueTerm) → row_of (with_nullability t m) v ≡ row_of t v
row_of-with (extension id t x) m v = row_of-with t m v
row_of-with (structure fs n) m (list_value vs) = refl
row_of-with (list t n) m (list_value vs) = refl
row_of-with (fixed_size_list t k n) m (list_value vs) = refl
row_of-with (decimal p s n) m (bytes_value bs) = refl
row_of-with _ _ _ = refl

pub row_under-with : (t : Term) (m : Bool) (v : ValueTerm) → row_under (with_nullability t m) v ≡ row_under t v
row_under-with t m v = ap (λ (o : Option Row). unwrap_or o null_row) (row_of-with t m v)

lifted : {X : Type 0} (o : Option X) (f : X → Row) (t u : Term) → ((x : X) → is_fitting t (f x) ≡ is_fitting u (f x))
    → IsSome (option_map f o >>= λ r. if is_fitting t r then Some r else None)
    → IsSome (option_map f o >>= λ r. if is_fitting u r then Some r else None)
lifted None f t u e h = h
lifted (Some x) f t u e h = subst (λ (b : Bool). IsSome (if b then Some (f x) else None)) (e x) h

pub bare_fits : (t : Term) (v : ValueTerm) → takes_mask t ≡ true → FitsValue t v → is_null_value v ≡ false
    → FitsValue (with_nullability t false) v
bare_fits (decimal p s n) (bytes_value bs) k h e =
    lifted (number_of_bytes bs) whole_row (decimal p s n) (decimal p s false) (λ z. refl) h
bare_fits (structure fs n) (list_value vs) k h e =
    lifted (field_rows fs vs) list_row (structure fs n) (structure fs false) (λ rs. refl) h
bare_fits (list t n) (list_value vs) k h e =
    lifted (rows_by (row_of t) vs) list_row (list t n) (list t false) (λ rs. refl) h
bare_fits (fixed_size_list t m n) (list_value vs) k h e =
    lifted (rows_by (row_of t) vs) list_row (fixed_size_list t m n) (fixed_size_list t m false) (λ rs. refl) h
bare_fits null v k h e = absurd (true≢false (sym k))
bare_fits (extension id t x) v k h e = absurd (true≢false (sym k))
bare_fits t null_value k h e = absurd (true≢false e)
bare_fits _ _ k h e = h

-- ---- values in place of nulls

pub null_under : (t : Term) → row_under t null_value ≡ null_row
null_under t = ap (λ (o : Option Row). unwrap_or o null_row) (null_row_of t)

filled_row : (t : Term) (d v : ValueTerm)
    → (if is_valued v then row_under (with_nullability t false) (filled d v) else null_row) ≡ row_under t v
filled_row t d null_value = sym (null_under t)
filled_row t d (truth_value b) = row_under-with t false (truth_value b)
filled_row t d (whole_value k z) = row_under-with t false (whole_value k z)
filled_row t d (decimal_value w z) = row_under-with t false (decimal_value w z)
filled_row t d (bytes_value bs) = row_under-with t false (bytes_value bs)
filled_row t d (text_value bs) = row_under-with t false (text_value bs)
filled_row t d (list_value vs) = row_under-with t false (list_value vs)

-- what is put in place of nulls is hidden by the mask
pub filled_rows : (t : Term) (d : ValueTerm) (vs : List ValueTerm)
    → masked (Some (map is_valued vs)) (map (row_under (with_nullability t false)) (map (filled d) vs)) ≡ map (row_under t) vs
filled_rows t d [] = refl
filled_rows t d (v ∷ vs) = λ i. filled_row t d v i ∷ filled_rows t d vs i

pub or_second : (a b : Bool) → b ≡ true → (a || b) ≡ true
or_second true b e = refl
or_second false b e = e

filled_fits : (t : Term) (d v : ValueTerm) → takes_mask t ≡ true → FitsValue t v
    → (is_null_value v ≡ true → FitsValue (with_nullability t false) d) → FitsValue (with_nullability t false) (filled d v)
filled_fits t d null_value k h e = e refl
filled_fits t d (truth_value b) k h e = bare_fits t (truth_value b) k h refl
filled_fits t d (whole_value l z) k h e = bare_fits t (whole_value l z) k h refl
filled_fits t d (decimal_value w z) k h e = bare_fits t (decimal_value w z) k h refl
filled_fits t d (bytes_value bs) k h e = bare_fits t (bytes_value bs) k h refl
filled_fits t d (text_value bs) k h e = bare_fits t (text_value bs) k h refl
filled_fits t d (list_value vs) k h e = bare_fits t (list_value vs) k h refl

pub or_first : (a b : Bool) → a ≡ true → (a || b) ≡ true
or_first true b e = refl
or_first false b e = absurd (true≢false (sym e))

pub all_filled : (t : Term) (d : ValueTerm) (vs : List ValueTerm) → takes_mask t ≡ true → AllFit t vs
    → (list_any is_null_value vs ≡ true → FitsValue (with_nullability t false) d)
    → AllFit (with_nullability t false) (map (filled d) vs)
all_filled t d [] k h e = tt
all_filled t d (v ∷ vs) k h e = (
  filled_fits t d v k h.0 (λ n. e (or_first (is_null_value v) (list_any is_null_value vs) n)),
  all_filled t d vs k h.1 (λ n. e (or_second (is_null_value v) (list_any is_null_value vs) n)),
)

pub bare_mask : (t : Term) → takes_mask t ≡ true → takes_mask (with_nullability t false) ≡ false
bare_mask null k = refl
bare_mask (boolean n) k = refl
bare_mask (primitive l n) k = refl
bare_mask (decimal p s n) k = refl
bare_mask (utf8 n) k = refl
bare_mask (binary n) k = refl
bare_mask (structure fs n) k = refl
bare_mask (list t n) k = refl
bare_mask (extension id t x) k = refl
bare_mask (fixed_size_list t m n) k = refl

-- the values that a list was made of
pub list_again : (vs : List ValueTerm) → value_list (values_from vs) ≡ vs
list_again [] = refl
list_again (v ∷ vs) = ap (λ (l : List ValueTerm). v ∷ l) (list_again vs)
