-- Values inside a list or a struct, one after the other.
use Rattle.std.proofs.Common.{◌≡◌, ℕ, zero, suc, ◌+◌, ◌<◌, ◌≤◌, Bool, true, false, ◌&&◌, List, [], ◌∷◌, length, Option, Some, None, refl, sym, ap, ◌∙◌, arith, add-one}
use Rattle.std.specs.Prelude.{slice_get, drop, is_some, if◌then◌else◌, nat_eq}
use Rattle.std.specs.Option.{option_map, option_map_or}
use Rattle.vortex_prelude.specs.Chain.{◌>>=◌}
use Rattle.std.proofs.lemmas.List.{drop_all}
use Rattle.std.proofs.lemmas.Bool.{eq-eqb, ne_eqb}
use Rattle.vortex_terms.specs.Term.{Term, structure, fixed_size_list, Fields, no_fields, field}
use Rattle.vortex_terms.specs.Types.{field_at, field_count}
use Rattle.vortex_terms.specs.Weight.{weight, field-lighter}
use Rattle.vortex_terms.specs.Row.{Row, list_row, Rows, no_rows, row, row_count}
use Rattle.vortex_terms.specs.Tests.{is_fitting, are_fitting, rows_all}
use Rattle.vortex_scalar_value.specs.Value.{ValueTerm, list_value, ValueTerms, no_values, value, values_from}
use Rattle.vortex_value_rows.specs.RowOf.{row_of, row_before, rows_by, field_rows, fitting_row}
use Rattle.vortex_value_rows.specs.Inside.{InTerm, every, each, in_at, fields_drop, in_drop, in_takes, in_rows, in_fitting, in_weight}

-- ---- places

pub drop_one : {A : Type 0} (xs : List A) (i : ℕ) (x : A) → slice_get xs i ≡ Some x → drop i xs ≡ x ∷ drop (suc i) xs
drop_one [] i x e = absurd (cc)
drop_one (y ∷ xs) zero x e = same y x xs e
  where
    same : {A : Type 0} (y x : A) (xs : List A) → Some y ≡ Some x → y ∷ xs ≡ x ∷ xs
    same y x xs e = cc
drop_one (y ∷ xs) (suc i) x e = drop_one xs i x e

fields_one : (fs : Fields) (i : ℕ) (t : Term) → field_at fs i ≡ Some t → (x : List ℕ) × (fields_drop i fs ≡ field x t (fields_drop (suc i) fs))
fields_one no_fields i t e = absurd (cc)
fields_one (field x u fs) zero t e = (x, same x u t fs e)
  where
    same : (x : List ℕ) (u t : Term) (fs : Fields) → Some u ≡ Some t → field x u fs ≡ field x t fs
    same x u t fs e = cc
fields_one (field x u fs) (suc i) t e = fields_one fs i t e

pub part_lighter : (c : InTerm) (i : ℕ) (t : Term) → in_at c i ≡ Some t → weight t < in_weight c
part_lighter (every u) i t e = let same = weight_at u t e in omega arith
  where
    weight_at : (u t : Term) → Some u ≡ Some t → weight u ≡ weight t
    weight_at u t e = cc
part_lighter (each fs) i t e = field-lighter fs i t e

-- the row of the first value that is left, and the rows of the rest
pub rows_step : (c : InTerm) (i : ℕ) (t : Term) (v : ValueTerm) (vs : ValueTerms) → in_at c i ≡ Some t
    → in_rows (in_drop i c) (value v vs) ≡ row_before (row_of t v) (in_rows (in_drop (suc i) c) vs)
rows_step (every u) i t v vs e = same u t e
  where
    same : (u t : Term) → Some u ≡ Some t → in_rows (every u) (value v vs) ≡ row_before (row_of t v) (in_rows (every u) vs)
    same u t e = cc
rows_step (each fs) i t v vs e = let one = fields_one fs i t e in ap (λ gs. in_rows (each gs) (value v vs)) one.1

fitting_step : (c : InTerm) (i : ℕ) (t : Term) (r : Row) (rs : Rows) → in_at c i ≡ Some t
    → in_fitting (in_drop i c) (row r rs) ≡ (is_fitting t r && in_fitting (in_drop (suc i) c) rs)
fitting_step (every u) i t r rs e = same u t e
  where
    same : (u t : Term) → Some u ≡ Some t → in_fitting (every u) (row r rs) ≡ (is_fitting t r && in_fitting (every u) rs)
    same u t e = cc
fitting_step (each fs) i t r rs e = let one = fields_one fs i t e in ap (λ gs. in_fitting (each gs) (row r rs)) one.1

-- ---- whether values fit

-- whether the values fit
abbrev pub all_fit : InTerm → ValueTerms → Bool
all_fit c vs = option_map_or (in_fitting c) (in_rows c vs) false

-- whether those from a place on do
abbrev pub fit_from : InTerm → List ValueTerm → ℕ → Bool
fit_from c vs i = all_fit (in_drop i c) (values_from (drop i vs))

both : (o : Option Row) (os : Option Rows) (p : Row → Bool) (q all : Rows → Bool) → ((r : Row) (rs : Rows) → all (row r rs) ≡ (p r && q rs))
    → option_map_or all (row_before o os) false ≡ (is_some (o >>= λ r. if p r then Some r else None) && option_map_or q os false)
both (Some r) (Some rs) p q all e = e r rs ∙ by (p r)
  where
    by : (b : Bool) → (b && q rs) ≡ (is_some (if b then Some r else None) && q rs)
    by true = refl
    by false = refl
both (Some r) None p q all e = by (is_some (if p r then Some r else None))
  where
    by : (b : Bool) → false ≡ (b && false)
    by true = refl
    by false = refl
both None os p q all e = refl

pub fit_step : (c : InTerm) (vs : List ValueTerm) (i : ℕ) (t : Term) (v : ValueTerm) → in_at c i ≡ Some t → slice_get vs i ≡ Some v
    → fit_from c vs i ≡ (is_some (fitting_row t v) && fit_from c vs (i + 1))
fit_step c vs i t v at e =
    rw add-one (ap (λ ws. all_fit (in_drop i c) (values_from ws)) (drop_one vs i v e)
    ∙ ap (λ o. option_map_or (in_fitting (in_drop i c)) o false) (rows_step c i t v (values_from (drop (suc i) vs)) at)
    ∙ both (row_of t v) (in_rows (in_drop (suc i) c) (values_from (drop (suc i) vs))) (is_fitting t) (in_fitting (in_drop (suc i) c)) (in_fitting (in_drop i c)) (λ r rs. fitting_step c i t r rs at))

-- of a list
pub list_fit : (o : Option Rows) (p : Row → Bool) (q : Rows → Bool) → ((rs : Rows) → p (list_row rs) ≡ q rs)
    → is_some (option_map list_row o >>= λ r. if p r then Some r else None) ≡ option_map_or q o false
list_fit None p q e = refl
list_fit (Some rs) p q e = by (p (list_row rs)) (q rs) (e rs)
  where
    by : (a b : Bool) → a ≡ b → is_some (if a then Some (list_row rs) else None) ≡ b
    by true b e = e
    by false b e = e

-- of a struct, where its type and the value are known by what they are seen as
pub struct_fits : (t : Term) (v : ValueTerm) (fs : Fields) (n : Bool) (vs : ValueTerms) (b : Bool) → structure fs n ≡ t → list_value vs ≡ v
    → b ≡ all_fit (each fs) vs → b ≡ is_some (fitting_row t v)
struct_fits t v fs n vs b e f fit =
    fit ∙ sym (list_fit (field_rows fs vs) (is_fitting (structure fs n)) (are_fitting fs) (λ rs. refl))
    ∙ (λ i. is_some (fitting_row (e i) (f i)))

-- as many rows as values
count_one : (o : Option Row) (os : Option Rows) (m : ℕ) → ((qs : Rows) → os ≡ Some qs → row_count qs ≡ m) → (rs : Rows) → row_before o os ≡ Some rs → row_count rs ≡ suc m
count_one (Some r) (Some qs) m h rs e = same r qs rs e ∙ ap suc (h qs refl)
  where
    same : (r : Row) (qs rs : Rows) → Some (row r qs) ≡ Some rs → row_count rs ≡ suc (row_count qs)
    same r qs rs e = cc
count_one (Some r) None m h rs e = absurd (cc)
count_one None os m h rs e = absurd (cc)

rows_count : (f : ValueTerm → Option Row) (xs : List ValueTerm) (rs : Rows) → rows_by f (values_from xs) ≡ Some rs → row_count rs ≡ length xs
rows_count f [] no_rows e = refl
rows_count f [] (row r rs) e = absurd (cc)
rows_count f (x ∷ xs) rs e = count_one (f x) (rows_by f (values_from xs)) (length xs) (rows_count f xs) rs e

-- of a fixed-size list
fixed_of : (f : ValueTerm → Option Row) (p : Row → Bool) (xs : List ValueTerm) (k : ℕ) (o : Option Rows) → rows_by f (values_from xs) ≡ o
    → option_map_or (λ rs. nat_eq (row_count rs) k && rows_all p rs) o false ≡ (nat_eq (length xs) k && option_map_or (rows_all p) o false)
fixed_of f p xs k (Some rs) e = ap (λ n. nat_eq n k && rows_all p rs) (rows_count f xs rs e)
fixed_of f p xs k None e = by (nat_eq (length xs) k)
  where
    by : (b : Bool) → false ≡ (b && false)
    by true = refl
    by false = refl

pub fixed_fits : (t u : Term) (v : ValueTerm) (k : ℕ) (n : Bool) (xs : List ValueTerm) → fixed_size_list u k n ≡ t → list_value (values_from xs) ≡ v
    → (nat_eq (length xs) k && all_fit (every u) (values_from xs)) ≡ is_some (fitting_row t v)
fixed_fits t u v k n xs e f =
    sym (list_fit (rows_by (row_of u) (values_from xs)) (is_fitting (fixed_size_list u k n)) (λ rs. nat_eq (row_count rs) k && rows_all (is_fitting u) rs) (λ rs. refl)
    ∙ fixed_of (row_of u) (is_fitting u) xs k (rows_by (row_of u) (values_from xs)) refl)
    ∙ (λ i. is_some (fitting_row (e i) (f i)))

-- of other numbers of values there are no rows
row_before_none : (o : Option Row) → row_before o None ≡ None
row_before_none None = refl
row_before_none (Some r) = refl

other_count : (fs : Fields) (xs : List ValueTerm) → (field_count fs ≡ length xs → ⊥) → field_rows fs (values_from xs) ≡ None
other_count no_fields [] h = absurd (h refl)
other_count no_fields (x ∷ xs) h = refl
other_count (field y t fs) [] h = refl
other_count (field y t fs) (x ∷ xs) h = ap (row_before (row_of t x)) (other_count fs xs (λ e. h (ap suc e))) ∙ row_before_none (row_of t x)

pub not_taken : (c : InTerm) (xs : List ValueTerm) → in_takes c (length xs) ≡ false → in_rows c (values_from xs) ≡ None
not_taken (every t) xs e = absurd (cc)
not_taken (each fs) xs e = other_count fs xs (λ h. other h e)
  where
    other : field_count fs ≡ length xs → nat_eq (field_count fs) (length xs) ≡ false → ⊥
    other h e = absurd (grind arith)

pub none_fit : (c : InTerm) (vs : ValueTerms) → in_rows c vs ≡ None → false ≡ all_fit c vs
none_fit c vs e = sym (ap (λ o. option_map_or (in_fitting c) o false) e)

-- each place that is taken has a type
no_type : (fs : Fields) (i : ℕ) → i < field_count fs → None ≡ field_at fs i → ⊥
no_type no_fields i h e = absurd (omega arith)
no_type (field x t fs) zero h e = absurd (cc)
no_type (field x t fs) (suc i) h e = no_type fs i (omega arith) e

same_counts : (a b : ℕ) → nat_eq a b ≡ true → a ≡ b
same_counts a b e = grind arith

pub no_part : (c : InTerm) (n i : ℕ) → in_takes c n ≡ true → i < n → None ≡ in_at c i → ⊥
no_part (every t) n i e h f = absurd (cc)
no_part (each fs) n i e h f = no_type fs i (let same = same_counts (field_count fs) n e in omega arith) f

-- behind the last value nothing is left
fields_end : (fs : Fields) (i : ℕ) → field_count fs ≡ i → fields_drop i fs ≡ no_fields
fields_end no_fields zero e = refl
fields_end no_fields (suc i) e = refl
fields_end (field x t fs) zero e = absurd (omega arith)
fields_end (field x t fs) (suc i) e = fields_end fs i (omega arith)

pub fit_end : (c : InTerm) (xs : List ValueTerm) (i : ℕ) → in_takes c i ≡ true → length xs ≤ i → fit_from c xs i ≡ true
fit_end (every t) xs i e h = ap (λ ws. all_fit (every t) (values_from ws)) (drop_all i xs h)
fit_end (each fs) xs i e h =
    ap (λ ws. all_fit (each (fields_drop i fs)) (values_from ws)) (drop_all i xs h)
    ∙ ap (λ gs. all_fit (each gs) no_values) (fields_end fs i (same_counts (field_count fs) i e))

-- the step of a loop over tests
pub fails_at : (here rest from all : Bool) → here ≡ false → from ≡ (here && rest) → from ≡ all → false ≡ all
fails_at here rest from all f e so_far = sym (e ∙ ap (λ (b : Bool). b && rest) f) ∙ so_far

pub passes_at : (here rest from all : Bool) → here ≡ true → from ≡ (here && rest) → from ≡ all → rest ≡ all
passes_at here rest from all t e so_far = sym (e ∙ ap (λ (b : Bool). b && rest) t) ∙ so_far

-- of a fixed-size list of this size, and of another one
pub sized_fits : (t u : Term) (v : ValueTerm) (k : ℕ) (n : Bool) (xs : List ValueTerm) (b : Bool) → fixed_size_list u k n ≡ t → list_value (values_from xs) ≡ v
    → length xs ≡ k → b ≡ all_fit (every u) (values_from xs) → b ≡ is_some (fitting_row t v)
sized_fits t u v k n xs b e f size fit =
    let one : nat_eq (length xs) k ≡ true = eq-eqb _ _ size in
    fit ∙ sym (ap (λ (s : Bool). s && all_fit (every u) (values_from xs)) one) ∙ fixed_fits t u v k n xs e f

pub other_size_fits : (t u : Term) (v : ValueTerm) (k : ℕ) (n : Bool) (xs : List ValueTerm) → fixed_size_list u k n ≡ t → list_value (values_from xs) ≡ v
    → (length xs ≡ k → ⊥) → nat_eq (length xs) k ≡ is_some (fitting_row t v)
other_size_fits t u v k n xs e f size =
    let two : nat_eq (length xs) k ≡ false = ne_eqb _ _ size in
    two ∙ sym (ap (λ (s : Bool). s && all_fit (every u) (values_from xs)) two) ∙ fixed_fits t u v k n xs e f
