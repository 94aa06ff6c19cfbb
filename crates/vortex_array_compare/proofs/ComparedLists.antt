-- How rows compare with values one after the other.
use Rattle.std.specs.Prelude.{slice_range}
use Rattle.std.proofs.Common.{◌≡◌, ◌≤◌, ◌<◌, ◌+◌, ◌-◌, ◌∙◌, ℕ, zero, suc, List, [], ◌∷◌, Option, Some, None, length, get_or, take, drop, refl, sym, ap, subst, arith}
use Rattle.std.proofs.lemmas.List.{take_all}
use Rattle.std.specs.Option.{IsSome, unwrap_or}
use Rattle.std.specs.Ordering.{ordering_then}
use Rattle.std.specs.declared.cmp.Ordering.{Ordering}
use Rattle.std.specs.declared.cmp.Ordering.TheVariants.{Less, Equal, Greater}
use Rattle.vortex_terms.specs.Order.{row_cmp, rows_cmp}
use Rattle.vortex_terms.specs.Row.{Row, null_row, Rows, no_rows, row, rows_from}
use Rattle.vortex_terms.specs.Term.{Term}
use Rattle.vortex_scalar_value.specs.Value.{ValueTerm, values_from}
use Rattle.vortex_value_rows.specs.HeldRow.{rows_under}
use Rattle.vortex_value_rows.specs.Inside.{every}
use Rattle.vortex_value_rows.specs.RowOf.{row_of, row_under, row_before, rows_by}
use Rattle.vortex_array_data.specs.Column.{Column}
use Rattle.vortex_array_compare.specs.inner.ComparedRows.{row_in, rows_at, rows_beside, HaveRows}

pub decided : (o q : Ordering) → (o ≡ Equal → ⊥) → ordering_then o q ≡ o
decided Less q h = refl
decided Equal q h = absurd (h refl)
decided Greater q h = refl

-- ---- rows of a range

abbrev pub rows_between : List Row → ℕ → ℕ → Rows
rows_between rs i to = rows_from (slice_range rs i to)

drop_in : (rs : List Row) (i : ℕ) → i < length rs → drop i rs ≡ row_in rs i ∷ drop (suc i) rs
drop_in [] i h = absurd (omega (arith, h))
drop_in (r ∷ rs) zero h = refl
drop_in (r ∷ rs) (suc i) h = drop_in rs i (omega (arith, h))

pub range_more : (rs : List Row) (i to : ℕ) → i < to → to ≤ length rs
    → rows_between rs i to ≡ row (row_in rs i) (rows_between rs (i + 1) to)
range_more rs i to h k =
    let more : to - i ≡ suc (to - suc i) = omega (arith, h) in
    let next : suc i ≡ i + 1 = omega arith in
    (λ j. rows_from (take (more j) (drop_in rs i (omega (arith, h, k)) j)))
    ∙ ap (λ (m : ℕ). row (row_in rs i) (rows_between rs m to)) next

pub range_ends : (rs : List Row) (i to : ℕ) → to ≤ i → rows_between rs i to ≡ no_rows
range_ends rs i to h =
    let none : to - i ≡ 0 = omega (arith, h) in
    ap (λ (k : ℕ). rows_from (take k (drop i rs))) none

-- ---- values

first_there : (o : Option Row) (p : Option Rows) → IsSome (row_before o p) → IsSome o
first_there (Some r) p h = refl
first_there None p h = absurd (cc)

rest_there : (o : Option Row) (p : Option Rows) → IsSome (row_before o p) → IsSome p
rest_there (Some r) (Some rs) h = refl
rest_there (Some r) None h = absurd (cc)
rest_there None p h = absurd (cc)

before_is : (o : Option Row) (p : Option Rows) → IsSome (row_before o p)
    → unwrap_or (row_before o p) no_rows ≡ row (unwrap_or o null_row) (unwrap_or p no_rows)
before_is (Some r) (Some rs) h = refl
before_is (Some r) None h = absurd (cc)
before_is None p h = absurd (cc)

-- each value is a row under the type
abbrev pub AreRows : Term → List ValueTerm → Type 0
AreRows t vs = IsSome (rows_by (row_of t) (values_from vs))

abbrev pub under : Term → List ValueTerm → Rows
under t vs = rows_under (every t) (values_from vs)

pub first_row : (t : Term) (v : ValueTerm) (vs : List ValueTerm) → AreRows t (v ∷ vs) → IsSome (row_of t v)
first_row t v vs h = first_there (row_of t v) (rows_by (row_of t) (values_from vs)) h

pub rest_rows : (t : Term) (v : ValueTerm) (vs : List ValueTerm) → AreRows t (v ∷ vs) → AreRows t vs
rest_rows t v vs h = rest_there (row_of t v) (rows_by (row_of t) (values_from vs)) h

pub under_more : (t : Term) (v : ValueTerm) (vs : List ValueTerm) → AreRows t (v ∷ vs)
    → under t (v ∷ vs) ≡ row (row_under t v) (under t vs)
under_more t v vs h = before_is (row_of t v) (rows_by (row_of t) (values_from vs)) h

-- ---- rows beside values

-- rows from a place on compare with the values that are left as all do
abbrev pub Compares : Term → List Row → ℕ → ℕ → List ValueTerm → Ordering → Type 0
Compares t rs i to vs all = rows_cmp (rows_between rs i to) (under t vs) ≡ all

step : (t : Term) (rs : List Row) (i to : ℕ) (v : ValueTerm) (vs : List ValueTerm) → i < to → to ≤ length rs
    → AreRows t (v ∷ vs)
    → rows_cmp (rows_between rs i to) (under t (v ∷ vs))
    ≡ ordering_then (row_cmp (row_in rs i) (row_under t v)) (rows_cmp (rows_between rs (i + 1) to) (under t vs))
step t rs i to v vs h k some = λ j. rows_cmp (range_more rs i to h k j) (under_more t v vs some j)

pub goes_on : (t : Term) (rs : List Row) (i to : ℕ) (ws vs : List ValueTerm) (v : ValueTerm) (all : Ordering)
    → ws ≡ v ∷ vs → i < to → to ≤ length rs → AreRows t ws → Equal ≡ row_cmp (row_in rs i) (row_under t v)
    → Compares t rs i to ws all → Compares t rs (i + 1) to vs all
goes_on t rs i to ws vs v all is h k some e so_far =
    let rest = rows_cmp (rows_between rs (i + 1) to) (under t vs) in
    ap (λ (o : Ordering). ordering_then o rest) e ∙ sym (step t rs i to v vs h k (subst (AreRows t) is some))
    ∙ ap (λ (l : List ValueTerm). rows_cmp (rows_between rs i to) (under t l)) (sym is) ∙ so_far

pub decides : (t : Term) (rs : List Row) (i to : ℕ) (ws vs : List ValueTerm) (v : ValueTerm) (o all : Ordering)
    → ws ≡ v ∷ vs → i < to → to ≤ length rs → AreRows t ws → o ≡ row_cmp (row_in rs i) (row_under t v)
    → (o ≡ Equal → ⊥) → Compares t rs i to ws all → o ≡ all
decides t rs i to ws vs v o all is h k some e other so_far =
    let rest = rows_cmp (rows_between rs (i + 1) to) (under t vs) in
    sym (decided o rest other) ∙ ap (λ (p : Ordering). ordering_then p rest) e
    ∙ sym (step t rs i to v vs h k (subst (AreRows t) is some))
    ∙ ap (λ (l : List ValueTerm). rows_cmp (rows_between rs i to) (under t l)) (sym is) ∙ so_far

pub fewer_rows : (t : Term) (rs : List Row) (i to : ℕ) (ws vs : List ValueTerm) (v : ValueTerm) (all : Ordering)
    → ws ≡ v ∷ vs → to ≤ i → AreRows t ws → Compares t rs i to ws all → Less ≡ all
fewer_rows t rs i to ws vs v all is h some so_far =
    sym ((λ j. rows_cmp (range_ends rs i to h j) (under_more t v vs (subst (AreRows t) is some) j)))
    ∙ ap (λ (l : List ValueTerm). rows_cmp (rows_between rs i to) (under t l)) (sym is) ∙ so_far

none_left : (vs : List ValueTerm) → length vs ≡ 0 → vs ≡ []
none_left [] h = refl
none_left (v ∷ vs) h = absurd (omega (arith, h))

pub fewer_values : (t : Term) (rs : List Row) (i to : ℕ) (ws : List ValueTerm) (all : Ordering) → length ws < 1
    → i < to → to ≤ length rs → Compares t rs i to ws all → Greater ≡ all
fewer_values t rs i to ws all none h k so_far =
    sym (λ j. rows_cmp (range_more rs i to h k j) (under t (none_left ws (omega (arith, none)) j))) ∙ so_far

pub as_many : (t : Term) (rs : List Row) (i to : ℕ) (ws : List ValueTerm) (all : Ordering) → length ws < 1
    → to ≤ i → Compares t rs i to ws all → Equal ≡ all
as_many t rs i to ws all none h so_far =
    sym (λ j. rows_cmp (range_ends rs i to h j) (under t (none_left ws (omega (arith, none)) j))) ∙ so_far

-- ---- fields beside values

pub fields_go_on : (i : ℕ) (cs ds : List Column) (ws vs : List ValueTerm) (c : Column) (v : ValueTerm) (all : Ordering)
    → cs ≡ c ∷ ds → ws ≡ v ∷ vs → Equal ≡ row_cmp (row_in c.rows i) (row_under c.dtype v)
    → rows_cmp (rows_at i cs) (rows_beside cs ws) ≡ all → rows_cmp (rows_at i ds) (rows_beside ds vs) ≡ all
fields_go_on i cs ds ws vs c v all p q e so_far =
    ap (λ (o : Ordering). ordering_then o (rows_cmp (rows_at i ds) (rows_beside ds vs))) e
    ∙ sym (λ j. rows_cmp (rows_at i (p j)) (rows_beside (p j) (q j))) ∙ so_far

pub field_decides : (i : ℕ) (cs ds : List Column) (ws vs : List ValueTerm) (c : Column) (v : ValueTerm) (o all : Ordering)
    → cs ≡ c ∷ ds → ws ≡ v ∷ vs → o ≡ row_cmp (row_in c.rows i) (row_under c.dtype v) → (o ≡ Equal → ⊥)
    → rows_cmp (rows_at i cs) (rows_beside cs ws) ≡ all → o ≡ all
field_decides i cs ds ws vs c v o all p q e other so_far =
    let rest = rows_cmp (rows_at i ds) (rows_beside ds vs) in
    sym (decided o rest other) ∙ ap (λ (p : Ordering). ordering_then p rest) e
    ∙ sym (λ j. rows_cmp (rows_at i (p j)) (rows_beside (p j) (q j))) ∙ so_far

-- where one list ends, so does the other
pub both_end : (i : ℕ) (cs : List Column) (ws : List ValueTerm) (all : Ordering) → HaveRows cs ws
    → (1 ≤ length cs → 1 ≤ length ws → ⊥) → rows_cmp (rows_at i cs) (rows_beside cs ws) ≡ all → Equal ≡ all
both_end i [] [] all h none so_far = so_far
both_end i [] (v ∷ vs) all h none so_far = absurd h
both_end i (c ∷ cs) [] all h none so_far = absurd h
both_end i (c ∷ cs) (v ∷ vs) all h none so_far = absurd (none (omega arith) (omega arith))

pub fields_end : (i : ℕ) (cs : List Column) (ws : List ValueTerm) (all : Ordering) → length cs < 1 → HaveRows cs ws
    → rows_cmp (rows_at i cs) (rows_beside cs ws) ≡ all → Equal ≡ all
fields_end i cs ws all few h so_far = both_end i cs ws all h (λ a b. absurd (omega (arith, a, few))) so_far

pub values_end : (i : ℕ) (cs : List Column) (ws : List ValueTerm) (all : Ordering) → length ws < 1 → HaveRows cs ws
    → rows_cmp (rows_at i cs) (rows_beside cs ws) ≡ all → Equal ≡ all
values_end i cs ws all few h so_far = both_end i cs ws all h (λ a b. absurd (omega (arith, b, few))) so_far

-- ---- the first of what is left

pub front : {A : Type 0} (ws : List A) (v : A) → 1 ≤ length ws → v ≡ get_or ws 0 v
    → ws ≡ v ∷ take (length ws - 1) (drop 1 ws)
front [] v h e = absurd (omega (arith, h))
front {A = A} (w ∷ ws) v h e =
    let few : length (w ∷ ws) - 1 ≡ length ws = omega arith in
    sym ((λ j. e j ∷ take (few j) ws) ∙ ap (λ (l : List A). w ∷ l) (take_all (length ws) ws (omega arith)))
