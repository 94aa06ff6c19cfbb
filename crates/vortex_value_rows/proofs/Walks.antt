-- Values inside a list or a struct that are known to have rows, one after the other.
use Rattle.std.proofs.Common.{◌≡◌, ℕ, suc, ◌+◌, ◌<◌, ◌≤◌, Bool, true, false, List, [], ◌∷◌, length, Option, Some, None, refl, sym, ap, ◌∙◌, arith, add-one, subst}
use Rattle.std.specs.Prelude.{slice_get, drop}
use Rattle.std.specs.Option.{option_map, option_and_then, IsSome, unwrap_or}
use Rattle.vortex_terms.specs.Term.{Term, null, boolean, primitive, decimal, utf8, binary, structure, list, extension, fixed_size_list, no_fields, field}
use Rattle.vortex_terms.specs.Row.{Row, null_row, list_row, Rows, no_rows, row, row_count}
use Rattle.vortex_terms.specs.Weight.{weight}
use Rattle.vortex_scalar_value.specs.Value.{ValueTerm, ValueTerms, values_from}
use Rattle.vortex_value_rows.specs.RowOf.{row_of, row_under, row_before}
use Rattle.vortex_value_rows.specs.Inside.{InTerm, every, each, in_of, in_at, in_drop, in_takes, in_rows, in_weight}
use Rattle.vortex_value_rows.specs.HeldRow.{rows_inside, rows_under}
use Rattle.vortex_value_rows.proofs.Insides.{drop_one, rows_step, not_taken, no_part}

-- the rows of the values from a place on, and that they are there
abbrev pub rows_from : InTerm → List ValueTerm → ℕ → Rows
rows_from c xs i = rows_under (in_drop i c) (values_from (drop i xs))

abbrev pub HasRows : InTerm → List ValueTerm → ℕ → Type 0
HasRows c xs i = IsSome (in_rows (in_drop i c) (values_from (drop i xs)))

-- the first of the rows that are left, and the rest
pub record Step (c : InTerm) (xs : List ValueTerm) (i : ℕ) (t : Term) (v : ValueTerm) : Type 0 where
  pub here : IsSome (row_of t v)
  pub rest : HasRows c xs (i + 1)
  pub is : rows_from c xs i ≡ row (row_under t v) (rows_from c xs (i + 1))

first_here : (o : Option Row) (os : Option Rows) → IsSome (row_before o os) → IsSome o
first_here (Some r) os h = refl
first_here None os h = absurd (cc)

first_rest : (o : Option Row) (os : Option Rows) → IsSome (row_before o os) → IsSome os
first_rest (Some r) (Some rs) h = refl
first_rest (Some r) None h = absurd (cc)
first_rest None os h = absurd (cc)

first_is : (o : Option Row) (os : Option Rows) → IsSome (row_before o os) → unwrap_or (row_before o os) no_rows ≡ row (unwrap_or o null_row) (unwrap_or os no_rows)
first_is (Some r) (Some rs) h = refl
first_is (Some r) None h = absurd (cc)
first_is None os h = absurd (cc)

pub step : (c : InTerm) (xs : List ValueTerm) (i : ℕ) (t : Term) (v : ValueTerm) → in_at c i ≡ Some t → slice_get xs i ≡ Some v → HasRows c xs i → Step c xs i t v
step c xs i t v at e has =
    let is : in_rows (in_drop i c) (values_from (drop i xs)) ≡ row_before (row_of t v) (in_rows (in_drop (i + 1) c) (values_from (drop (i + 1) xs))) =
    rw add-one (ap (λ ws. in_rows (in_drop i c) (values_from ws)) (drop_one xs i v e) ∙ rows_step c i t v (values_from (drop (suc i) xs)) at) in
    let o = row_of t v in
    let os = in_rows (in_drop (i + 1) c) (values_from (drop (i + 1) xs)) in
    let some : IsSome (row_before o os) = subst IsSome is has in
    record {
      here = first_here o os some;
      rest = first_rest o os some;
      is = ap (λ p. unwrap_or p no_rows) is ∙ first_is o os some;
    }

-- where there are rows, each value has a type
some_or_none : (o : Option Term) → (None ≡ o → ⊥) → IsSome o
some_or_none (Some t) h = refl
some_or_none None h = absurd (h refl)

taken : (c : InTerm) (xs : List ValueTerm) → IsSome (in_rows c (values_from xs)) → in_takes c (length xs) ≡ true
taken c xs has = by (in_takes c (length xs)) (λ e. none e)
  where
    none : in_takes c (length xs) ≡ false → ⊥
    none e = not_none (in_rows c (values_from xs)) (not_taken c xs e) has
      where
        not_none : (o : Option Rows) → o ≡ None → IsSome o → ⊥
        not_none (Some rs) e h = cc
        not_none None e h = cc

    by : (b : Bool) → (b ≡ false → ⊥) → b ≡ true
    by true h = refl
    by false h = absurd (h refl)

pub has_part : (c : InTerm) (xs : List ValueTerm) (i : ℕ) → IsSome (in_rows c (values_from xs)) → i < length xs → IsSome (in_at c i)
has_part c xs i has h = some_or_none (in_at c i) (λ e. no_part c (length xs) i (taken c xs has) h e)

-- ---- the row of a list

pub list_some : (o : Option Rows) → IsSome (option_map list_row o) → IsSome o
list_some (Some rs) h = refl
list_some None h = absurd (cc)

pub list_is : (o : Option Rows) → IsSome (option_map list_row o) → unwrap_or (option_map list_row o) null_row ≡ list_row (unwrap_or o no_rows)
list_is (Some rs) h = refl
list_is None h = absurd (cc)

-- ---- inside a type

weight_in : (c d : InTerm) → Some c ≡ Some d → in_weight d ≤ in_weight c
weight_in c d e = omega (arith, same c d e)
  where
    same : (c d : InTerm) → Some c ≡ Some d → in_weight c ≡ in_weight d
    same c d e = cc

-- what is inside is no heavier than the type
pub parts_light : (t : Term) (c : InTerm) → in_of t ≡ Some c → in_weight c ≤ weight t
parts_light (structure fs n) c e = omega (arith, weight_in (each fs) c e)
parts_light (list t n) c e = weight_in (every t) c e
parts_light (extension id t m) c e = omega (arith, parts_light t c e)
parts_light (fixed_size_list t k n) c e = weight_in (every t) c e
parts_light null c e = absurd (cc)
parts_light (boolean n) c e = absurd (cc)
parts_light (primitive k n) c e = absurd (cc)
parts_light (decimal p s n) c e = absurd (cc)
parts_light (utf8 n) c e = absurd (cc)
parts_light (binary n) c e = absurd (cc)

-- the rows of a list or a struct that has a row
pub inside_some : (t : Term) (c : InTerm) (vs : ValueTerms) (o : Option Row) → option_map list_row (rows_inside t vs) ≡ o → IsSome o → in_of t ≡ Some c → IsSome (in_rows c vs)
inside_some t c vs o e has is =
    subst IsSome (ap (option_and_then (λ d. in_rows d vs)) is) (list_some (rows_inside t vs) (subst IsSome (sym e) has))

pub inside_is : (t : Term) (c : InTerm) (vs : ValueTerms) (o : Option Row) → option_map list_row (rows_inside t vs) ≡ o → IsSome o → in_of t ≡ Some c → unwrap_or o null_row ≡ list_row (rows_under c vs)
inside_is t c vs o e has is =
    ap (λ p. unwrap_or p null_row) (sym e) ∙ list_is (rows_inside t vs) (subst IsSome (sym e) has)
    ∙ ap (λ p. list_row (unwrap_or (option_and_then (λ d. in_rows d vs) p) no_rows)) is

-- ---- how many rows

count_more : (o : Option Row) (os : Option Rows) (m : ℕ) → IsSome (row_before o os) → (IsSome os → row_count (unwrap_or os no_rows) ≡ m) → row_count (unwrap_or (row_before o os) no_rows) ≡ suc m
count_more (Some r) (Some rs) m h count = ap suc (count refl)
count_more (Some r) None m h count = absurd (cc)
count_more None os m h count = absurd (cc)

pub count : (c : InTerm) (xs : List ValueTerm) → IsSome (in_rows c (values_from xs)) → row_count (rows_under c (values_from xs)) ≡ length xs
count (every t) [] h = refl
count (every t) (x ∷ xs) h = count_more (row_of t x) (in_rows (every t) (values_from xs)) (length xs) h (count (every t) xs)
count (each no_fields) [] h = refl
count (each (field y t fs)) (x ∷ xs) h = count_more (row_of t x) (in_rows (each fs) (values_from xs)) (length xs) h (count (each fs) xs)
count (each no_fields) (x ∷ xs) h = absurd (cc)
count (each (field y t fs)) [] h = absurd (cc)
