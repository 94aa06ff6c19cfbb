-- How rows compare that are known by their parts.
use Rattle.std.proofs.Common.{◌≡◌, ℕ, ℤ, Bor, ◌+◌, ◌-◌, Bool, List, length, Option, Some, None, refl, sym, ap, ◌∙◌, arith, subst}
use Rattle.std.specs.Prelude.{min, drop}
use Rattle.std.specs.Option.{option_map, IsSome, unwrap_or}
use Rattle.std.proofs.lemmas.List.{length-drop}
use Rattle.std.specs.declared.cmp.Ordering.{Ordering}
use Rattle.std.specs.declared.cmp.Ordering.TheVariants.{Less, Equal, Greater}
use Rattle.std.specs.Ordering.{nat_cmp, ordering_then}
use Rattle.std.specs.Cmp.{nat_cmp_is}
use Rattle.vortex_terms.specs.Term.{Term}
use Rattle.vortex_terms.specs.Row.{Row, null_row, truth_row, whole_row, bytes_row, list_row, Rows, no_rows, row, row_count, form_of}
use Rattle.vortex_terms.specs.Order.{row_cmp, rows_cmp, form_number}
use Rattle.vortex_scalar_value.specs.Value.{ValueTerm, values_from}
use Rattle.vortex_value_rows.specs.RowOf.{row_under}
use Rattle.vortex_value_rows.specs.Inside.{InTerm, in_drop}
use Rattle.vortex_value_rows.specs.HeldRow.{held_row, held_form, rows_inside}
use Rattle.vortex_value_rows.specs.declared.row_refs.RowRef.{RowRef}
use Rattle.vortex_value_rows.specs.declared.row_refs.RowRef.TheVariants as refs
use Rattle.vortex_value_rows.proofs.Walks.{Step, rows_from, HasRows, count}

-- ---- rows of two forms

by_forms : (r s : Row) → (form_number (form_of r) ≡ form_number (form_of s) → ⊥) → row_cmp r s ≡ nat_cmp (form_number (form_of r)) (form_number (form_of s))
by_forms (truth_row a) (truth_row b) h = absurd (h refl)
by_forms (whole_row a) (whole_row b) h = absurd (h refl)
by_forms (bytes_row a) (bytes_row b) h = absurd (h refl)
by_forms (list_row a) (list_row b) h = absurd (h refl)
by_forms _ _ h = refl

list_form : (o : Option Rows) → IsSome (option_map list_row o) → form_number (form_of (unwrap_or (option_map list_row o) null_row)) ≡ 4
list_form (Some rs) h = refl
list_form None h = absurd (cc)

form_is : (t : Term) (x : RowRef) → IsSome (held_row t x) → form_number (form_of (unwrap_or (held_row t x) null_row)) ≡ held_form x
form_is t refs.Null h = refl
form_is t (refs.Truth b) h = refl
form_is t (refs.Whole z) h = refl
form_is t (refs.Bytes bs) h = refl
form_is t (refs.List vs) h = list_form (rows_inside t (values_from vs.now)) h

form_held : (t : Term) (x : RowRef) (o : Option Row) → held_row t x ≡ o → IsSome o → form_number (form_of (unwrap_or o null_row)) ≡ held_form x
form_held t x o e h =
    ap (λ p. form_number (form_of (unwrap_or p null_row))) (sym e) ∙ form_is t x (subst IsSome (sym e) h)

pub other_forms : (t : Term) (x y : RowRef) (o p : Option Row) → held_row t x ≡ o → held_row t y ≡ p → IsSome o → IsSome p
    → (held_form x ≡ held_form y → ⊥) → nat_cmp (held_form x) (held_form y) ≡ row_cmp (unwrap_or o null_row) (unwrap_or p null_row)
other_forms t x y o p e f some_o some_p other =
    let a = form_held t x o e some_o in
    let b = form_held t y p f some_p in
    (λ i. nat_cmp (sym a i) (sym b i)) ∙ sym (by_forms (unwrap_or o null_row) (unwrap_or p null_row) (λ same. other (sym a ∙ same ∙ b)))

pub no_truth : (y : RowRef) → ((b : Bool) → y ≡ refs.Truth b → ⊥) → 1 ≡ held_form y → ⊥
no_truth refs.Null h e = absurd (omega arith)
no_truth (refs.Truth b) h e = h b refl
no_truth (refs.Whole z) h e = absurd (omega arith)
no_truth (refs.Bytes bs) h e = absurd (omega arith)
no_truth (refs.List vs) h e = absurd (omega arith)

pub no_whole : (y : RowRef) → ((z : ℤ) → y ≡ refs.Whole z → ⊥) → 2 ≡ held_form y → ⊥
no_whole refs.Null h e = absurd (omega arith)
no_whole (refs.Truth b) h e = absurd (omega arith)
no_whole (refs.Whole z) h e = h z refl
no_whole (refs.Bytes bs) h e = absurd (omega arith)
no_whole (refs.List vs) h e = absurd (omega arith)

pub no_bytes : (y : RowRef) → ((bs : Bor (List ℕ)) → y ≡ refs.Bytes bs → ⊥) → 3 ≡ held_form y → ⊥
no_bytes refs.Null h e = absurd (omega arith)
no_bytes (refs.Truth b) h e = absurd (omega arith)
no_bytes (refs.Whole z) h e = absurd (omega arith)
no_bytes (refs.Bytes bs) h e = h bs refl
no_bytes (refs.List vs) h e = absurd (omega arith)

pub no_list : (y : RowRef) → ((vs : Bor (List ValueTerm)) → y ≡ refs.List vs → ⊥) → 4 ≡ held_form y → ⊥
no_list refs.Null h e = absurd (omega arith)
no_list (refs.Truth b) h e = absurd (omega arith)
no_list (refs.Whole z) h e = absurd (omega arith)
no_list (refs.Bytes bs) h e = absurd (omega arith)
no_list (refs.List vs) h e = h vs refl

-- ---- one after the other

decided : (o q : Ordering) → (o ≡ Equal → ⊥) → ordering_then o q ≡ o
decided Less q h = refl
decided Equal q h = absurd (h refl)
decided Greater q h = refl

-- rows that differ decide
pub decides : (c : InTerm) (xs ys : List ValueTerm) (i : ℕ) (t : Term) (v w : ValueTerm) (o all : Ordering) → Step c xs i t v → Step c ys i t w
    → o ≡ row_cmp (row_under t v) (row_under t w) → (o ≡ Equal → ⊥) → rows_cmp (rows_from c xs i) (rows_from c ys i) ≡ all → o ≡ all
decides c xs ys i t v w o all a b e other so_far =
    let rest = rows_cmp (rows_from c xs (i + 1)) (rows_from c ys (i + 1)) in
    sym (decided o rest other) ∙ ap (λ p. ordering_then p rest) e ∙ sym (λ i. rows_cmp (a.is i) (b.is i)) ∙ so_far

-- equal ones leave it to the rest
pub goes_on : (c : InTerm) (xs ys : List ValueTerm) (i : ℕ) (t : Term) (v w : ValueTerm) (all : Ordering) → Step c xs i t v → Step c ys i t w
    → Equal ≡ row_cmp (row_under t v) (row_under t w) → rows_cmp (rows_from c xs i) (rows_from c ys i) ≡ all
    → rows_cmp (rows_from c xs (i + 1)) (rows_from c ys (i + 1)) ≡ all
goes_on c xs ys i t v w all a b e so_far =
    let rest = rows_cmp (rows_from c xs (i + 1)) (rows_from c ys (i + 1)) in
    ap (λ p. ordering_then p rest) e ∙ sym (λ i. rows_cmp (a.is i) (b.is i)) ∙ so_far

-- behind the shorter list the lengths decide
by_counts : (rs ss : Rows) (m n i : ℕ) → row_count rs ≡ m - i → row_count ss ≡ n - i → i ≡ min m n → nat_cmp m n ≡ rows_cmp rs ss
by_counts no_rows no_rows m n i e f at = sym (nat_cmp_is m n Equal (omega (arith, e, f, at)))
by_counts no_rows (row s ss) m n i e f at = sym (nat_cmp_is m n Less (omega (arith, e, f, at)))
by_counts (row r rs) no_rows m n i e f at = sym (nat_cmp_is m n Greater (omega (arith, e, f, at)))
by_counts (row r rs) (row s ss) m n i e f at = absurd (omega (arith, e, f, at))

pub ends : (c : InTerm) (xs ys : List ValueTerm) (i : ℕ) → HasRows c xs i → HasRows c ys i → i ≡ min (length xs) (length ys)
    → nat_cmp (length xs) (length ys) ≡ rows_cmp (rows_from c xs i) (rows_from c ys i)
ends c xs ys i a b at =
    by_counts (rows_from c xs i) (rows_from c ys i) (length xs) (length ys) i
    (count (in_drop i c) (drop i xs) a ∙ length-drop i xs) (count (in_drop i c) (drop i ys) b ∙ length-drop i ys) at

-- what is told of rows of two forms
pub told : (t : Term) (z x y : RowRef) (o p : Option Row) (m n : ℕ) (r : Ordering) → z ≡ x → held_row t x ≡ o → held_row t y ≡ p → IsSome o → IsSome p
    → (held_form x ≡ held_form y → ⊥) → m ≡ held_form z → n ≡ held_form y → r ≡ nat_cmp m n → r ≡ row_cmp (unwrap_or o null_row) (unwrap_or p null_row)
told t z x y o p m n r same e f some_o some_p other a b answer =
    let left : m ≡ held_form x = a ∙ ap held_form same in
    answer ∙ (λ i. nat_cmp (left i) (b i)) ∙ other_forms t x y o p e f some_o some_p other
