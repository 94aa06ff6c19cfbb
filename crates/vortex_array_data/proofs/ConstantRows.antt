-- The row of a constant, and the rows of one.
use Rattle.std.specs.Prelude.{if◌then◌else◌}
use Rattle.std.proofs.Common.{rules, ◌≡◌, ◌∙◌, ℕ, zero, suc, true, false, Option, Some, None, refl, sym, ap, subst, true≢false}
use Rattle.std.specs.List.{AllByRecursion}
use Rattle.std.specs.Option.{IsSome, unwrap_or, option_and_then}
use Rattle.vortex_terms.specs.Term.{Term}
use Rattle.vortex_terms.specs.Row.{Row, null_row, is_null, copies}
use Rattle.vortex_terms.specs.Tests.{is_fitting}
use Rattle.vortex_types.specs.DTypes.{term_of}
use Rattle.vortex_scalar_value.specs.Value.{ValueTerm, null_value, truth_value, whole_value, decimal_value, bytes_value, text_value, list_value, is_null_value}
use Rattle.vortex_value_rows.specs.RowOf.{row_of, row_under, fitting_row}
use Rattle.vortex_cast.proofs.Leaves.{null_row_of}
use Rattle.vortex_cast.proofs.Stored.{not_null}
use Rattle.vortex_array_data.specs.Content.{IsArray, IsShaped}
use Rattle.vortex_array_data.specs.declared.held.Content.{Content}
use Rattle.vortex_array_data.specs.declared.held.Content.TheVariants.{Constant}
use Rattle.vortex_array_data.specs.declared.held.Array.TheInside.{Inside}
use Rattle.vortex_array_data.proofs.ValidLists.{copies_valid, copies_null}
use Rattle.vortex_array_data.proofs.HeldRows.{all_null, all_valid}

some_row : (t : Term) (o : Option Row) → IsSome (option_and_then (λ r. if is_fitting t r then Some r else None) o) → IsSome o
some_row t (Some r) h = search rules
some_row t None h = absurd (cc)

-- a value that fits has a row
pub row_there : (t : Term) (v : ValueTerm) → IsSome (fitting_row t v) → IsSome (row_of t v)
row_there t v h = some_row t (row_of t v) h

null_is_value : (v : ValueTerm) → is_null_value v ≡ true → v ≡ null_value
null_is_value null_value h = refl
null_is_value (truth_value b) h = absurd (true≢false (sym h))
null_is_value (whole_value k z) h = absurd (true≢false (sym h))
null_is_value (decimal_value w z) h = absurd (true≢false (sym h))
null_is_value (bytes_value bs) h = absurd (true≢false (sym h))
null_is_value (text_value bs) h = absurd (true≢false (sym h))
null_is_value (list_value vs) h = absurd (true≢false (sym h))

null_under : (t : Term) (v : ValueTerm) → is_null_value v ≡ true → is_null (row_under t v) ≡ true
null_under t v h =
    ap (λ (w : ValueTerm). is_null (row_under t w)) (null_is_value v h)
    ∙ ap (λ (o : Option Row). is_null (unwrap_or o null_row)) (null_row_of t)

constant_shape : (c : Content) (v : ValueTerm) (t : Term) (n : ℕ) → c ≡ Constant v → IsShaped c t n
    → IsSome (fitting_row t v)
constant_shape c v t n e h = subst (λ (d : Content). IsShaped d t n) e h

pub constant_null : (a : Inside) (v : ValueTerm) → a.held.content ≡ Constant v → is_null_value v ≡ true
    → all_null a.held.content (term_of a.dtype) a.len
constant_null a v e h =
    subst (λ (c : Content). all_null c (term_of a.dtype) a.len) (sym e)
    (copies_null a.len (row_under (term_of a.dtype) v) (null_under (term_of a.dtype) v h))

pub constant_valid : (a : Inside) (v : ValueTerm) → IsArray a → a.held.content ≡ Constant v → is_null_value v ≡ false
    → all_valid a.held.content (term_of a.dtype) a.len
constant_valid a v h e k =
    let fits = constant_shape a.held.content v (term_of a.dtype) a.len e h.shape in
    subst (λ (c : Content). all_valid c (term_of a.dtype) a.len) (sym e)
    (copies_valid a.len (row_under (term_of a.dtype) v)
    (not_null (term_of a.dtype) v k (row_there (term_of a.dtype) v fits)))

pub copies_fit : (P : Row → Type 0) (n : ℕ) (r : Row) → P r → AllByRecursion P (copies n r)
unfolding copies
copies_fit P zero r h = tt
copies_fit P (suc n) r h = (h, copies_fit P n r h)
