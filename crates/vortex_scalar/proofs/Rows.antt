-- Values that have a row, and rows that fit.
use Rattle.std.proofs.Common.{◌≡◌, ℕ, ℤ, List, IsUtf8, Ok, Err, Bool, true, false, Option, Some, None, refl, sym, ap, subst, ◌∙◌}
use Rattle.std.specs.Option.{IsSome, is_some, option_map, option_and_then}
use Rattle.std.specs.Str.{is_utf8}
use Rattle.std.proofs.lemmas.Str.{IsUtf8-from_is_utf8}
use Rattle.vortex_scalar_value.specs.declared.error.ScalarError.TheVariants as error
use Rattle.std.specs.Prelude.{if◌then◌else◌, unwrap_or}
use Rattle.vortex_terms.specs.Term.{Term, null, boolean, primitive, decimal, utf8, binary, structure, list, extension, fixed_size_list}
use Rattle.vortex_terms.specs.Row.{Row, Rows, null_row, whole_row, list_row, is_null}
use Rattle.vortex_terms.specs.Fits.{Fits}
use Rattle.vortex_terms.specs.Tests.{is_fitting}
use Rattle.vortex_terms.specs.TestLaws.{is_fitting-Decides}
use Rattle.vortex_scalar_value.specs.Value.{ValueTerm, null_value, truth_value, whole_value, decimal_value, bytes_value, text_value, list_value, is_null_value}
use Rattle.vortex_value_rows.specs.RowOf.{row_of, fitting_row, number_of_bytes, field_rows, rows_by}
use Rattle.vortex_scalar.specs.ScalarTerm.{ScalarTerm}
use Rattle.vortex_scalar.specs.Made.{typed, scalar_of, text_scalar, IsScalarOf}

-- a row that fits is the fitting row
pub fitting : (t : Term) (v : ValueTerm) (r : Row) → row_of t v ≡ Some r → Fits t r → fitting_row t v ≡ Some r
fitting t v r e h = rw (e, (is_fitting-Decides t r).1 h) refl

pub is_made : (t : Term) (v : ValueTerm) (r : Row) → row_of t v ≡ Some r → Fits t r → IsSome (fitting_row t v)
is_made t v r e h = ap is_some (fitting t v r e h)

pub makes : (t : Term) (v : ValueTerm) (r : Row) → row_of t v ≡ Some r → Fits t r → scalar_of t v ≡ record { dtype = t; row = r }
makes t v r e h = ap (λ (o : Option Row). record { dtype = t; row = unwrap_or o null_row }) (fitting t v r e h)

-- the row, where it fits
abbrev kept : Term → Option Row → Option Row
kept t o = option_and_then (λ r. if is_fitting t r then Some r else None) o

fitted_by : (t : Term) (o : Option Row) → IsSome (kept t o)
    → (o ≡ Some (unwrap_or (kept t o) null_row)) × Fits t (unwrap_or (kept t o) null_row)
fitted_by t None h = absurd cc
fitted_by t (Some r) h = split (is_fitting t r) (is_fitting-Decides t r).0 h
  where
    split : (b : Bool) → (b ≡ true → Fits t r) → IsSome (if b then Some r else None)
        → (Some r ≡ Some (unwrap_or (if b then Some r else None) null_row)) × Fits t (unwrap_or (if b then Some r else None) null_row)
    split true fits h = (refl, fits refl)
    split false fits h = absurd cc

-- a fitting row is the value's, and fits
pub fitted : (t : Term) (v : ValueTerm) → IsSome (fitting_row t v)
    → (row_of t v ≡ Some (unwrap_or (fitting_row t v) null_row)) × Fits t (unwrap_or (fitting_row t v) null_row)
fitted t v h = fitted_by t (row_of t v) h

pub row_is : (t : Term) (v : ValueTerm) (s : ScalarTerm) → IsSome (fitting_row t v) → scalar_of t v ≡ s → row_of s.dtype v ≡ Some s.row
row_is t v s h e = subst (λ (z : ScalarTerm). row_of z.dtype v ≡ Some z.row) e (fitted t v h).0

pub row_fits : (t : Term) (v : ValueTerm) (s : ScalarTerm) → IsSome (fitting_row t v) → scalar_of t v ≡ s → Fits s.dtype s.row
row_fits t v s h e = subst (λ (z : ScalarTerm). Fits z.dtype z.row) e (fitted t v h).1

abbrev agrees : Bool → Option Row → Type 0
agrees b None = Unit {0}
agrees b (Some r) = is_null r ≡ b

number_agrees : (o : Option ℤ) → agrees false (option_map whole_row o)
number_agrees None = tt
number_agrees (Some z) = refl

list_agrees : (o : Option Rows) → agrees false (option_map list_row o)
list_agrees None = tt
list_agrees (Some z) = refl

null_agrees : (t : Term) (v : ValueTerm) → agrees (is_null_value v) (row_of t v)
null_agrees null null_value = refl
null_agrees (boolean n) null_value = refl
null_agrees (boolean n) (truth_value b) = refl
null_agrees (primitive k n) null_value = refl
null_agrees (primitive k n) (whole_value l z) = refl
null_agrees (decimal p s n) null_value = refl
null_agrees (decimal p s n) (decimal_value w z) = refl
null_agrees (decimal p s n) (bytes_value bs) = number_agrees (number_of_bytes bs)
null_agrees (utf8 n) null_value = refl
null_agrees (utf8 n) (bytes_value bs) = refl
null_agrees (utf8 n) (text_value bs) = refl
null_agrees (binary n) null_value = refl
null_agrees (binary n) (bytes_value bs) = refl
null_agrees (binary n) (text_value bs) = refl
null_agrees (structure fs n) null_value = refl
null_agrees (structure fs n) (list_value vs) = list_agrees (field_rows fs vs)
null_agrees (list t n) null_value = refl
null_agrees (list t n) (list_value vs) = list_agrees (rows_by (row_of t) vs)
null_agrees (extension id t m) v = null_agrees t v
null_agrees (fixed_size_list t k n) null_value = refl
null_agrees (fixed_size_list t k n) (list_value vs) = list_agrees (rows_by (row_of t) vs)
null_agrees _ _ = tt

-- a row is null exactly where the value is
pub null_same : (t : Term) (v : ValueTerm) (s : ScalarTerm) → IsSome (fitting_row t v) → scalar_of t v ≡ s → is_null s.row ≡ is_null_value v
null_same t v s h e = subst (agrees (is_null_value v)) (row_is t v s h e) (subst (λ (z : ScalarTerm). agrees (is_null_value v) (row_of z.dtype v)) e (null_agrees t v))

-- what a known value makes
pub fits_as : (t : Term) (v w : ValueTerm) (r : Row) → v ≡ w → row_of t w ≡ Some r → Fits t r → IsSome (fitting_row t v)
fits_as t v w r e row h = is_made t v r (ap (row_of t) e ∙ row) h

pub made_as : (t : Term) (v w : ValueTerm) (r : Row) (s : ScalarTerm) → v ≡ w → row_of t w ≡ Some r → Fits t r → s ≡ scalar_of t v → s ≡ typed t r
made_as t v w r s e row h made = made ∙ makes t v r (ap (row_of t) e ∙ row) h

-- null under a nullable type
pub null_row_of : (t : Term) → row_of t null_value ≡ Some null_row
null_row_of null = refl
null_row_of (boolean n) = refl
null_row_of (primitive k n) = refl
null_row_of (decimal p s n) = refl
null_row_of (utf8 n) = refl
null_row_of (binary n) = refl
null_row_of (structure fs n) = refl
null_row_of (list t n) = refl
null_row_of (extension id t m) = null_row_of t
null_row_of (fixed_size_list t k n) = refl

-- bytes that are no text
pub no_text : (n : Bool) (bs : List ℕ) → (IsUtf8 bs → ⊥) → text_scalar n bs ≡ Err error.WrongType
no_text n bs never = rw (by (is_utf8 bs) (λ e. never (IsUtf8-from_is_utf8 bs e))) refl
  where
    by : (b : Bool) → (b ≡ true → ⊥) → b ≡ false
    by true h = absurd (h refl)
    by false h = refl

-- what a known type makes
pub fits_at : (t u : Term) (v : ValueTerm) (r : Row) → t ≡ u → row_of u v ≡ Some r → Fits u r → IsSome (fitting_row t v)
fits_at t u v r e here fits = ap (λ s. is_some (fitting_row s v)) e ∙ is_made u v r here fits

pub made_at : (t u : Term) (v : ValueTerm) (r : Row) (s : ScalarTerm) → t ≡ u → row_of u v ≡ Some r → Fits u r → s ≡ scalar_of t v → s ≡ typed u r
made_at t u v r s e here fits made = made ∙ ap (λ w. scalar_of w v) e ∙ makes u v r here fits

-- what a value that fits makes, and that one that does not makes nothing
pub is_scalar : (t u : Term) (v : ValueTerm) (s : ScalarTerm) (b : Bool) → b ≡ is_some (fitting_row u v) → u ≡ t → b ≡ true → s ≡ scalar_of t v → IsScalarOf t v (Ok s)
is_scalar t u v s b tested at passed made =
    let some : IsSome (fitting_row t v) = ap (λ w. is_some (fitting_row w v)) (sym at) ∙ sym tested ∙ passed in (
      ap (λ (z : ScalarTerm). z.dtype) made,
      (fitted t v some).0 ∙ ap (λ (z : ScalarTerm). Some z.row) (sym made),
      subst (λ (z : ScalarTerm). Fits t z.row) (sym made) (fitted t v some).1,
    )

pub is_refused : (t u : Term) (v : ValueTerm) (b : Bool) → b ≡ is_some (fitting_row u v) → u ≡ t → b ≡ false → IsScalarOf t v (Err error.DoesNotFit)
is_refused t u v b tested at failed = (refl, λ r here fits. true_is_false (sym (is_made t v r here fits) ∙ ap (λ w. is_some (fitting_row w v)) (sym at) ∙ sym tested ∙ failed))
  where
    true_is_false : true ≡ false → ⊥
    true_is_false e = absurd cc
