-- The rows of values inside a list.
use Rattle.std.proofs.Common.{◌≡◌, ℕ, suc, List, [], ◌∷◌, ◌++◌, map, length, Bool, true, Some, refl, sym, ap, subst, ◌∙◌, IsTrue}
use Rattle.std.specs.List.{All}
use Rattle.std.specs.Option.{option_map}
use Rattle.std.proofs.lemmas.List.Elements.{All-head, All-tail}
use Rattle.vortex_terms.specs.Term.{Term, null, boolean, primitive, decimal, utf8, binary, structure, list, extension, fixed_size_list, Fields, no_fields, field}
use Rattle.vortex_terms.specs.Types.{types_of}
use Rattle.vortex_terms.specs.Row.{Row, null_row, truth_row, whole_row, bytes_row, list_row, row_count, AllRows}
use Rattle.vortex_terms.specs.Fits.{Fits, FitsFields}
use Rattle.vortex_terms.specs.Nullability.{with_nullability}
use Rattle.vortex_types.specs.Accessors.{fields_of}
use Rattle.vortex_types.specs.Predicates.{is_struct}
use Rattle.vortex_scalar_value.specs.Value.{ValueTerm, null_value, truth_value, whole_value, decimal_value, bytes_value, text_value, list_value, ValueTerms, no_values, value, values_from}
use Rattle.vortex_value_rows.specs.RowOf.{row_of, field_rows, rows_by, row_before}
use Rattle.vortex_scalar.specs.ScalarTerm.{ScalarTerm}
use Rattle.vortex_scalar.specs.Made.{rows_inside}
use Rattle.vortex_scalar.specs.inner.Kept.{AreIn, IsListOf}

-- one value more
pub one_more : (ss : List ScalarTerm) (vs : List ValueTerm) (s : ScalarTerm) (v : ValueTerm)
    → AreIn ss (values_from vs) → row_of s.dtype v ≡ Some s.row → Fits s.dtype s.row
    → AreIn (ss ++ s ∷ []) (values_from (vs ++ v ∷ []))
one_more [] [] s v are here fits = (here, fits, tt)
one_more (z ∷ ss) (w ∷ vs) s v are here fits = (are.0, are.1, one_more ss vs s v are.2 here fits)
one_more [] (w ∷ vs) s v are here fits = absurd are
one_more (z ∷ ss) [] s v are here fits = absurd are

-- of one type
every_row : (t : Term) (ss : List ScalarTerm) (vs : ValueTerms) → All (λ s. s.dtype ≡ t) ss → AreIn ss vs → rows_by (row_of t) vs ≡ Some (rows_inside ss)
every_row t [] no_values types are = refl
every_row t (s ∷ ss) (value v vs) types are =
    let here : row_of t v ≡ Some s.row = ap (λ u. row_of u v) (sym (All-head (λ (z : ScalarTerm). z.dtype ≡ t) s ss types)) ∙ are.0 in
    λ i. row_before (here i) (every_row t ss vs (All-tail (λ (z : ScalarTerm). z.dtype ≡ t) s ss types) are.2 i)
every_row t [] (value v vs) types are = absurd are
every_row t (s ∷ ss) no_values types are = absurd are

every_fits : (t : Term) (ss : List ScalarTerm) (vs : ValueTerms) → All (λ s. s.dtype ≡ t) ss → AreIn ss vs → AllRows (Fits t) (rows_inside ss)
every_fits t [] no_values types are = tt
every_fits t (s ∷ ss) (value v vs) types are = (
  subst (λ u. Fits u s.row) (All-head (λ (z : ScalarTerm). z.dtype ≡ t) s ss types) are.1,
  every_fits t ss vs (All-tail (λ (z : ScalarTerm). z.dtype ≡ t) s ss types) are.2,
)
every_fits t [] (value v vs) types are = absurd are
every_fits t (s ∷ ss) no_values types are = absurd are

pub count_inside : (ss : List ScalarTerm) → row_count (rows_inside ss) ≡ length ss
count_inside [] = refl
count_inside (s ∷ ss) = ap suc (count_inside ss)

first_same : (x y : Term) (xs ys : List Term) → x ∷ xs ≡ y ∷ ys → x ≡ y
first_same x y xs ys e = cc

rest_same : (x y : Term) (xs ys : List Term) → x ∷ xs ≡ y ∷ ys → xs ≡ ys
rest_same x y xs ys e = cc

-- of the types of fields
each_row : (fs : Fields) (ss : List ScalarTerm) (vs : ValueTerms) → map (λ s. s.dtype) ss ≡ types_of fs → AreIn ss vs → field_rows fs vs ≡ Some (rows_inside ss)
each_row no_fields [] no_values types are = refl
each_row (field x t fs) (s ∷ ss) (value v vs) types are =
    let here : row_of t v ≡ Some s.row = ap (λ u. row_of u v) (sym (first_same _ _ _ _ types)) ∙ are.0 in
    λ i. row_before (here i) (each_row fs ss vs (rest_same _ _ _ _ types) are.2 i)
each_row no_fields (s ∷ ss) vs types are = absurd cc
each_row (field x t fs) [] vs types are = absurd cc
each_row _ [] (value v vs) types are = absurd are
each_row _ (s ∷ ss) no_values types are = absurd are

each_fits : (fs : Fields) (ss : List ScalarTerm) (vs : ValueTerms) → map (λ s. s.dtype) ss ≡ types_of fs → AreIn ss vs → FitsFields fs (rows_inside ss)
each_fits no_fields [] no_values types are = tt
each_fits (field x t fs) (s ∷ ss) (value v vs) types are =
    (subst (λ u. Fits u s.row) (first_same _ _ _ _ types) are.1, each_fits fs ss vs (rest_same _ _ _ _ types) are.2)
each_fits no_fields (s ∷ ss) vs types are = absurd cc
each_fits (field x t fs) [] vs types are = absurd cc
each_fits _ [] (value v vs) types are = absurd are
each_fits _ (s ∷ ss) no_values types are = absurd are

-- ---- under the types of lists and structs

pub list_row_of : (t : Term) (n : Bool) (ss : List ScalarTerm) (v : ValueTerm) → All (λ s. s.dtype ≡ t) ss → IsListOf ss v
    → row_of (list t n) v ≡ Some (list_row (rows_inside ss))
list_row_of t n ss (list_value vs) types are = ap (option_map list_row) (every_row t ss vs types are)
list_row_of t n ss _ types are = absurd are

pub list_fits : (t : Term) (ss : List ScalarTerm) (v : ValueTerm) → All (λ s. s.dtype ≡ t) ss → IsListOf ss v → AllRows (Fits t) (rows_inside ss)
list_fits t ss (list_value vs) types are = every_fits t ss vs types are
list_fits t ss _ types are = absurd are

pub sized_row_of : (t : Term) (k : ℕ) (n : Bool) (ss : List ScalarTerm) (v : ValueTerm) → All (λ s. s.dtype ≡ t) ss → IsListOf ss v
    → row_of (fixed_size_list t k n) v ≡ Some (list_row (rows_inside ss))
sized_row_of t k n ss (list_value vs) types are = ap (option_map list_row) (every_row t ss vs types are)
sized_row_of t k n ss _ types are = absurd are

pub struct_row_of : (t : Term) (ss : List ScalarTerm) (v : ValueTerm) → IsTrue (is_struct t) → map (λ s. s.dtype) ss ≡ types_of (fields_of t) → IsListOf ss v
    → row_of t v ≡ Some (list_row (rows_inside ss))
struct_row_of (structure fs n) ss (list_value vs) struct types are = ap (option_map list_row) (each_row fs ss vs types are)
struct_row_of (structure fs n) ss _ struct types are = absurd are
struct_row_of _ ss v struct types are = absurd cc

pub struct_fits : (t : Term) (ss : List ScalarTerm) (v : ValueTerm) → IsTrue (is_struct t) → map (λ s. s.dtype) ss ≡ types_of (fields_of t) → IsListOf ss v
    → Fits t (list_row (rows_inside ss))
struct_fits (structure fs n) ss (list_value vs) struct types are = each_fits fs ss vs types are
struct_fits (structure fs n) ss _ struct types are = absurd are
struct_fits _ ss v struct types are = absurd cc

-- ---- under a nullable type

pub fits_nullable : (t : Term) (r : Row) → Fits t r → Fits (with_nullability t true) r
fits_nullable null null_row h = h
fits_nullable (boolean n) null_row h = refl
fits_nullable (boolean n) (truth_row b) h = h
fits_nullable (primitive k n) null_row h = refl
fits_nullable (primitive k n) (whole_row z) h = h
fits_nullable (decimal p s n) null_row h = refl
fits_nullable (decimal p s n) (whole_row z) h = h
fits_nullable (utf8 n) null_row h = refl
fits_nullable (utf8 n) (bytes_row bs) h = h
fits_nullable (binary n) null_row h = refl
fits_nullable (binary n) (bytes_row bs) h = h
fits_nullable (structure fs n) null_row h = refl
fits_nullable (structure fs n) (list_row rs) h = h
fits_nullable (list t n) null_row h = refl
fits_nullable (list t n) (list_row rs) h = h
fits_nullable (extension id t m) r h = fits_nullable t r h
fits_nullable (fixed_size_list t k n) null_row h = refl
fits_nullable (fixed_size_list t k n) (list_row rs) h = h
fits_nullable _ _ h = absurd h

pub row_nullable : (t : Term) (b : Bool) (v : ValueTerm) → row_of (with_nullability t b) v ≡ row_of t v
row_nullable null b v = refl
row_nullable (boolean n) b null_value = refl
row_nullable (boolean n) b (truth_value x) = refl
row_nullable (boolean n) b _ = refl
row_nullable (primitive k n) b null_value = refl
row_nullable (primitive k n) b (whole_value l z) = refl
row_nullable (primitive k n) b _ = refl
row_nullable (decimal p s n) b null_value = refl
row_nullable (decimal p s n) b (decimal_value w z) = refl
row_nullable (decimal p s n) b (bytes_value bs) = refl
row_nullable (decimal p s n) b _ = refl
row_nullable (utf8 n) b null_value = refl
row_nullable (utf8 n) b (bytes_value bs) = refl
row_nullable (utf8 n) b (text_value bs) = refl
row_nullable (utf8 n) b _ = refl
row_nullable (binary n) b null_value = refl
row_nullable (binary n) b (bytes_value bs) = refl
row_nullable (binary n) b (text_value bs) = refl
row_nullable (binary n) b _ = refl
row_nullable (structure fs n) b null_value = refl
row_nullable (structure fs n) b (list_value vs) = refl
row_nullable (structure fs n) b _ = refl
row_nullable (list t n) b null_value = refl
row_nullable (list t n) b (list_value vs) = refl
row_nullable (list t n) b _ = refl
row_nullable (extension id t m) b v = row_nullable t b v
row_nullable (fixed_size_list t k n) b null_value = refl
row_nullable (fixed_size_list t k n) b (list_value vs) = refl
row_nullable (fixed_size_list t k n) b _ = refl
