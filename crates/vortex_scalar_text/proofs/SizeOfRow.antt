-- A value takes as much as the row that it is.
use Rattle.std.proofs.Common.{◌≡◌, ℕ, ◌+◌, Bool, true, List, length, Option, Some, None, refl, sym, ap, ◌∙◌}
use Rattle.std.specs.Prelude.{sum_by}
use Rattle.std.specs.Option.{option_map, unwrap_or, IsSome}
use Rattle.std.proofs.lemmas.Option.{same_Some}
use Rattle.std.proofs.lemmas.List.Sums.{sum_by-cons}
use Rattle.vortex_terms.specs.Term.{Term, null, boolean, primitive, decimal, utf8, binary, structure, list, extension, fixed_size_list, Fields, no_fields, field}
use Rattle.vortex_terms.specs.Row.{Row, null_row, bytes_row, list_row, Rows, no_rows, row, row_list}
use Rattle.vortex_scalar_value.specs.Value.{ValueTerm, null_value, truth_value, whole_value, decimal_value, bytes_value, text_value, list_value, ValueTerms, no_values, value, value_list}
use Rattle.vortex_value_rows.specs.RowOf.{row_of, rows_by, field_rows, row_before, row_under}
use Rattle.vortex_scalar_text.specs.Size.{byte_size, field_sizes, bytes_count, inner_rows}
use Rattle.vortex_scalar_text.specs.inner.Sizes.{value_size, field_value_sizes, content_of}

-- a value that has a row is that row
pub row_is : (t : Term) (v : ValueTerm) → IsSome (row_of t v) → row_of t v ≡ Some (row_under t v)
row_is t v h = by (row_of t v) h
  where
    by : (o : Option Row) → IsSome o → o ≡ Some (unwrap_or o null_row)
    by (Some r) h = refl
    by None h = absurd (cc)

-- of texts and bytes
content_sized : (v : ValueTerm) (r : Row) → row_of (binary true) v ≡ Some r → length (content_of v) ≡ bytes_count r
content_sized null_value r e = ap bytes_count (same_Some null_row r e)
content_sized (bytes_value bs) r e = ap bytes_count (same_Some (bytes_row bs) r e)
content_sized (text_value bs) r e = ap bytes_count (same_Some (bytes_row bs) r e)
content_sized _ r e = absurd (cc)

text_same : (n : Bool) (v : ValueTerm) → row_of (utf8 n) v ≡ row_of (binary true) v
text_same n null_value = refl
text_same n (bytes_value bs) = refl
text_same n (text_value bs) = refl
text_same n (truth_value b) = refl
text_same n (whole_value k z) = refl
text_same n (decimal_value w z) = refl
text_same n (list_value vs) = refl

bytes_same : (n : Bool) (v : ValueTerm) → row_of (binary n) v ≡ row_of (binary true) v
bytes_same n null_value = refl
bytes_same n (bytes_value bs) = refl
bytes_same n (text_value bs) = refl
bytes_same n (truth_value b) = refl
bytes_same n (whole_value k z) = refl
bytes_same n (decimal_value w z) = refl
bytes_same n (list_value vs) = refl

-- of lists and structs
pub rows_of : (o : Option Rows) (r : Row) → option_map list_row o ≡ Some r → o ≡ Some (inner_rows r)
rows_of (Some rs) r e = ap (λ q. Some (inner_rows q)) (same_Some (list_row rs) r e)
rows_of None r e = absurd (cc)

none_inside : (r : Row) → Some null_row ≡ Some r → no_rows ≡ inner_rows r
none_inside r e = ap inner_rows (same_Some null_row r e)

-- a row and the rows behind it
fields_step : (x : List ℕ) (t : Term) (fs : Fields) (a b : ℕ) (o : Option Row) (os : Option Rows) (rows : Rows)
    → ((r : Row) → o ≡ Some r → a ≡ byte_size t r) → ((rs : Rows) → os ≡ Some rs → b ≡ field_sizes fs rs)
    → row_before o os ≡ Some rows → a + b ≡ field_sizes (field x t fs) rows
fields_step x t fs a b (Some r) (Some rs) rows first rest e =
    (λ i. first r refl i + rest rs refl i) ∙ ap (field_sizes (field x t fs)) (same_Some (row r rs) rows e)
fields_step x t fs a b (Some r) None rows first rest e = absurd (cc)
fields_step x t fs a b None os rows first rest e = absurd (cc)

list_step : (t : Term) (a b : ℕ) (o : Option Row) (os : Option Rows) (rows : Rows)
    → ((r : Row) → o ≡ Some r → a ≡ byte_size t r) → ((rs : Rows) → os ≡ Some rs → b ≡ sum_by (byte_size t) (row_list rs))
    → row_before o os ≡ Some rows → a + b ≡ sum_by (byte_size t) (row_list rows)
list_step t a b (Some r) (Some rs) rows first rest e =
    (λ i. first r refl i + rest rs refl i) ∙ sym (sum_by-cons (byte_size t) r (row_list rs)) ∙ ap (λ q. sum_by (byte_size t) (row_list q)) (same_Some (row r rs) rows e)
list_step t a b (Some r) None rows first rest e = absurd (cc)
list_step t a b None os rows first rest e = absurd (cc)

mutual
  pub size_of_row : (t : Term) (v : ValueTerm) (r : Row) → row_of t v ≡ Some r → value_size t v ≡ byte_size t r
  size_of_row null v r e = refl
  size_of_row (boolean n) v r e = refl
  size_of_row (primitive k n) v r e = refl
  size_of_row (decimal p s n) v r e = refl
  size_of_row (utf8 n) v r e = content_sized v r (sym (text_same n v) ∙ e)
  size_of_row (binary n) v r e = content_sized v r (sym (bytes_same n v) ∙ e)
  size_of_row (extension id t m) v r e = size_of_row t v r e
  size_of_row (structure fs n) (list_value vs) r e = fields_sized fs vs (inner_rows r) (rows_of (field_rows fs vs) r e)
  size_of_row (list t n) (list_value vs) r e = list_sized t vs (inner_rows r) (rows_of (rows_by (row_of t) vs) r e)
  size_of_row (fixed_size_list t k n) (list_value vs) r e = list_sized t vs (inner_rows r) (rows_of (rows_by (row_of t) vs) r e)
  size_of_row (structure no_fields n) null_value r e = ap (field_sizes no_fields) (none_inside r e)
  size_of_row (structure (field x t fs) n) null_value r e = ap (field_sizes (field x t fs)) (none_inside r e)
  size_of_row (list t n) null_value r e = ap (λ rs. sum_by (byte_size t) (row_list rs)) (none_inside r e)
  size_of_row (fixed_size_list t k n) null_value r e = ap (λ rs. sum_by (byte_size t) (row_list rs)) (none_inside r e)
  size_of_row (structure fs n) _ r e = absurd (cc)
  size_of_row (list t n) _ r e = absurd (cc)
  size_of_row (fixed_size_list t k n) _ r e = absurd (cc)

  fields_sized : (fs : Fields) (vs : ValueTerms) (rs : Rows) → field_rows fs vs ≡ Some rs → field_value_sizes fs (value_list vs) ≡ field_sizes fs rs
  fields_sized no_fields no_values rs e = ap (field_sizes no_fields) (same_Some no_rows rs e)
  fields_sized (field x t fs) (value v vs) rs e =
      fields_step x t fs _ _ (row_of t v) (field_rows fs vs) rs (λ r f. size_of_row t v r f) (λ qs f. fields_sized fs vs qs f) e
  fields_sized no_fields (value v vs) rs e = absurd (cc)
  fields_sized (field x t fs) no_values rs e = absurd (cc)

  list_sized : (t : Term) (vs : ValueTerms) (rs : Rows) → rows_by (row_of t) vs ≡ Some rs → sum_by (value_size t) (value_list vs) ≡ sum_by (byte_size t) (row_list rs)
  list_sized t no_values rs e = ap (λ q. sum_by (byte_size t) (row_list q)) (same_Some no_rows rs e)
  list_sized t (value v vs) rs e =
      sum_by-cons (value_size t) v (value_list vs)
      ∙ list_step t _ _ (row_of t v) (rows_by (row_of t) vs) rs (λ r f. size_of_row t v r f) (λ qs f. list_sized t vs qs f) e

-- the size of the row that a value is
pub size_under : (t : Term) (v : ValueTerm) → IsSome (row_of t v) → value_size t v ≡ byte_size t (row_under t v)
size_under t v h = size_of_row t v (row_under t v) (row_is t v h)
