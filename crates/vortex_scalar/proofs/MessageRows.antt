-- What reading a value that was written leaves of its row, and how deep a value nests that has a row.
--     row_stays         the row is the same
--     row_levels        no deeper than the type
use Rattle.std.proofs.Common.{◌≡◌, ℕ, suc, ◌+◌, ◌≤◌, max, ℤ, true, Option, Some, None, refl, ap, arith}
use Rattle.std.specs.Prelude.{option_map}
use Rattle.std.specs.Int.{w8, w16, w32, w64, w128}
use Rattle.vortex_number.specs.Format.{signed, fits, le_bytes}
use Rattle.vortex_number.specs.inner.FormatLaws.{number_with_bytes-bytes_of}
use Rattle.vortex_value.specs.DecimalValue.{decimal_format}
use Rattle.vortex_value.specs.declared.decimal.DecimalValueType.{DecimalValueType}
use Rattle.vortex_value.specs.declared.decimal.DecimalValueType.TheVariants as width
use Rattle.vortex_terms.specs.Term.{Term, null, boolean, primitive, decimal, utf8, binary, structure, list, extension, fixed_size_list, Fields, no_fields, field}
use Rattle.vortex_terms.specs.Types.{levels, fields_levels}
use Rattle.vortex_terms.specs.Row.{Row, whole_row, list_row, Rows}
use Rattle.vortex_scalar_value.specs.Value.{ValueTerm, null_value, truth_value, whole_value, decimal_value, bytes_value, text_value, list_value, ValueTerms, no_values, value, value_levels, values_levels}
use Rattle.vortex_scalar_value.specs.ValueBytes.{decimal_bytes, as_read, all_as_read}
use Rattle.vortex_scalar_value.specs.Held.{IsHeld, AreHeld}
use Rattle.vortex_value_rows.specs.RowOf.{number_of_bytes, row_before, row_of, rows_by, field_rows}

-- ---- the row

-- what there is stays
abbrev Stays : {A : Type 0} → Option A → Option A → Type 0
Stays None p = Unit {0}
Stays (Some x) p = p ≡ Some x

itself : {A : Type 0} (o : Option A) → Stays o o
itself None = tt
itself (Some x) = refl

mapped : {A B : Type 0} (f : A → B) (o p : Option A) → Stays o p → Stays (option_map f o) (option_map f p)
mapped f None p h = tt
mapped f (Some x) p h = ap (option_map f) h

together : (o p : Option Row) (os ps : Option Rows) → Stays o p → Stays os ps → Stays (row_before o os) (row_before p ps)
together None p os ps h hs = tt
together (Some r) p None ps h hs = tt
together (Some r) p (Some rs) ps h hs = λ i. row_before (h i) (hs i)

number_back : (w : DecimalValueType) (z : ℤ) → fits (decimal_format w) z ≡ true → number_of_bytes (decimal_bytes w z) ≡ Some z
unfolding le_bytes
number_back width.I8 z h = ap (λ n. Some n) (number_with_bytes-bytes_of (signed w8) z h)
number_back width.I16 z h = ap (λ n. Some n) (number_with_bytes-bytes_of (signed w16) z h)
number_back width.I32 z h = ap (λ n. Some n) (number_with_bytes-bytes_of (signed w32) z h)
number_back width.I64 z h = ap (λ n. Some n) (number_with_bytes-bytes_of (signed w64) z h)
number_back width.I128 z h = ap (λ n. Some n) (number_with_bytes-bytes_of (signed w128) z h)

mutual
  stays : (t : Term) (v : ValueTerm) → IsHeld v → Stays (row_of t v) (row_of t (as_read v))
  stays null null_value h = refl
  stays (boolean n) null_value h = refl
  stays (boolean n) (truth_value b) h = refl
  stays (primitive k n) null_value h = refl
  stays (primitive k n) (whole_value l z) h = refl
  stays (decimal p s n) null_value h = refl
  stays (decimal p s n) (decimal_value w z) h = ap (option_map whole_row) (number_back w z h)
  stays (decimal p s n) (bytes_value bs) h = itself (option_map whole_row (number_of_bytes bs))
  stays (utf8 n) null_value h = refl
  stays (utf8 n) (bytes_value bs) h = refl
  stays (utf8 n) (text_value bs) h = refl
  stays (binary n) null_value h = refl
  stays (binary n) (bytes_value bs) h = refl
  stays (binary n) (text_value bs) h = refl
  stays (structure fs n) null_value h = refl
  stays (structure fs n) (list_value vs) h = mapped list_row (field_rows fs vs) (field_rows fs (all_as_read vs)) (fields_stay fs vs h)
  stays (list t n) null_value h = refl
  stays (list t n) (list_value vs) h = mapped list_row (rows_by (row_of t) vs) (rows_by (row_of t) (all_as_read vs)) (rows_stay t vs h)
  stays (extension id t m) v h = stays t v h
  stays (fixed_size_list t k n) null_value h = refl
  stays (fixed_size_list t k n) (list_value vs) h = mapped list_row (rows_by (row_of t) vs) (rows_by (row_of t) (all_as_read vs)) (rows_stay t vs h)
  stays _ _ h = tt

  rows_stay : (t : Term) (vs : ValueTerms) → AreHeld vs → Stays (rows_by (row_of t) vs) (rows_by (row_of t) (all_as_read vs))
  rows_stay t no_values h = refl
  rows_stay t (value v vs) h = together (row_of t v) (row_of t (as_read v)) (rows_by (row_of t) vs) (rows_by (row_of t) (all_as_read vs)) (stays t v h.0) (rows_stay t vs h.1)

  fields_stay : (fs : Fields) (vs : ValueTerms) → AreHeld vs → Stays (field_rows fs vs) (field_rows fs (all_as_read vs))
  fields_stay no_fields no_values h = refl
  fields_stay (field x t fs) (value v vs) h = together (row_of t v) (row_of t (as_read v)) (field_rows fs vs) (field_rows fs (all_as_read vs)) (stays t v h.0) (fields_stay fs vs h.1)
  fields_stay _ _ h = tt

known : {A : Type 0} (o p : Option A) (x : A) → Stays o p → o ≡ Some x → p ≡ Some x
known None p x h e = absurd cc
known (Some y) p x h e = cc

pub row_stays : (t : Term) (v : ValueTerm) (r : Row) → IsHeld v → row_of t v ≡ Some r → row_of t (as_read v) ≡ Some r
row_stays t v r held e = known (row_of t v) (row_of t (as_read v)) r (stays t v held) e

-- ---- levels

-- at most so much, where there is something
abbrev AtMost : {A : Type 0} → Option A → ℕ → ℕ → Type 0
AtMost None n m = Unit {0}
AtMost (Some x) n m = n ≤ m

one_more : {A B : Type 0} (f : A → B) (o : Option A) (n m : ℕ) → AtMost o n m → AtMost (option_map f o) (suc n) (1 + m)
one_more f None n m h = tt
one_more f (Some x) n m h = omega (arith, h)

one_level : {A B : Type 0} (f : A → B) (o : Option A) → AtMost (option_map f o) 1 1
one_level f None = tt
one_level f (Some x) = omega arith

inside : (o : Option Row) (n m : ℕ) → AtMost o n m → AtMost o n (1 + m)
inside None n m h = tt
inside (Some x) n m h = omega (arith, h)

deepest : (o : Option Row) (os : Option Rows) (a b m k : ℕ) → AtMost o a m → AtMost os b k → AtMost (row_before o os) (max a b) (max m k)
deepest None os a b m k h hs = tt
deepest (Some r) None a b m k h hs = tt
deepest (Some r) (Some rs) a b m k h hs = omega (arith, h, hs)

deepest_same : (o : Option Row) (os : Option Rows) (a b m : ℕ) → AtMost o a m → AtMost os b m → AtMost (row_before o os) (max a b) m
deepest_same None os a b m h hs = tt
deepest_same (Some r) None a b m h hs = tt
deepest_same (Some r) (Some rs) a b m h hs = omega (arith, h, hs)

mutual
  at_most : (t : Term) (v : ValueTerm) → AtMost (row_of t v) (value_levels v) (levels t)
  at_most null null_value = omega arith
  at_most (boolean n) null_value = omega arith
  at_most (boolean n) (truth_value b) = omega arith
  at_most (primitive k n) null_value = omega arith
  at_most (primitive k n) (whole_value l z) = omega arith
  at_most (decimal p s n) null_value = omega arith
  at_most (decimal p s n) (decimal_value w z) = omega arith
  at_most (decimal p s n) (bytes_value bs) = one_level whole_row (number_of_bytes bs)
  at_most (utf8 n) null_value = omega arith
  at_most (utf8 n) (bytes_value bs) = omega arith
  at_most (utf8 n) (text_value bs) = omega arith
  at_most (binary n) null_value = omega arith
  at_most (binary n) (bytes_value bs) = omega arith
  at_most (binary n) (text_value bs) = omega arith
  at_most (structure fs n) null_value = omega arith
  at_most (structure fs n) (list_value vs) = one_more list_row (field_rows fs vs) (values_levels vs) (fields_levels fs) (fields_at_most fs vs)
  at_most (list t n) null_value = omega arith
  at_most (list t n) (list_value vs) = one_more list_row (rows_by (row_of t) vs) (values_levels vs) (levels t) (rows_at_most t vs)
  at_most (extension id t m) v = inside (row_of t v) (value_levels v) (levels t) (at_most t v)
  at_most (fixed_size_list t k n) null_value = omega arith
  at_most (fixed_size_list t k n) (list_value vs) = one_more list_row (rows_by (row_of t) vs) (values_levels vs) (levels t) (rows_at_most t vs)
  at_most _ _ = tt

  rows_at_most : (t : Term) (vs : ValueTerms) → AtMost (rows_by (row_of t) vs) (values_levels vs) (levels t)
  rows_at_most t no_values = omega arith
  rows_at_most t (value v vs) = deepest_same (row_of t v) (rows_by (row_of t) vs) (value_levels v) (values_levels vs) (levels t) (at_most t v) (rows_at_most t vs)

  fields_at_most : (fs : Fields) (vs : ValueTerms) → AtMost (field_rows fs vs) (values_levels vs) (fields_levels fs)
  fields_at_most no_fields no_values = omega arith
  fields_at_most (field x t fs) (value v vs) = deepest (row_of t v) (field_rows fs vs) (value_levels v) (values_levels vs) (levels t) (fields_levels fs) (at_most t v) (fields_at_most fs vs)
  fields_at_most _ _ = tt

there : {A : Type 0} (o : Option A) (x : A) (n m : ℕ) → AtMost o n m → o ≡ Some x → n ≤ m
there None x n m h e = absurd cc
there (Some y) x n m h e = h

pub row_levels : (t : Term) (v : ValueTerm) (r : Row) → row_of t v ≡ Some r → value_levels v ≤ levels t
row_levels t v r e = there (row_of t v) r (value_levels v) (levels t) (at_most t v) e
