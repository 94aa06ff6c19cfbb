-- What a row is cast to fits the target.
use Rattle.std.proofs.Common.{◌≡◌, ℕ, suc, ℤ, Bool, true, false, Option, Some, None, Result, Ok, Err, refl, sym, ap, subst, ◌∙◌, eqb-true}
use Rattle.std.specs.Prelude.{◌==◌, if◌then◌else◌, List}
use Rattle.vortex_number.specs.WholeKind.{ptype_of}
use Rattle.vortex_terms.specs.Term.{Term, null, boolean, primitive, decimal, utf8, binary, structure, list, extension, fixed_size_list, Fields, no_fields, field}
use Rattle.vortex_terms.specs.Types.{nullable, storage_of, field_count}
use Rattle.vortex_terms.specs.Equality.{is_same}
use Rattle.vortex_terms.specs.Row.{Row, null_row, truth_row, whole_row, bytes_row, list_row, Rows, no_rows, row, row_count, AllRows}
use Rattle.vortex_terms.specs.Fits.{Fits, FitsFields}
use Rattle.vortex_terms.specs.Tests.{is_in_range}
use Rattle.vortex_terms.specs.TestLaws.{is_in_range-Decides}
use Rattle.vortex_terms.specs.RowLaws.{Fits-null}
use Rattle.vortex_arithmetic.specs.Scaled.{rescaled, whole_of}
use Rattle.vortex_scalar_value.specs.declared.error.ScalarError.{ScalarError}
use Rattle.vortex_scalar_value.specs.declared.error.ScalarError.TheVariants as error
use Rattle.vortex_cast.specs.Cast.{in_range_or, listed, row_first, rows_cast, truth_cast, text_cast, bytes_cast, whole_cast, decimal_cast, list_cast, struct_cast, cast_of, fields_cast}
use Rattle.vortex_cast.proofs.Ranges.{rescaled_fits, in_range_of}

-- ---- answers

pub ok_same : {A : Type 0} (x y : A) → ◌≡◌ {A = Result A ScalarError} (Ok x) (Ok y) → x ≡ y
ok_same x y e = cc

pub err_ok : {A : Type 0} (e : ScalarError) (y : A) → ◌≡◌ {A = Result A ScalarError} (Err e) (Ok y) → ⊥
err_ok e y h = cc

-- ---- null, and the storage of the target

pub null_fits : (u : Term) (s : Row) → (if nullable u then Ok null_row else Err error.CastNull) ≡ Ok s → Fits u s
null_fits u s e = by (nullable u) refl e
  where
    by : (b : Bool) → nullable u ≡ b → ◌≡◌ {A = Result Row ScalarError} (if b then Ok null_row else Err error.CastNull) (Ok s) → Fits u s
    by true n e = subst (Fits u) (ok_same null_row s e) ((Fits-null u).1 n)
    by false n e = absurd (err_ok error.CastNull s e)

pub stored_fits : (u : Term) (s : Row) → Fits (storage_of u) s → Fits u s
stored_fits (extension id t m) s f = f
stored_fits null s f = f
stored_fits (boolean n) s f = f
stored_fits (primitive k n) s f = f
stored_fits (decimal p d n) s f = f
stored_fits (utf8 n) s f = f
stored_fits (binary n) s f = f
stored_fits (structure fs n) s f = f
stored_fits (list t n) s f = f
stored_fits (fixed_size_list t k n) s f = f

-- ---- leaves

truth_fits : (b : Bool) (v : Term) (s : Row) → truth_cast (truth_row b) v ≡ Ok s → Fits v s
truth_fits b (boolean m) s e = subst (Fits (boolean m)) (ok_same (truth_row b) s e) tt
truth_fits b null s e = absurd (err_ok _ s e)
truth_fits b (primitive k m) s e = absurd (err_ok _ s e)
truth_fits b (decimal p d m) s e = absurd (err_ok _ s e)
truth_fits b (utf8 m) s e = absurd (err_ok _ s e)
truth_fits b (binary m) s e = absurd (err_ok _ s e)
truth_fits b (structure fs m) s e = absurd (err_ok _ s e)
truth_fits b (list t m) s e = absurd (err_ok _ s e)
truth_fits b (extension id t m) s e = absurd (err_ok _ s e)
truth_fits b (fixed_size_list t k m) s e = absurd (err_ok _ s e)

text_fits : (bs : List ℕ) (v : Term) (s : Row) → Fits (utf8 false) (bytes_row bs) → text_cast (bytes_row bs) v ≡ Ok s → Fits v s
text_fits bs (utf8 m) s f e = subst (Fits (utf8 m)) (ok_same (bytes_row bs) s e) f
text_fits bs null s f e = absurd (err_ok _ s e)
text_fits bs (boolean m) s f e = absurd (err_ok _ s e)
text_fits bs (primitive k m) s f e = absurd (err_ok _ s e)
text_fits bs (decimal p d m) s f e = absurd (err_ok _ s e)
text_fits bs (binary m) s f e = absurd (err_ok _ s e)
text_fits bs (structure fs m) s f e = absurd (err_ok _ s e)
text_fits bs (list t m) s f e = absurd (err_ok _ s e)
text_fits bs (extension id t m) s f e = absurd (err_ok _ s e)
text_fits bs (fixed_size_list t k m) s f e = absurd (err_ok _ s e)

bytes_fit : (bs : List ℕ) (v : Term) (s : Row) → Fits (binary false) (bytes_row bs) → bytes_cast (bytes_row bs) v ≡ Ok s → Fits v s
bytes_fit bs (binary m) s f e = subst (Fits (binary m)) (ok_same (bytes_row bs) s e) f
bytes_fit bs null s f e = absurd (err_ok _ s e)
bytes_fit bs (boolean m) s f e = absurd (err_ok _ s e)
bytes_fit bs (primitive k m) s f e = absurd (err_ok _ s e)
bytes_fit bs (decimal p d m) s f e = absurd (err_ok _ s e)
bytes_fit bs (utf8 m) s f e = absurd (err_ok _ s e)
bytes_fit bs (structure fs m) s f e = absurd (err_ok _ s e)
bytes_fit bs (list t m) s f e = absurd (err_ok _ s e)
bytes_fit bs (extension id t m) s f e = absurd (err_ok _ s e)
bytes_fit bs (fixed_size_list t k m) s f e = absurd (err_ok _ s e)

whole_fits : (z : ℤ) (v : Term) (s : Row) → whole_cast (whole_row z) v ≡ Ok s → Fits v s
whole_fits z (primitive l m) s e = by (is_in_range l z) refl e
  where
    by : (b : Bool) → is_in_range l z ≡ b → ◌≡◌ {A = Result Row ScalarError} (if b then Ok (whole_row z) else Err error.CastRange) (Ok s) → Fits (primitive l m) s
    by true h e = subst (Fits (primitive l m)) (ok_same (whole_row z) s e) ((is_in_range-Decides l z).0 h)
    by false h e = absurd (err_ok _ s e)
whole_fits z null s e = absurd (err_ok _ s e)
whole_fits z (boolean m) s e = absurd (err_ok _ s e)
whole_fits z (decimal p d m) s e = absurd (err_ok _ s e)
whole_fits z (utf8 m) s e = absurd (err_ok _ s e)
whole_fits z (binary m) s e = absurd (err_ok _ s e)
whole_fits z (structure fs m) s e = absurd (err_ok _ s e)
whole_fits z (list t m) s e = absurd (err_ok _ s e)
whole_fits z (extension id t m) s e = absurd (err_ok _ s e)
whole_fits z (fixed_size_list t k m) s e = absurd (err_ok _ s e)

found_fits : (o : Option ℤ) (v : Term) (s : Row) → ((w : ℤ) → o ≡ Some w → Fits v (whole_row w)) → in_range_or o ≡ Ok s → Fits v s
found_fits (Some w) v s h e = subst (Fits v) (ok_same (whole_row w) s e) (h w refl)
found_fits None v s h e = absurd (err_ok _ s e)

decimal_fits : (d z : ℤ) (v : Term) (s : Row) → decimal_cast d (whole_row z) v ≡ Ok s → Fits v s
decimal_fits d z (decimal q o m) s e = found_fits (rescaled z d o) (decimal q o m) s (rescaled_fits z d o) e
decimal_fits d z (primitive l m) s e =
    found_fits (whole_of z d (ptype_of l)) (primitive l m) s (λ w h. (is_in_range-Decides l w).0 (in_range_of l z d w h)) e
decimal_fits d z null s e = absurd (err_ok _ s e)
decimal_fits d z (boolean m) s e = absurd (err_ok _ s e)
decimal_fits d z (utf8 m) s e = absurd (err_ok _ s e)
decimal_fits d z (binary m) s e = absurd (err_ok _ s e)
decimal_fits d z (structure fs m) s e = absurd (err_ok _ s e)
decimal_fits d z (list t m) s e = absurd (err_ok _ s e)
decimal_fits d z (extension id t m) s e = absurd (err_ok _ s e)
decimal_fits d z (fixed_size_list t k m) s e = absurd (err_ok _ s e)

-- ---- lists

-- a row before others, and of which rows
pub record First (a : Result Row ScalarError) (b : Result Rows ScalarError) (ss : Rows) : Type 0 where
  pub head : Row
  pub tail : Rows
  pub here : a ≡ Ok head
  pub rest : b ≡ Ok tail
  pub is : row head tail ≡ ss

pub first_found : (a : Result Row ScalarError) (b : Result Rows ScalarError) (ss : Rows) → row_first a b ≡ Ok ss → First a b ss
first_found (Ok r) (Ok rs) ss e = record { head = r; tail = rs; here = refl; rest = refl; is = ok_same (row r rs) ss e }
first_found (Ok r) (Err x) ss e = absurd (err_ok x ss e)
first_found (Err x) b ss e = absurd (err_ok x ss e)

-- a list that is cast, and of which rows
pub record Listed (a : Result Rows ScalarError) (s : Row) : Type 0 where
  pub rows : Rows
  pub found : a ≡ Ok rows
  pub is : list_row rows ≡ s

pub list_found : (a : Result Rows ScalarError) (s : Row) → listed a ≡ Ok s → Listed a s
list_found (Ok rs) s e = record { rows = rs; found = refl; is = ok_same (list_row rs) s e }
list_found (Err x) s e = absurd (err_ok x s e)

rows_fit : (f : Row → Result Row ScalarError) (P Q : Row → Type 0) → ((r s : Row) → P r → f r ≡ Ok s → Q s)
    → (rs ss : Rows) → AllRows P rs → rows_cast f rs ≡ Ok ss → AllRows Q ss
rows_fit f P Q h no_rows ss all e = subst (AllRows Q) (ok_same no_rows ss e) tt
rows_fit f P Q h (row r rs) ss all e =
    let first = first_found (f r) (rows_cast f rs) ss e in
    subst (AllRows Q) first.is (h r first.head all.0 first.here, rows_fit f P Q h rs first.tail all.1 first.rest)

rows_stay : (f : Row → Result Row ScalarError) (rs ss : Rows) → rows_cast f rs ≡ Ok ss → row_count ss ≡ row_count rs
rows_stay f no_rows ss e = sym (ap row_count (ok_same no_rows ss e))
rows_stay f (row r rs) ss e =
    let first = first_found (f r) (rows_cast f rs) ss e in
    sym (ap row_count first.is) ∙ ap suc (rows_stay f rs first.tail first.rest)

-- the elements of a list fit where each row that is cast does
list_fits : (f : Row → Term → Result Row ScalarError) (P : Row → Type 0) → ((u : Term) (r s : Row) → P r → f r u ≡ Ok s → Fits u s)
    → (rs : Rows) (v : Term) (s : Row) → AllRows P rs → list_cast f (list_row rs) v ≡ Ok s → Fits v s
list_fits f P h rs (list u m) s all e =
    let found = list_found (rows_cast (λ r. f r u) rs) s e in
    subst (Fits (list u m)) found.is (rows_fit (λ r. f r u) P (Fits u) (h u) rs found.rows all found.found)
list_fits f P h rs (fixed_size_list u k m) s all e = by (row_count rs == k) refl e
  where
    by : (b : Bool) → (row_count rs == k) ≡ b → ◌≡◌ {A = Result Row ScalarError} (if b then listed (rows_cast (λ r. f r u) rs) else Err error.CastLength) (Ok s) → Fits (fixed_size_list u k m) s
    by true n e =
        let found = list_found (rows_cast (λ r. f r u) rs) s e in
        let count = rows_stay (λ r. f r u) rs found.rows found.found ∙ eqb-true (row_count rs) k n in
        subst (Fits (fixed_size_list u k m)) found.is (count, rows_fit (λ r. f r u) P (Fits u) (h u) rs found.rows all found.found)
    by false n e = absurd (err_ok _ s e)
list_fits f P h rs null s all e = absurd (err_ok _ s e)
list_fits f P h rs (boolean m) s all e = absurd (err_ok _ s e)
list_fits f P h rs (primitive k m) s all e = absurd (err_ok _ s e)
list_fits f P h rs (decimal p d m) s all e = absurd (err_ok _ s e)
list_fits f P h rs (utf8 m) s all e = absurd (err_ok _ s e)
list_fits f P h rs (binary m) s all e = absurd (err_ok _ s e)
list_fits f P h rs (structure fs m) s all e = absurd (err_ok _ s e)
list_fits f P h rs (extension id t m) s all e = absurd (err_ok _ s e)

-- ---- structs

struct_fits : (n : ℕ) (f : Rows → Fields → Result Rows ScalarError) (rs : Rows)
    → ((gs : Fields) (ss : Rows) → n ≡ field_count gs → f rs gs ≡ Ok ss → FitsFields gs ss)
    → (v : Term) (s : Row) → struct_cast n f (list_row rs) v ≡ Ok s → Fits v s
struct_fits n f rs h (structure gs m) s e = by (n == field_count gs) refl e
  where
    by : (b : Bool) → (n == field_count gs) ≡ b → ◌≡◌ {A = Result Row ScalarError} (if b then listed (f rs gs) else Err error.CastFields) (Ok s) → Fits (structure gs m) s
    by true c e =
        let found = list_found (f rs gs) s e in
        subst (Fits (structure gs m)) found.is (h gs found.rows (eqb-true n (field_count gs) c) found.found)
    by false c e = absurd (err_ok _ s e)
struct_fits n f rs h null s e = absurd (err_ok _ s e)
struct_fits n f rs h (boolean m) s e = absurd (err_ok _ s e)
struct_fits n f rs h (primitive k m) s e = absurd (err_ok _ s e)
struct_fits n f rs h (decimal p d m) s e = absurd (err_ok _ s e)
struct_fits n f rs h (utf8 m) s e = absurd (err_ok _ s e)
struct_fits n f rs h (binary m) s e = absurd (err_ok _ s e)
struct_fits n f rs h (list t m) s e = absurd (err_ok _ s e)
struct_fits n f rs h (extension id t m) s e = absurd (err_ok _ s e)
struct_fits n f rs h (fixed_size_list t k m) s e = absurd (err_ok _ s e)

no_zero : (n : ℕ) → suc n ≡ 0 → ⊥
no_zero n e = cc

no_suc : (n : ℕ) → 0 ≡ suc n → ⊥
no_suc n e = cc

less_one : (m n : ℕ) → suc m ≡ suc n → m ≡ n
less_one m n e = cc

-- ---- extensions

same_fits : (f : Term → Result Row ScalarError) (t v : Term) (s : Row) → (f v ≡ Ok s → Fits v s)
    → (if is_same t v then f v else Err error.CastKind) ≡ Ok s → Fits v s
same_fits f t v s h e = by (is_same t v) e
  where
    by : (b : Bool) → ◌≡◌ {A = Result Row ScalarError} (if b then f v else Err error.CastKind) (Ok s) → Fits v s
    by true e = h e
    by false e = absurd (err_ok _ s e)

mutual
  pub fits : (t u : Term) (r s : Row) → Fits t r → cast_of t r u ≡ Ok s → Fits u s
  fits null u null_row s f e = null_fits u s e
  fits (boolean n) u null_row s f e = null_fits u s e
  fits (boolean n) u (truth_row b) s f e = stored_fits u s (truth_fits b (storage_of u) s e)
  fits (primitive k n) u null_row s f e = null_fits u s e
  fits (primitive k n) u (whole_row z) s f e = stored_fits u s (whole_fits z (storage_of u) s e)
  fits (decimal p d n) u null_row s f e = null_fits u s e
  fits (decimal p d n) u (whole_row z) s f e = stored_fits u s (decimal_fits d z (storage_of u) s e)
  fits (utf8 n) u null_row s f e = null_fits u s e
  fits (utf8 n) u (bytes_row bs) s f e = stored_fits u s (text_fits bs (storage_of u) s f e)
  fits (binary n) u null_row s f e = null_fits u s e
  fits (binary n) u (bytes_row bs) s f e = stored_fits u s (bytes_fit bs (storage_of u) s f e)
  fits (structure fs n) u null_row s f e = null_fits u s e
  fits (structure fs n) u (list_row rs) s f e =
      stored_fits u s (struct_fits (field_count fs) (fields_cast fs) rs (λ gs ss. fields_fit fs gs rs ss f) (storage_of u) s e)
  fits (list t n) u null_row s f e = null_fits u s e
  fits (list t n) u (list_row rs) s f e = stored_fits u s (list_fits (cast_of t) (Fits t) (fits t) rs (storage_of u) s f e)
  fits (fixed_size_list t k n) u null_row s f e = null_fits u s e
  fits (fixed_size_list t k n) u (list_row rs) s f e = stored_fits u s (list_fits (cast_of t) (Fits t) (fits t) rs (storage_of u) s f.1 e)
  fits (extension id t m) u null_row s f e = null_fits u s e
  fits (extension id t m) u (truth_row b) s f e =
      stored_fits u s (same_fits (cast_of t (truth_row b)) t (storage_of u) s (fits t (storage_of u) (truth_row b) s f) e)
  fits (extension id t m) u (whole_row z) s f e =
      stored_fits u s (same_fits (cast_of t (whole_row z)) t (storage_of u) s (fits t (storage_of u) (whole_row z) s f) e)
  fits (extension id t m) u (bytes_row bs) s f e =
      stored_fits u s (same_fits (cast_of t (bytes_row bs)) t (storage_of u) s (fits t (storage_of u) (bytes_row bs) s f) e)
  fits (extension id t m) u (list_row rs) s f e =
      stored_fits u s (same_fits (cast_of t (list_row rs)) t (storage_of u) s (fits t (storage_of u) (list_row rs) s f) e)
  fits _ u r s f e = absurd f

  fields_fit : (fs gs : Fields) (rs ss : Rows) → FitsFields fs rs → field_count fs ≡ field_count gs → fields_cast fs rs gs ≡ Ok ss → FitsFields gs ss
  fields_fit no_fields no_fields rs ss f n e = subst (FitsFields no_fields) (ok_same no_rows ss e) tt
  fields_fit no_fields (field y u gs) rs ss f n e = absurd (no_suc (field_count gs) n)
  fields_fit (field x t fs) no_fields rs ss f n e = absurd (no_zero (field_count fs) n)
  fields_fit (field x t fs) (field y u gs) (row r rs) ss f n e =
      let first = first_found (cast_of t r u) (fields_cast fs rs gs) ss e in
      subst (FitsFields (field y u gs)) first.is
      (fits t u r first.head f.0 first.here, fields_fit fs gs rs first.tail f.1 (less_one _ _ n) first.rest)
  fields_fit (field x t fs) (field y u gs) no_rows ss f n e = absurd f
