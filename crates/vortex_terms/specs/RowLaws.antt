-- The laws of rows: which form a type's rows have, that a default fits, and what is found at a
-- path.
--     AllRows-list, rows_from-list, ..     the rows inside a list, as a list
--     Fits-form                            a row that is not null has the form of its type
--     default-fits                         a default fits its type
--     value_at-null, value_at-fits         what a path finds in a null; what it finds is null or
--         fits the target
use Rattle.std.specs.Prelude.{◌≡◌, ℕ, zero, suc, pos, true, false, List, [], ◌∷◌, length, replicate, Option, Some, None, ◌⊎◌, refl}
use Rattle.std.specs.Bool.{IsTrue}
use Rattle.std.specs.List.{AllByRecursion}
use Rattle.std.specs.Option.{option_and_then, unwrap_or}
use Rattle.std.specs.Str.{IsUtf8}
use Rattle.std.proofs.Common.{lit<, ap, sym, ◌∙◌, subst, arith, inl, inr, ⊎_elim}
use Rattle.vortex_terms.specs.Term.{WholeKind, unsigned_8, unsigned_16, unsigned_32, unsigned_64, signed_8, signed_16, signed_32, signed_64, Term, null, boolean, primitive, decimal, utf8, binary, structure, list, extension, fixed_size_list, Fields, no_fields, field}
use Rattle.vortex_terms.specs.Types.{IsBytes, nullable, storage_of, place_of, field_at}
use Rattle.vortex_terms.specs.Row.{Row, null_row, truth_row, whole_row, bytes_row, list_row, Rows, no_rows, row, row_list, rows_from, row_count, row_at, AllRows, form_of, copies}
use Rattle.vortex_terms.specs.Fits.{InRange, Fits, FitsFields, row_form}
use Rattle.vortex_terms.specs.Default.{default_row, default_rows}
use Rattle.vortex_terms.specs.Path.{PathPart, by_name, element, named_type, named_row, target, value_at}

-- ---- the rows inside a list

pub rows_from-list : (rs : Rows) → rows_from (row_list rs) ≡ rs
rows_from-list no_rows = refl
rows_from-list (row r rs) = ap (row r) (rows_from-list rs)

pub row_list-from : (rs : List Row) → row_list (rows_from rs) ≡ rs
row_list-from [] = refl
row_list-from (r ∷ rs) = ap (λ ss. r ∷ ss) (row_list-from rs)

pub length-row_list : (rs : Rows) → length (row_list rs) ≡ row_count rs
length-row_list no_rows = refl
length-row_list (row r rs) = ap suc (length-row_list rs)

pub AllRows-list : (P : Row → Type 0) (rs : Rows) → AllRows P rs → AllByRecursion P (row_list rs)
AllRows-list P no_rows a = tt
AllRows-list P (row r rs) a = (a.0, AllRows-list P rs a.1)

pub AllRows-from : (P : Row → Type 0) (rs : List Row) → AllByRecursion P rs
    → AllRows P (rows_from rs)
AllRows-from P [] a = tt
AllRows-from P (r ∷ rs) a = (a.0, AllRows-from P rs a.1)

-- ---- forms

pub Fits-form : (t : Term) (r : Row) → Fits t r → (r ≡ null_row) ⊎ (form_of r ≡ row_form t)
Fits-form t null_row f = inl refl
Fits-form (boolean n) (truth_row b) f = inr refl
Fits-form (primitive k n) (whole_row z) f = inr refl
Fits-form (decimal p s n) (whole_row z) f = inr refl
Fits-form (utf8 n) (bytes_row bs) f = inr refl
Fits-form (binary n) (bytes_row bs) f = inr refl
Fits-form (structure fs n) (list_row rs) f = inr refl
Fits-form (list t n) (list_row rs) f = inr refl
Fits-form (fixed_size_list t k n) (list_row rs) f = inr refl
Fits-form (extension id t m) r f = Fits-form t r f
Fits-form _ _ f = absurd f

-- null fits exactly the nullable types
pub Fits-null : (t : Term)
    → (Fits t null_row → IsTrue (nullable t)) × (IsTrue (nullable t) → Fits t null_row)
Fits-null null = (λ f. refl, λ n. tt)
Fits-null (boolean n) = (λ f. f, λ f. f)
Fits-null (primitive k n) = (λ f. f, λ f. f)
Fits-null (decimal p s n) = (λ f. f, λ f. f)
Fits-null (utf8 n) = (λ f. f, λ f. f)
Fits-null (binary n) = (λ f. f, λ f. f)
Fits-null (structure fs n) = (λ f. f, λ f. f)
Fits-null (list t n) = (λ f. f, λ f. f)
Fits-null (extension id t m) = Fits-null t
Fits-null (fixed_size_list t k n) = (λ f. f, λ f. f)

-- ---- defaults

InRange-zero : (k : WholeKind) → InRange k (pos 0)
InRange-zero unsigned_8 = (record { le = tt }, record { lt = tt })
InRange-zero unsigned_16 = (record { le = tt }, record { lt = tt })
InRange-zero unsigned_32 = (record { le = tt }, record { lt = tt })
InRange-zero unsigned_64 = (record { le = tt }, record { lt = tt })
InRange-zero signed_8 = record { sfits = lit< tt }
InRange-zero signed_16 = record { sfits = lit< tt }
InRange-zero signed_32 = record { sfits = lit< tt }
InRange-zero signed_64 = record { sfits = lit< tt }

IsUtf8-none : IsUtf8 []
IsUtf8-none = ([], (refl, refl))

IsBytes-none : IsBytes []
IsBytes-none k d h = absurd (omega arith)

pub copies-are : (k : ℕ) (r : Row) → copies k r ≡ replicate k r
unfolding copies
copies-are k r = refl

pub copies-count : (k : ℕ) (r : Row) → row_count (rows_from (copies k r)) ≡ k
unfolding copies
copies-count zero r = refl
copies-count (suc k) r = ap suc (copies-count k r)

pub copies-all : (P : Row → Type 0) (k : ℕ) (r : Row) → P r → AllRows P (rows_from (copies k r))
unfolding copies
copies-all P zero r h = tt
copies-all P (suc k) r h = (h, copies-all P k r h)

mutual
  pub default-fits : (t : Term) → Fits t (default_row t)
  default-fits null = tt
  default-fits (boolean true) = refl
  default-fits (boolean false) = tt
  default-fits (primitive k true) = refl
  default-fits (primitive k false) = InRange-zero k
  default-fits (decimal p s true) = refl
  default-fits (decimal p s false) = record { sfits = lit< tt }
  default-fits (utf8 true) = refl
  default-fits (utf8 false) = IsUtf8-none
  default-fits (binary true) = refl
  default-fits (binary false) = IsBytes-none
  default-fits (structure fs true) = refl
  default-fits (structure fs false) = defaults-fit fs
  default-fits (list t true) = refl
  default-fits (list t false) = tt
  default-fits (extension id t m) = default-fits t
  default-fits (fixed_size_list t k true) = refl
  default-fits (fixed_size_list t k false) =
      (copies-count k (default_row t), copies-all (Fits t) k (default_row t) (default-fits t))

  pub defaults-fit : (fs : Fields) → FitsFields fs (default_rows fs)
  defaults-fit no_fields = tt
  defaults-fit (field x t fs) = (default-fits t, defaults-fit fs)

-- ---- paths

named_row-null : (t : Term) (part : PathPart) → named_row t null_row part ≡ null_row
named_row-null (structure fs n) (by_name x) = refl
named_row-null (structure fs n) element = refl
named_row-null null part = refl
named_row-null (boolean n) part = refl
named_row-null (primitive k n) part = refl
named_row-null (decimal p s n) part = refl
named_row-null (utf8 n) part = refl
named_row-null (binary n) part = refl
named_row-null (list t n) part = refl
named_row-null (extension id t m) part = refl
named_row-null (fixed_size_list t k n) part = refl

pub value_at-null : (t : Term) (path : List PathPart) → value_at t null_row path ≡ null_row
value_at-null t [] = refl
value_at-null t (part ∷ path) =
    ap (λ r. value_at (unwrap_or (named_type t part) null) r path) (named_row-null t part)
    ∙ value_at-null (unwrap_or (named_type t part) null) path

-- the row at a place fits the type of the field there
pub FitsFields-at : (fs : Fields) (rs : Rows) (i : ℕ) (t : Term) (d : Row) → FitsFields fs rs
    → field_at fs i ≡ Some t → Fits t (unwrap_or (row_at rs i) d)
FitsFields-at no_fields rs i t d f e = cc
FitsFields-at (field x u fs) (row r rs) zero t d f e =
    subst (λ v. Fits v r) (ap (λ o. unwrap_or o u) e) f.0
FitsFields-at (field x u fs) (row r rs) (suc i) t d f e = FitsFields-at fs rs i t d f.1 e
FitsFields-at (field x u fs) no_rows i t d f e = absurd f

none-then : (part_path : Term → Option Term) (u : Term) → option_and_then part_path None ≡ Some u
    → ⊥
none-then f u e = cc

-- the value of a field is null or fits the field's type
named_row-fits : (t : Term) (r : Row) (part : PathPart) (u : Term) → named_type t part ≡ Some u
    → Fits t r → (named_row t r part ≡ null_row) ⊎ Fits u (named_row t r part)
named_row-fits (structure fs n) null_row (by_name x) u e f = inl refl
named_row-fits (structure fs n) (list_row rs) (by_name x) u e f = by (place_of fs x) e
  where
    by : (o : Option ℕ) → option_and_then (field_at fs) o ≡ Some u
        → (unwrap_or (option_and_then (row_at rs) o) null_row ≡ null_row) ⊎ Fits u
        (unwrap_or (option_and_then (row_at rs) o) null_row)
    by None h = inl refl
    by (Some i) h = inr (FitsFields-at fs rs i u null_row f h)
named_row-fits (structure fs n) (truth_row b) part u e f = absurd f
named_row-fits (structure fs n) (whole_row z) part u e f = absurd f
named_row-fits (structure fs n) (bytes_row bs) part u e f = absurd f
named_row-fits (structure fs n) _ element u e f = cc
named_row-fits _ r part u e f = cc

-- a step further, seen by the types under the names
pub target-step : (t : Term) (part : PathPart) (path : List PathPart) (u : Term)
    → target t (part ∷ path) ≡ Some u
    → (v : Term) × ((named_type t part ≡ Some v) × (target v path ≡ Some u))
target-step t part path u e = by (named_type t part) refl
  where
    by : (o : Option Term) → named_type t part ≡ o
        → (v : Term) × ((named_type t part ≡ Some v) × (target v path ≡ Some u))
    by None h =
        absurd (none-then (λ v. target v path) u
        (ap (option_and_then (λ v. target v path)) (sym h) ∙ e))
    by (Some v) h = (v, (h, ap (option_and_then (λ w. target w path)) (sym h) ∙ e))

pub storage-fits : (t : Term) (r : Row) → Fits t r → Fits (storage_of t) r
storage-fits (extension id t m) r f = f
storage-fits null r f = f
storage-fits (boolean n) r f = f
storage-fits (primitive k n) r f = f
storage-fits (decimal p s n) r f = f
storage-fits (utf8 n) r f = f
storage-fits (binary n) r f = f
storage-fits (structure fs n) r f = f
storage-fits (list t n) r f = f
storage-fits (fixed_size_list t k n) r f = f

-- what a path finds in a row of the type is null or fits the target
pub value_at-fits : (t : Term) (r : Row) (path : List PathPart) (u : Term) → target t path ≡ Some u
    → Fits t r → (value_at t r path ≡ null_row) ⊎ Fits u (value_at t r path)
value_at-fits t r [] u e f =
    inr (subst (λ v. Fits v r) (ap (λ o. unwrap_or o u) e) (storage-fits t r f))
value_at-fits t r (part ∷ path) u e f =
    let step = target-step t part path u e in
    let here = named_row-fits t r part step.0 step.1.0 f in
    let next : ◌≡◌ {A = Term} step.0 (unwrap_or (named_type t part) null) = sym
    (ap (λ o. unwrap_or o null) step.1.0) in
    subst (λ v. (value_at v (named_row t r part) path ≡ null_row) ⊎ Fits u
    (value_at v (named_row t r part) path)) next
    (⊎_elim
    (λ none. inl (ap (λ s. value_at step.0 s path) none ∙ value_at-null step.0 path))
    (λ fits. value_at-fits step.0 (named_row t r part) path u step.1.1 fits)
    here)
