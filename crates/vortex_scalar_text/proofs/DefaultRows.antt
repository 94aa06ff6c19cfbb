-- The default value of a type is of its default row, which fits.
use Rattle.std.proofs.Common.{◌≡◌, ℕ, zero, suc, ◌+◌, ◌<◌, ◌≤◌, Bool, true, false, List, [], ◌∷◌, ◌++◌, length, take, Option, Some, None, refl, sym, ap, ◌∙◌, arith, add-one}
use Rattle.std.specs.Prelude.{if◌then◌else◌, replicate, Result, Ok, Err, IfOk}
use Rattle.std.specs.Option.{option_map, IsSome}
use Rattle.std.proofs.lemmas.List.{take_all, replicate-append-replicate}
use Rattle.vortex_names.specs.Nullable.{is_nullable, nullability_of}
use Rattle.vortex_names.specs.declared.nullable.Nullability.{Nullability}
use Rattle.vortex_prelude.specs.Chain.{◌>>=◌}
use Rattle.vortex_terms.specs.Term.{Term, null, boolean, primitive, decimal, utf8, binary, structure, list, extension, fixed_size_list, Fields, no_fields, field}
use Rattle.vortex_terms.specs.Types.{field_at, field_count, nullable}
use Rattle.vortex_terms.specs.Row.{Row, list_row, rows_from, copies}
use Rattle.vortex_terms.specs.Default.{default_row, default_rows}
use Rattle.vortex_terms.specs.RowLaws.{default-fits}
use Rattle.vortex_terms.specs.Tests.{is_fitting}
use Rattle.vortex_terms.specs.TestLaws.{is_fitting-Decides}
use Rattle.vortex_scalar_value.specs.Value.{ValueTerm, null_value, list_value, values_from}
use Rattle.vortex_value_rows.specs.RowOf.{row_of, rows_by, field_rows, row_before, fitting_row}
use Rattle.vortex_scalar_text.specs.inner.Defaults.{default_value, default_values}

-- ---- the row

copies_rows : (t : Term) (v : ValueTerm) (r : Row) (k : ℕ) → row_of t v ≡ Some r
    → rows_by (row_of t) (values_from (replicate k v)) ≡ Some (rows_from (copies k r))
unfolding copies
copies_rows t v r zero e = refl
copies_rows t v r (suc k) e = λ i. row_before (e i) (copies_rows t v r k e i)

mutual
  pub default_has : (t : Term) → row_of t (default_value t) ≡ Some (default_row t)
  default_has null = refl
  default_has (boolean true) = refl
  default_has (boolean false) = refl
  default_has (primitive k true) = refl
  default_has (primitive k false) = refl
  default_has (decimal p s true) = refl
  default_has (decimal p s false) = refl
  default_has (utf8 true) = refl
  default_has (utf8 false) = refl
  default_has (binary true) = refl
  default_has (binary false) = refl
  default_has (structure fs true) = refl
  default_has (structure fs false) = ap (option_map list_row) (defaults_have fs)
  default_has (list t true) = refl
  default_has (list t false) = refl
  default_has (extension id t m) = default_has t
  default_has (fixed_size_list t k true) = refl
  default_has (fixed_size_list t k false) = ap (option_map list_row) (copies_rows t (default_value t) (default_row t) k (default_has t))

  defaults_have : (fs : Fields) → field_rows fs (values_from (default_values fs)) ≡ Some (default_rows fs)
  defaults_have no_fields = refl
  defaults_have (field x t fs) = λ i. row_before (default_has t i) (defaults_have fs i)

passed : (t : Term) (o : Option Row) (r : Row) → o ≡ Some r → is_fitting t r ≡ true → (o >>= λ q. if is_fitting t q then Some q else None) ≡ Some r
passed t o r e f = ap (λ p. p >>= λ q. if is_fitting t q then Some q else None) e ∙ ap (λ (b : Bool). if b then Some r else None) f

-- the default value fits, as the default row
pub default_fits : (t : Term) (v : ValueTerm) → v ≡ default_value t → fitting_row t v ≡ Some (default_row t)
default_fits t v e =
    ap (fitting_row t) e ∙ passed t (row_of t (default_value t)) (default_row t) (default_has t) ((is_fitting-Decides t (default_row t)).1 (default-fits t))

-- ---- what the code makes

-- null where the type is nullable
pub null_default : (t : Term) → nullable t ≡ true → null_value ≡ default_value t
null_default null e = refl
null_default (boolean true) e = refl
null_default (primitive k true) e = refl
null_default (decimal p s true) e = refl
null_default (utf8 true) e = refl
null_default (binary true) e = refl
null_default (structure fs true) e = refl
null_default (list t true) e = refl
null_default (extension id t m) e = null_default t e
null_default (fixed_size_list t k true) e = refl
null_default _ e = absurd (cc)

-- one more default
pub default_at : (fs : Fields) (i : ℕ) (v : ValueTerm) → Some v ≡ option_map default_value (field_at fs i)
    → take (i + 1) (default_values fs) ≡ take i (default_values fs) ++ v ∷ []
default_at no_fields i v e = absurd (cc)
default_at (field x t fs) zero v e = ap (λ w. w ∷ []) (same t v e)
  where
    same : (t : Term) (v : ValueTerm) → Some v ≡ Some (default_value t) → default_value t ≡ v
    same t v e = cc
default_at (field x t fs) (suc i) v e = rw add-one (ap (λ ws. default_value t ∷ ws) (sym (rw add-one refl) ∙ default_at fs i v e))

pub default_count : (fs : Fields) → length (default_values fs) ≡ field_count fs
default_count no_fields = refl
default_count (field x t fs) = ap suc (default_count fs)

pub field_there : (fs : Fields) (i : ℕ) → i < field_count fs → IsSome (field_at fs i)
field_there no_fields i h = absurd (omega arith)
field_there (field x t fs) zero h = refl
field_there (field x t fs) (suc i) h = field_there fs i (omega arith)

pub one_copy : (i : ℕ) (v : ValueTerm) → replicate (i + 1) v ≡ replicate i v ++ v ∷ []
one_copy i v = sym (replicate-append-replicate i 1 v)

pub copied : (vs : List ValueTerm) (v w : ValueTerm) (i : ℕ) → vs ≡ replicate i v → w ≡ v → vs ++ w ∷ [] ≡ replicate (i + 1) v
copied vs v w i e f = (λ j. e j ++ f j ∷ []) ∙ sym (one_copy i v)

pub all_copies : {E : Type 0} (o : Result ValueTerm E) (vs : List ValueTerm) (v : ValueTerm) (i k : ℕ)
    → IfOk o (λ w. w ≡ list_value (values_from vs)) → vs ≡ replicate i v → i ≡ k → IfOk o (λ w. w ≡ list_value (values_from (replicate k v)))
all_copies (Ok w) vs v i k h e f = h ∙ ap (λ ws. list_value (values_from ws)) (e ∙ ap (λ n. replicate n v) f)
all_copies (Err x) vs v i k h e f = tt

-- of a struct
pub all_defaults : {E : Type 0} (o : Result ValueTerm E) (vs : List ValueTerm) (fs : Fields) (i : ℕ)
    → IfOk o (λ w. w ≡ list_value (values_from vs)) → vs ≡ take i (default_values fs) → field_count fs ≤ i → IfOk o (λ w. w ≡ list_value (values_from (default_values fs)))
all_defaults (Ok w) vs fs i h e f =
    h ∙ ap (λ ws. list_value (values_from ws)) (e ∙ take_all i (default_values fs) (omega (arith, default_count fs, f)))
all_defaults (Err x) vs fs i h e f = tt

-- a flag and what it says
pub flag_says : (b : Bool) (n : Nullability) → n ≡ nullability_of b → is_nullable n ≡ true → b ≡ true
flag_says b n e f = by b (ap is_nullable (sym e) ∙ f)
  where
    by : (b : Bool) → is_nullable (nullability_of b) ≡ true → b ≡ true
    by true h = refl
    by false h = absurd (cc)

pub one_default : (fs : Fields) (vs : List ValueTerm) (v : ValueTerm) (i : ℕ) → vs ≡ take i (default_values fs) → Some v ≡ option_map default_value (field_at fs i)
    → vs ++ v ∷ [] ≡ take (i + 1) (default_values fs)
one_default fs vs v i e f = ap (λ ws. ws ++ v ∷ []) e ∙ sym (default_at fs i v f)
