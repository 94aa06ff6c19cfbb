-- The laws of the columns inside a column.
--     parts-types       they have the types directly inside the column's
--     columns-place     field i of a struct is column i
--     parts-fit         their rows fit their types, where the column's do
--     passes-parts      a column passes where it is too large itself or one of these passes
use Rattle.std.specs.Prelude.{◌≡◌, ℕ, zero, suc, ◌+◌, Bool, true, false, List, [], ◌∷◌, ◌++◌, map, Option, Some, ◌||◌, refl}
use Rattle.std.specs.List.{AllByRecursion, flat_map, list_any}
use Rattle.std.proofs.Common.{ap, sym, subst, arith}
use Rattle.vortex_terms.specs.Term.{Term, null, boolean, primitive, decimal, utf8, binary, structure, list, extension, fixed_size_list, Fields, no_fields, field}
use Rattle.vortex_terms.specs.Types.{types_of, field_at, part_types}
use Rattle.vortex_terms.specs.Row.{Row, null_row, truth_row, whole_row, bytes_row, list_row, copies}
use Rattle.vortex_terms.specs.Fits.{Fits}
use Rattle.vortex_terms.specs.Default.{default_row}
use Rattle.vortex_terms.specs.Parts.{field_row, column, columns, inner_rows, fixed_inner_rows, parts, is_large, passes, fields_pass}
use Rattle.vortex_terms.specs.RowLaws.{default-fits, FitsFields-at, AllRows-list}

-- the rows of the column fit its type
abbrev pub AllFit : Term → List Row → Type 0
AllFit t rs = AllByRecursion (Fits t) rs

abbrev first_of_pair : Term × List Row → Term
first_of_pair p = p.0

-- ---- types

columns-types : (fs : Fields) (i : ℕ) (rs : List Row)
    → map first_of_pair (columns fs i rs) ≡ types_of fs
columns-types no_fields i rs = refl
columns-types (field x t fs) i rs = ap (λ ts. t ∷ ts) (columns-types fs (i + 1) rs)

pub parts-types : (t : Term) (rs : List Row) → map first_of_pair (parts t rs) ≡ part_types t
parts-types (structure fs n) rs = columns-types fs 0 rs
parts-types (list t n) rs = refl
parts-types (extension id t m) rs = refl
parts-types (fixed_size_list t k n) rs = refl
parts-types null rs = refl
parts-types (boolean n) rs = refl
parts-types (primitive k n) rs = refl
parts-types (decimal p s n) rs = refl
parts-types (utf8 n) rs = refl
parts-types (binary n) rs = refl

-- ---- the rows fit

field_row-fits : (fs : Fields) (n : Bool) (i : ℕ) (t : Term) (r : Row) → field_at fs i ≡ Some t
    → Fits (structure fs n) r → Fits t (field_row t i r)
field_row-fits fs n i t null_row e f = default-fits t
field_row-fits fs n i t (list_row rs) e f = FitsFields-at fs rs i t (default_row t) f e
field_row-fits fs n i t (truth_row b) e f = absurd f
field_row-fits fs n i t (whole_row z) e f = absurd f
field_row-fits fs n i t (bytes_row bs) e f = absurd f

pub column-fits : (fs : Fields) (n : Bool) (i : ℕ) (t : Term) (rs : List Row)
    → field_at fs i ≡ Some t → AllFit (structure fs n) rs → AllFit t (column t i rs)
column-fits fs n i t [] e a = tt
column-fits fs n i t (r ∷ rs) e a = (field_row-fits fs n i t r e a.0, column-fits fs n i t rs e a.1)

columns-fit : (fs : Fields) (i : ℕ) (rs : List Row)
    → ((j : ℕ) (t : Term) → field_at fs j ≡ Some t → AllFit t (column t (i + j) rs))
    → AllByRecursion (λ p. AllFit p.0 p.1) (columns fs i rs)
columns-fit no_fields i rs fit = tt
columns-fit (field x t fs) i rs fit =
    let here : i + 0 ≡ i = omega arith in (
      subst (λ k. AllFit t (column t k rs)) here (fit 0 t refl),
      columns-fit fs (i + 1) rs
          (λ j u e. let there : i + suc j
          ≡ (i + 1) + j = omega arith in subst (λ k. AllFit u (column u k rs)) there
          (fit (suc j) u e)),
    )

joined-fit : (t : Term) (rs ss : List Row) → AllFit t rs → AllFit t ss → AllFit t (rs ++ ss)
joined-fit t [] ss a b = b
joined-fit t (r ∷ rs) ss a b = (a.0, joined-fit t rs ss a.1 b)

inner-fit : (t : Term) (n : Bool) (r : Row) → Fits (list t n) r → AllFit t (inner_rows r)
inner-fit t n null_row f = tt
inner-fit t n (list_row rs) f = AllRows-list (Fits t) rs f
inner-fit t n (truth_row b) f = tt
inner-fit t n (whole_row z) f = tt
inner-fit t n (bytes_row bs) f = tt

lists-fit : (t : Term) (n : Bool) (rs : List Row) → AllFit (list t n) rs
    → AllFit t (flat_map inner_rows rs)
lists-fit t n [] a = tt
lists-fit t n (r ∷ rs) a =
    joined-fit t (inner_rows r) (flat_map inner_rows rs) (inner-fit t n r a.0)
    (lists-fit t n rs a.1)

pub copies-fit : (t : Term) (k : ℕ) (r : Row) → Fits t r → AllFit t (copies k r)
unfolding copies
copies-fit t zero r f = tt
copies-fit t (suc k) r f = (f, copies-fit t k r f)

fixed_inner-fit : (t : Term) (k : ℕ) (n : Bool) (r : Row) → Fits (fixed_size_list t k n) r
    → AllFit t (fixed_inner_rows t k r)
fixed_inner-fit t k n (list_row rs) f = AllRows-list (Fits t) rs f.1
fixed_inner-fit t k n null_row f = copies-fit t k (default_row t) (default-fits t)
fixed_inner-fit t k n (truth_row b) f = absurd f
fixed_inner-fit t k n (whole_row z) f = absurd f
fixed_inner-fit t k n (bytes_row bs) f = absurd f

fixed_lists-fit : (t : Term) (k : ℕ) (n : Bool) (rs : List Row) → AllFit (fixed_size_list t k n) rs
    → AllFit t (flat_map (fixed_inner_rows t k) rs)
fixed_lists-fit t k n [] a = tt
fixed_lists-fit t k n (r ∷ rs) a =
    joined-fit t (fixed_inner_rows t k r) (flat_map (fixed_inner_rows t k) rs)
    (fixed_inner-fit t k n r a.0) (fixed_lists-fit t k n rs a.1)

stored-fit : (id : List ℕ) (t : Term) (m : Option (List ℕ)) (rs : List Row)
    → AllFit (extension id t m) rs → AllFit t rs
stored-fit id t m [] a = tt
stored-fit id t m (r ∷ rs) a = (a.0, stored-fit id t m rs a.1)

pub parts-fit : (t : Term) (rs : List Row) → AllFit t rs
    → AllByRecursion (λ p. AllFit p.0 p.1) (parts t rs)
parts-fit (structure fs n) rs a =
    columns-fit fs 0 rs (λ j t e. let start : 0 + j
    ≡ j = omega arith in subst (λ k. AllFit t (column t k rs)) (sym start)
    (column-fits fs n j t rs e a))
parts-fit (list t n) rs a = (lists-fit t n rs a, tt)
parts-fit (extension id t m) rs a = (stored-fit id t m rs a, tt)
parts-fit (fixed_size_list t k n) rs a = (fixed_lists-fit t k n rs a, tt)
parts-fit null rs a = tt
parts-fit (boolean n) rs a = tt
parts-fit (primitive k n) rs a = tt
parts-fit (decimal p s n) rs a = tt
parts-fit (utf8 n) rs a = tt
parts-fit (binary n) rs a = tt

-- ---- sizes

-- whether one of the columns passes
abbrev pub some_pass : List (Term × List Row) → Bool
some_pass ps = list_any (λ p. passes p.0 p.1) ps

fields_pass-columns : (fs : Fields) (i : ℕ) (rs : List Row)
    → fields_pass fs i rs ≡ some_pass (columns fs i rs)
fields_pass-columns no_fields i rs = refl
fields_pass-columns (field x t fs) i rs =
    ap (λ b. passes t (column t i rs) || b) (fields_pass-columns fs (i + 1) rs)

or-false : (b : Bool) → b ≡ b || false
or-false true = refl
or-false false = refl

pub passes-parts : (t : Term) (rs : List Row)
    → passes t rs ≡ is_large t rs || some_pass (parts t rs)
passes-parts (structure fs n) rs =
    ap (λ b. is_large (structure fs n) rs || b) (fields_pass-columns fs 0 rs)
passes-parts (list t n) rs =
    ap (λ b. is_large (list t n) rs || b) (or-false (passes t (flat_map inner_rows rs)))
passes-parts (extension id t m) rs =
    ap (λ b. is_large (extension id t m) rs || b) (or-false (passes t rs))
passes-parts (fixed_size_list t k n) rs =
    ap (λ b. is_large (fixed_size_list t k n) rs || b)
    (or-false (passes t (flat_map (fixed_inner_rows t k) rs)))
passes-parts null rs = or-false (is_large null rs)
passes-parts (boolean n) rs = or-false (is_large (boolean n) rs)
passes-parts (primitive k n) rs = or-false (is_large (primitive k n) rs)
passes-parts (decimal p s n) rs = or-false (is_large (decimal p s n) rs)
passes-parts (utf8 n) rs = or-false (is_large (utf8 n) rs)
passes-parts (binary n) rs = or-false (is_large (binary n) rs)
