-- The rows inside a list, as a list.
--     row_at-get, row_count-length     the row at a place, and how many there are
--     AllRows-All                      what holds of each row
--     FitsFields-places, -from_places  a struct's rows fit by place
--     default_rows-map                 the defaults of fields are those of their types
use Rattle.std.specs.Prelude.{◌≡◌, ◌↔◌, ℕ, zero, suc, List, [], ◌∷◌, map, length, Option, Some, None, refl}
use Rattle.std.specs.List.{All, AllByRecursion, slice_get}
use Rattle.std.proofs.lemmas.List.Elements.{All-from_recursion, recursion_from_All}
use Rattle.std.proofs.Common.{ap, subst, arith}
use Rattle.vortex_terms.specs.Term.{Term, Fields, no_fields, field}
use Rattle.vortex_terms.specs.Types.{types_of, field_count, field_at}
use Rattle.vortex_terms.specs.Row.{Row, Rows, no_rows, row, row_list, rows_from, row_count, row_at, AllRows}
use Rattle.vortex_terms.specs.Fits.{Fits, FitsFields}
use Rattle.vortex_terms.specs.Default.{default_row, default_rows}
use Rattle.vortex_terms.specs.RowLaws.{AllRows-list}

pub row_at-get : (rs : Rows) (i : ℕ) → row_at rs i ≡ slice_get (row_list rs) i
row_at-get no_rows i = refl
row_at-get (row r rs) zero = refl
row_at-get (row r rs) (suc i) = row_at-get rs i

pub row_at-from : (rs : List Row) (i : ℕ) → row_at (rows_from rs) i ≡ slice_get rs i
row_at-from [] i = refl
row_at-from (r ∷ rs) zero = refl
row_at-from (r ∷ rs) (suc i) = row_at-from rs i

pub row_count-from : (rs : List Row) → row_count (rows_from rs) ≡ length rs
row_count-from [] = refl
row_count-from (r ∷ rs) = ap suc (row_count-from rs)

AllRows-back : (P : Row → Type 0) (rs : Rows) → AllByRecursion P (row_list rs) → AllRows P rs
AllRows-back P no_rows a = tt
AllRows-back P (row r rs) a = (a.0, AllRows-back P rs a.1)

pub AllRows-All : (P : Row → Type 0) (rs : Rows) → AllRows P rs ↔ All P (row_list rs)
AllRows-All P rs = (
  λ a. All-from_recursion P (row_list rs) (AllRows-list P rs a),
  λ a. AllRows-back P rs (recursion_from_All P (row_list rs) a),
)

-- ---- fields by place

pub FitsFields-count : (fs : Fields) (rs : Rows) → FitsFields fs rs → row_count rs ≡ field_count fs
FitsFields-count no_fields no_rows f = refl
FitsFields-count (field x t fs) (row r rs) f = ap suc (FitsFields-count fs rs f.1)
FitsFields-count no_fields (row r rs) f = absurd f
FitsFields-count (field x t fs) no_rows f = absurd f

-- where rows fit the fields, the row at a place fits the type there
pub FitsFields-places : (fs : Fields) (rs : Rows) (i : ℕ) (t : Term) (r : Row) → FitsFields fs rs
    → field_at fs i ≡ Some t → row_at rs i ≡ Some r → Fits t r
FitsFields-places no_fields rs i t r f e g = absurd (cc)
FitsFields-places (field x u fs) no_rows i t r f e g = absurd f
FitsFields-places (field x u fs) (row s rs) zero t r f e g = moved u s f.0 e g
  where
    some_term : Term → Option Term → Term
    some_term d None = d
    some_term d (Some v) = v

    some_row : Row → Option Row → Row
    some_row d None = d
    some_row d (Some v) = v

    moved : (u : Term) (s : Row) → Fits u s → Some u ≡ Some t → Some s ≡ Some r → Fits t r
    moved u s f e g =
        subst (λ v. Fits v r) (ap (some_term u) e) (subst (λ q. Fits u q) (ap (some_row s) g) f)
FitsFields-places (field x u fs) (row s rs) (suc i) t r f e g =
    FitsFields-places fs rs i t r f.1 e g

-- and as many rows as fields, each of which fits the type at its place, fit the fields
pub FitsFields-from_places : (fs : Fields) (rs : Rows) → row_count rs ≡ field_count fs
    → ((i : ℕ) (t : Term) (r : Row) → field_at fs i ≡ Some t → row_at rs i ≡ Some r → Fits t r)
    → FitsFields fs rs
FitsFields-from_places no_fields no_rows n f = tt
FitsFields-from_places (field x t fs) (row r rs) n f =
    (f 0 t r refl refl, FitsFields-from_places fs rs (omega arith) (λ i u s e g. f (suc i) u s e g))
FitsFields-from_places no_fields (row r rs) n f = absurd (omega arith)
FitsFields-from_places (field x t fs) no_rows n f = absurd (omega arith)

pub default_rows-map : (fs : Fields) → row_list (default_rows fs) ≡ map default_row (types_of fs)
default_rows-map no_fields = refl
default_rows-map (field x t fs) = ap (λ rs. default_row t ∷ rs) (default_rows-map fs)
