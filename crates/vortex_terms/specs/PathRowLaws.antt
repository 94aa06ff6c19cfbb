-- What a path finds in rows.
--     target-field, value_at-field        one name
--     target-first, value_at-first        the first of fields of one name
--     value_at-present                    what is found fits the target where no struct on the way
--         may be null
use Rattle.std.specs.Prelude.{◌≡◌, ℕ, suc, Bool, true, false, not, cond, List, [], ◌∷◌, Option, Some, None, refl}
use Rattle.std.specs.Option.{option_map, option_map_or, option_and_then, unwrap_or}
use Rattle.std.specs.Cmp.{first_so, second_so}
use Rattle.std.specs.Cmp.Lexicographic.{bytes_decides}
use Rattle.std.proofs.Common.{ap, sym, ◌∙◌, subst, true≢false}
use Rattle.vortex_terms.specs.Term.{Term, null, structure, Fields, field}
use Rattle.vortex_terms.specs.Types.{nullable, storage_of, place_of, field_at, field_named}
use Rattle.vortex_terms.specs.Row.{Row, null_row, truth_row, whole_row, bytes_row, list_row, Rows, row, row_at}
use Rattle.vortex_terms.specs.Fits.{Fits}
use Rattle.vortex_terms.specs.Path.{PathPart, by_name, element, named_type, named_row, target, value_at, is_never_null}
use Rattle.vortex_terms.specs.RowLaws.{FitsFields-at, target-step, storage-fits}

-- ---- one name

-- one name leads to the first field of that name, an extension being seen as its storage
pub target-field : (fs : Fields) (n : Bool) (x : List ℕ)
    → target (structure fs n) (by_name x ∷ []) ≡ option_map storage_of (field_named fs x)
target-field fs n x = by (field_named fs x)
  where
    by : (o : Option Term) → option_and_then (λ u. Some (storage_of u)) o ≡ option_map storage_of o
    by None = refl
    by (Some u) = refl

-- it finds the row at that field's place
pub value_at-field : (fs : Fields) (n : Bool) (x : List ℕ) (rs : Rows) (i : ℕ)
    → place_of fs x ≡ Some i
    → value_at (structure fs n) (list_row rs) (by_name x ∷ []) ≡ unwrap_or (row_at rs i) null_row
value_at-field fs n x rs i e = ap (λ o. unwrap_or (option_and_then (row_at rs) o) null_row) e

-- and null where no field has the name
pub value_at-missing : (fs : Fields) (n : Bool) (x : List ℕ) (rs : Rows) → place_of fs x ≡ None
    → value_at (structure fs n) (list_row rs) (by_name x ∷ []) ≡ null_row
value_at-missing fs n x rs e = ap (λ o. unwrap_or (option_and_then (row_at rs) o) null_row) e

-- ---- equal names

place-first : (x : List ℕ) (t : Term) (fs : Fields) → place_of (field x t fs) x ≡ Some 0
place-first x t fs =
    ap (λ b. cond b (Some 0) (option_map suc (place_of fs x))) ((bytes_decides x x).1 refl)

-- whatever fields follow, also of the same name, the first is found
pub target-first : (x : List ℕ) (t : Term) (fs : Fields) (n : Bool)
    → target (structure (field x t fs) n) (by_name x ∷ []) ≡ Some (storage_of t)
target-first x t fs n =
    target-field (field x t fs) n x
    ∙ ap (λ o. option_map storage_of (option_and_then (field_at (field x t fs)) o))
    (place-first x t fs)

pub value_at-first : (x : List ℕ) (t : Term) (fs : Fields) (n : Bool) (r : Row) (rs : Rows)
    → value_at (structure (field x t fs) n) (list_row (row r rs)) (by_name x ∷ []) ≡ r
value_at-first x t fs n r rs = value_at-field (field x t fs) n x (row r rs) 0 (place-first x t fs)

-- ---- where nothing on the way may be null

not-null : (b : Bool) → not b ≡ true → b ≡ false
not-null true h = sym h
not-null false h = refl

-- the row of a field of a struct that is not null
named_row-present : (t : Term) (r : Row) (part : PathPart) (u : Term) → nullable t ≡ false
    → named_type t part ≡ Some u → Fits t r → Fits u (named_row t r part)
named_row-present (structure fs n) null_row (by_name x) u h e f = absurd (true≢false (sym f ∙ h))
named_row-present (structure fs n) (list_row rs) (by_name x) u h e f = by (place_of fs x) e
  where
    by : (o : Option ℕ) → option_and_then (field_at fs) o ≡ Some u
        → Fits u (unwrap_or (option_and_then (row_at rs) o) null_row)
    by None g = absurd (cc)
    by (Some i) g = FitsFields-at fs rs i u null_row f g
named_row-present (structure fs n) (truth_row b) part u h e f = absurd f
named_row-present (structure fs n) (whole_row z) part u h e f = absurd f
named_row-present (structure fs n) (bytes_row bs) part u h e f = absurd f
named_row-present (structure fs n) _ element u h e f = absurd (cc)
named_row-present _ r part u h e f = absurd (cc)

pub value_at-present : (t : Term) (r : Row) (path : List PathPart) (u : Term)
    → is_never_null t path ≡ true → target t path ≡ Some u → Fits t r → Fits u (value_at t r path)
value_at-present t r [] u h e f =
    subst (λ v. Fits v r) (ap (λ o. unwrap_or o u) e) (storage-fits t r f)
value_at-present t r (part ∷ path) u h e f =
    let step = target-step t part path u e in
    let present = not-null (nullable t)
    (first_so (not (nullable t))
    (option_map_or (λ v. is_never_null v path) (named_type t part) false) h) in
    let rest = ap (λ o. option_map_or (λ v. is_never_null v path) o false) (sym step.1.0)
    ∙ second_so (not (nullable t))
    (option_map_or (λ v. is_never_null v path) (named_type t part) false) h in
    let next : ◌≡◌ {A = Term} step.0 (unwrap_or (named_type t part) null) = sym
    (ap (λ o. unwrap_or o null) step.1.0) in
    subst (λ v. Fits u (value_at v (named_row t r part) path)) next
    (value_at-present step.0 (named_row t r part) path u rest step.1.1
    (named_row-present t r part step.0 present step.1.0 f))
