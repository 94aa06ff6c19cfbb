-- The fields of given names.
use Rattle.std.proofs.Common.{◌≡◌, ℕ, zero, suc, List, [], ◌∷◌, map, Bool, true, false, Option, Some, None, Result, Ok, Err, IsTrue, refl, sym, ap, subst, ◌∙◌}
use Rattle.std.specs.Prelude.{slice_get, unwrap_or, ok_or}
use Rattle.std.specs.Option.{IsSome, option_map, option_and_then}
use Rattle.std.proofs.lemmas.Bool.{false≢true}
use Rattle.vortex_terms.specs.Term.{Term, structure, Fields, no_fields, field}
use Rattle.vortex_terms.specs.Types.{nullable, place_of, field_at, field_named}
use Rattle.vortex_terms.specs.StructFields.{projected}
use Rattle.vortex_terms.specs.Row.{Row, Rows, null_row, list_row, no_rows, row, row_at, rows_from}
use Rattle.vortex_terms.specs.Fits.{Fits, FitsFields}
use Rattle.vortex_terms.specs.RowListLaws.{FitsFields-places}
use Rattle.vortex_names.specs.Nullable.{is_nullable, nullability_of}
use Rattle.vortex_names.specs.declared.nullable.Nullability.{Nullability}
use Rattle.vortex_types.specs.Accessors.{fields_of}
use Rattle.vortex_types.specs.Predicates.{is_struct}
use Rattle.vortex_scalar_value.specs.Value.{ValueTerm, null_value, list_value, ValueTerms, no_values, value, values_from, value_list}
use Rattle.vortex_scalar_value.specs.declared.error.ScalarError.{ScalarError}
use Rattle.vortex_scalar_value.specs.declared.error.ScalarError.TheVariants as error
use Rattle.vortex_value_rows.specs.RowOf.{row_of, fitting_row, field_rows, row_before}
use Rattle.vortex_scalar.specs.ScalarTerm.{ScalarTerm}
use Rattle.vortex_scalar.specs.Made.{typed, scalar_of}
use Rattle.vortex_scalar.specs.LargeViews.{named_row, projected_row, projected_scalar}
use Rattle.vortex_scalar.specs.inner.Parts.{values_within, named_value, projected_value}
use Rattle.vortex_scalar.proofs.PartLemmas.{some_same, never_some, at_field}
use Rattle.vortex_scalar.proofs.Rows.{is_made, makes}

-- ---- the values

pub projected_list : (fs : Fields) (xs : List (List ℕ)) (vs : List ValueTerm) (v w : ValueTerm) → Some vs ≡ values_within v
    → w ≡ list_value (values_from (map (named_value fs vs) xs)) → w ≡ projected_value fs xs v
projected_list fs xs vs (list_value us) w e made = made ∙ ap (λ zs. list_value (values_from (map (named_value fs zs) xs))) (some_same vs (value_list us) e)
projected_list fs xs vs _ w e made = absurd (never_some vs (sym e))

pub projected_null : (fs : Fields) (xs : List (List ℕ)) (v w : ValueTerm) → None ≡ values_within v → w ≡ null_value → w ≡ projected_value fs xs v
projected_null fs xs (list_value us) w e made = absurd (never_some (value_list us) e)
projected_null fs xs _ w e made = made

-- ---- one field

there : (fs : Fields) (vs : ValueTerms) (rs : Rows) (i : ℕ) (u : Term) → field_rows fs vs ≡ Some rs → field_at fs i ≡ Some u
    → (w : ValueTerm) × (slice_get (value_list vs) i ≡ Some w)
there no_fields vs rs i u e h = absurd (never_some u h)
there (field x t fs) no_values rs i u e h = absurd (never_some rs e)
there (field x t fs) (value v vs) rs zero u e h = (v, refl)
there (field x t fs) (value v vs) rs (suc i) u e h = by (row_of t v) (field_rows fs vs) (λ ss j. there fs vs ss i u j h) e
  where
    by : (o : Option Row) (p : Option Rows) → ((ss : Rows) → p ≡ Some ss → (w : ValueTerm) × (slice_get (value_list vs) i ≡ Some w))
        → row_before o p ≡ Some rs → (w : ValueTerm) × (slice_get (value_list vs) i ≡ Some w)
    by None p rest e = absurd (never_some rs e)
    by (Some r) None rest e = absurd (never_some rs e)
    by (Some r) (Some ss) rest e = rest ss refl

one_row : (fs : Fields) (vs : ValueTerms) (rs : Rows) (x : List ℕ) (u : Term) → field_rows fs vs ≡ Some rs → field_named fs x ≡ Some u
    → row_of u (named_value fs (value_list vs) x) ≡ Some (named_row fs rs x)
one_row fs vs rs x u e h = by (place_of fs x) h
  where
    by : (o : Option ℕ) → option_and_then (field_at fs) o ≡ Some u
        → row_of u (unwrap_or (option_and_then (slice_get (value_list vs)) o) null_value) ≡ Some (unwrap_or (option_and_then (row_at rs) o) null_row)
    by None h = absurd (never_some u h)
    by (Some i) h =
        let w = there fs vs rs i u e h in
        let has = at_field fs vs rs i w.0 u e w.1 h in
        ap (λ z. row_of u (unwrap_or z null_value)) w.1 ∙ has.of_value ∙ ap (λ z. Some (unwrap_or z null_row)) (sym has.stands)

one_fits : (fs : Fields) (vs : ValueTerms) (rs : Rows) (x : List ℕ) (u : Term) → field_rows fs vs ≡ Some rs → field_named fs x ≡ Some u → FitsFields fs rs
    → Fits u (named_row fs rs x)
one_fits fs vs rs x u e h fits = by (place_of fs x) h
  where
    by : (o : Option ℕ) → option_and_then (field_at fs) o ≡ Some u → Fits u (unwrap_or (option_and_then (row_at rs) o) null_row)
    by None h = absurd (never_some u h)
    by (Some i) h =
        let w = there fs vs rs i u e h in
        let has = at_field fs vs rs i w.0 u e w.1 h in
        subst (λ z. Fits u (unwrap_or z null_row)) (sym has.stands) (FitsFields-places fs rs i u has.the_row fits h has.stands)

-- ---- all of them

their_rows : (fs : Fields) (vs : ValueTerms) (rs : Rows) (xs : List (List ℕ)) (gs : Fields) → field_rows fs vs ≡ Some rs → projected fs xs ≡ Some gs
    → field_rows gs (values_from (map (named_value fs (value_list vs)) xs)) ≡ Some (rows_from (map (named_row fs rs) xs))
their_rows fs vs rs [] gs e g = subst (λ hs. field_rows hs no_values ≡ Some no_rows) (some_same _ _ g) refl
their_rows fs vs rs (x ∷ xs) gs e g = by (field_named fs x) (projected fs xs) refl (λ hs. their_rows fs vs rs xs hs e) g
  where
    by : (o : Option Term) (p : Option Fields) → field_named fs x ≡ o
        → ((hs : Fields) → p ≡ Some hs → field_rows hs (values_from (map (named_value fs (value_list vs)) xs)) ≡ Some (rows_from (map (named_row fs rs) xs)))
        → option_and_then (λ t. option_map (field x t) p) o ≡ Some gs
        → field_rows gs (value (named_value fs (value_list vs) x) (values_from (map (named_value fs (value_list vs)) xs)))
        ≡ Some (row (named_row fs rs x) (rows_from (map (named_row fs rs) xs)))
    by None p named rest g = absurd (never_some gs g)
    by (Some t) None named rest g = absurd (never_some gs g)
    by (Some t) (Some hs) named rest g =
        let made : row_before (row_of t (named_value fs (value_list vs) x)) (field_rows hs (values_from (map (named_value fs (value_list vs)) xs)))
        ≡ Some (row (named_row fs rs x) (rows_from (map (named_row fs rs) xs))) =
        λ k. row_before (one_row fs vs rs x t e named k) (rest hs refl k) in
        subst (λ zs. field_rows zs (value (named_value fs (value_list vs) x) (values_from (map (named_value fs (value_list vs)) xs)))
        ≡ Some (row (named_row fs rs x) (rows_from (map (named_row fs rs) xs)))) (some_same _ _ g) made

they_fit : (fs : Fields) (vs : ValueTerms) (rs : Rows) (xs : List (List ℕ)) (gs : Fields) → field_rows fs vs ≡ Some rs → projected fs xs ≡ Some gs → FitsFields fs rs
    → FitsFields gs (rows_from (map (named_row fs rs) xs))
they_fit fs vs rs [] gs e g fits = subst (λ hs. FitsFields hs no_rows) (some_same _ _ g) tt
they_fit fs vs rs (x ∷ xs) gs e g fits = by (field_named fs x) (projected fs xs) refl (λ hs h. they_fit fs vs rs xs hs e h fits) g
  where
    by : (o : Option Term) (p : Option Fields) → field_named fs x ≡ o
        → ((hs : Fields) → p ≡ Some hs → FitsFields hs (rows_from (map (named_row fs rs) xs)))
        → option_and_then (λ t. option_map (field x t) p) o ≡ Some gs → FitsFields gs (row (named_row fs rs x) (rows_from (map (named_row fs rs) xs)))
    by None p named rest g = absurd (never_some gs g)
    by (Some t) None named rest g = absurd (never_some gs g)
    by (Some t) (Some hs) named rest g =
        subst (λ zs. FitsFields zs (row (named_row fs rs x) (rows_from (map (named_row fs rs) xs)))) (some_same _ _ g) (one_fits fs vs rs x t e named fits, rest hs refl)

-- ---- the struct

-- the value's row under the type of these fields, which fits
record Projects (t : Term) (gs : Fields) (xs : List (List ℕ)) (v : ValueTerm) (r : Row) : Type 0 where
  pub its_row : row_of (structure gs (nullable t)) (projected_value (fields_of t) xs v) ≡ Some (projected_row (fields_of t) xs r)
  pub it_fits : Fits (structure gs (nullable t)) (projected_row (fields_of t) xs r)

list_projects : (fs : Fields) (n : Bool) (vs : ValueTerms) (r : Row) (xs : List (List ℕ)) (gs : Fields) (o : Option Rows) → field_rows fs vs ≡ o
    → option_map list_row o ≡ Some r → Fits (structure fs n) r → projected fs xs ≡ Some gs → Projects (structure fs n) gs xs (list_value vs) r
list_projects fs n vs r xs gs None o e fits g = absurd (never_some r e)
list_projects fs n vs r xs gs (Some rs) o e fits g =
    let same : list_row rs ≡ r = some_same _ _ e in
    let inside : FitsFields fs rs = subst (λ z. Fits (structure fs n) z) (sym same) fits in
    subst (λ z. Projects (structure fs n) gs xs (list_value vs) z) same
    (record { its_row = ap (option_map list_row) (their_rows fs vs rs xs gs o g); it_fits = they_fit fs vs rs xs gs o g inside })

projects : (t : Term) (v : ValueTerm) (r : Row) (xs : List (List ℕ)) (gs : Fields) → IsTrue (is_struct t) → row_of t v ≡ Some r → Fits t r
    → projected (fields_of t) xs ≡ Some gs → Projects t gs xs v r
projects (structure fs n) (list_value vs) r xs gs k e fits g = list_projects fs n vs r xs gs (field_rows fs vs) refl e fits g
projects (structure fs n) null_value r xs gs k e fits g =
    let same : null_row ≡ r = some_same _ _ e in
    let may : IsTrue n = subst (λ z. Fits (structure fs n) z) (sym same) fits in
    subst (λ z. Projects (structure fs n) gs xs null_value z) same (record { its_row = refl; it_fits = may })
projects (structure fs n) _ r xs gs k e fits g = absurd (never_some r e)
projects _ v r xs gs k e fits g = absurd (false≢true k)

wanted_some : (o : Option Fields) (gs : Fields) → ok_or o error.FieldNotFound ≡ Ok gs → o ≡ Some gs
wanted_some None gs e = absurd (unlike gs e)
  where
    unlike : (gs : Fields) → ◌≡◌ {A = Result Fields ScalarError} (Err error.FieldNotFound) (Ok gs) → ⊥
    unlike gs e = cc
wanted_some (Some hs) gs e = like hs e
  where
    like : (hs : Fields) → ◌≡◌ {A = Result Fields ScalarError} (Ok hs) (Ok gs) → Some hs ≡ Some gs
    like hs e = cc

kept_flag : (b : Bool) → is_nullable (nullability_of b) ≡ b
kept_flag true = refl
kept_flag false = refl

-- what the code knows when it makes the scalar
pub record Known (s : ScalarTerm) (xs : List (List ℕ)) (v w : ValueTerm) (gs fs hs : Fields) (d : Term) (n : Nullability) : Type 0 where
  pub kind : IsTrue (is_struct s.dtype)
  pub its_row : row_of s.dtype v ≡ Some s.row
  pub it_fits : Fits s.dtype s.row
  pub first : fs ≡ fields_of s.dtype
  pub second : hs ≡ fields_of s.dtype
  pub found : ok_or (projected fs xs) error.FieldNotFound ≡ Ok gs
  pub made : w ≡ projected_value hs xs v
  pub whole : d ≡ s.dtype
  pub flag : n ≡ nullability_of (nullable d)

result_of : (s : ScalarTerm) (xs : List (List ℕ)) (v w : ValueTerm) (gs fs hs : Fields) (d : Term) (n : Nullability) → Known s xs v w gs fs hs d n
    → Projects s.dtype gs xs v s.row
result_of s xs v w gs fs hs d n k =
    projects s.dtype v s.row xs gs k.kind k.its_row k.it_fits (ap (λ z. projected z xs) (sym k.first) ∙ wanted_some (projected fs xs) gs k.found)

same_type : (s : ScalarTerm) (xs : List (List ℕ)) (v w : ValueTerm) (gs fs hs : Fields) (d : Term) (n : Nullability) → Known s xs v w gs fs hs d n
    → structure gs (is_nullable n) ≡ structure gs (nullable s.dtype)
same_type s xs v w gs fs hs d n k =
    ap (λ z. structure gs (is_nullable z)) k.flag ∙ ap (structure gs) (kept_flag (nullable d)) ∙ ap (λ z. structure gs (nullable z)) k.whole

same_value : (s : ScalarTerm) (xs : List (List ℕ)) (v w : ValueTerm) (gs fs hs : Fields) (d : Term) (n : Nullability) → Known s xs v w gs fs hs d n
    → w ≡ projected_value (fields_of s.dtype) xs v
same_value s xs v w gs fs hs d n k = k.made ∙ ap (λ z. projected_value z xs v) k.second

pub project_fits : (s : ScalarTerm) (xs : List (List ℕ)) (v w : ValueTerm) (gs fs hs : Fields) (d : Term) (n : Nullability) → Known s xs v w gs fs hs d n
    → IsSome (fitting_row (structure gs (is_nullable n)) w)
project_fits s xs v w gs fs hs d n k =
    let p = result_of s xs v w gs fs hs d n k in
    let fits : IsSome (fitting_row (structure gs (nullable s.dtype)) (projected_value (fields_of s.dtype) xs v)) =
    is_made (structure gs (nullable s.dtype)) (projected_value (fields_of s.dtype) xs v) (projected_row (fields_of s.dtype) xs s.row) p.its_row p.it_fits in
    subst (λ z. IsSome (fitting_row z w)) (sym (same_type s xs v w gs fs hs d n k))
    (subst (λ z. IsSome (fitting_row (structure gs (nullable s.dtype)) z)) (sym (same_value s xs v w gs fs hs d n k)) fits)

pub project_is : (s : ScalarTerm) (xs : List (List ℕ)) (v w : ValueTerm) (gs fs hs : Fields) (d : Term) (n : Nullability) (x : ScalarTerm) → Known s xs v w gs fs hs d n
    → x ≡ scalar_of (structure gs (is_nullable n)) w → projected_scalar s xs ≡ Ok x
project_is s xs v w gs fs hs d n x k e =
    let p = result_of s xs v w gs fs hs d n k in
    let found : projected (fields_of s.dtype) xs ≡ Some gs = ap (λ z. projected z xs) (sym k.first) ∙ wanted_some (projected fs xs) gs k.found in
    let wanted : ScalarTerm = typed (structure gs (nullable s.dtype)) (projected_row (fields_of s.dtype) xs s.row) in
    let is : scalar_of (structure gs (is_nullable n)) w ≡ wanted =
    (λ j. scalar_of (same_type s xs v w gs fs hs d n k j) (same_value s xs v w gs fs hs d n k j))
    ∙ makes (structure gs (nullable s.dtype)) (projected_value (fields_of s.dtype) xs v) (projected_row (fields_of s.dtype) xs s.row) p.its_row p.it_fits in
    ap (λ o. ok_or (option_map (λ zs. typed (structure zs (nullable s.dtype)) (projected_row (fields_of s.dtype) xs s.row)) o) error.FieldNotFound) found
    ∙ ap Ok (sym (e ∙ is))

pub struct_moved : (f s : ScalarTerm) → f ≡ s → IsTrue (is_struct f.dtype) → IsTrue (is_struct s.dtype)
struct_moved f s e h = subst (λ (z : ScalarTerm). IsTrue (is_struct z.dtype)) e h
