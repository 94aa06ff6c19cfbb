-- What stands inside a list or a struct.
use Rattle.std.proofs.Common.{◌≡◌, ℕ, zero, suc, ◌<◌, ◌-◌, length-append, List, [], ◌∷◌, ◌++◌, map, length, Bool, ℤ, Option, Some, None, refl, sym, ap, subst, ◌∙◌, arith}
use Rattle.std.specs.Prelude.{slice_get, unwrap_or}
use Rattle.std.specs.Option.{IsSome, option_map, option_map_or, option_and_then}
use Rattle.vortex_terms.specs.Term.{Term, null, boolean, primitive, decimal, utf8, binary, structure, list, extension, fixed_size_list, Fields, no_fields, field}
use Rattle.vortex_terms.specs.Types.{storage_of, field_at}
use Rattle.vortex_types.specs.ExtTerm.{ExtTerm, ext_type}
use Rattle.vortex_terms.specs.Row.{row_list, Row, Rows, null_row, truth_row, whole_row, bytes_row, list_row, no_rows, row, row_count, row_at, AllRows}
use Rattle.vortex_terms.specs.Fits.{Fits}
use Rattle.vortex_terms.specs.RowListLaws.{FitsFields-places}
use Rattle.vortex_scalar_value.specs.Value.{ValueTerm, null_value, truth_value, whole_value, decimal_value, bytes_value, text_value, list_value, ValueTerms, no_values, value, values_from, value_list}
use Rattle.vortex_value_rows.specs.RowOf.{row_of, fitting_row, number_of_bytes, field_rows, rows_by, row_before}
use Rattle.vortex_scalar.specs.ScalarTerm.{ScalarTerm}
use Rattle.vortex_scalar.specs.Made.{typed, scalar_of}
use Rattle.vortex_scalar.specs.LargeViews.{storage_scalar, rows_within, count_within, part_type, part_scalar, typed_rows, field_scalars, part_scalars}
use Rattle.vortex_scalar.specs.inner.Parts.{values_within, value_within}
use Rattle.vortex_scalar.proofs.Rows.{is_made, makes, fitted}

-- ---- the values inside a value

value_list-from : (vs : List ValueTerm) → value_list (values_from vs) ≡ vs
value_list-from [] = refl
value_list-from (v ∷ vs) = ap (λ ws. v ∷ ws) (value_list-from vs)

pub listed : (vs : List ValueTerm) (v : ValueTerm) → list_value (values_from vs) ≡ v → Some vs ≡ values_within v
listed vs v e = subst (λ w. Some vs ≡ values_within w) e (ap Some (sym (value_list-from vs)))

-- ---- how many there are

pub some_same : {A : Type 0} (x y : A) → Some x ≡ Some y → x ≡ y
some_same x y e = cc

pub never_some : {A : Type 0} (x : A) → None ≡ Some x → ⊥
never_some x e = cc

count_list : (f : ValueTerm → Option Row) (vs : ValueTerms) (rs : Rows) → rows_by f vs ≡ Some rs → row_count rs ≡ length (value_list vs)
count_list f no_values rs e = subst (λ z. row_count z ≡ 0) (some_same _ _ e) refl
count_list f (value v vs) rs e = by (f v) (rows_by f vs) (count_list f vs) e
  where
    by : (o : Option Row) (p : Option Rows) → ((ss : Rows) → p ≡ Some ss → row_count ss ≡ length (value_list vs))
        → row_before o p ≡ Some rs → row_count rs ≡ suc (length (value_list vs))
    by None p rest e = absurd (never_some rs e)
    by (Some r) None rest e = absurd (never_some rs e)
    by (Some r) (Some ss) rest e = subst (λ z. row_count z ≡ suc (length (value_list vs))) (some_same _ _ e) (ap suc (rest ss refl))

count_fields : (fs : Fields) (vs : ValueTerms) (rs : Rows) → field_rows fs vs ≡ Some rs → row_count rs ≡ length (value_list vs)
count_fields no_fields no_values rs e = subst (λ z. row_count z ≡ 0) (some_same _ _ e) refl
count_fields (field x t fs) (value v vs) rs e = by (row_of t v) (field_rows fs vs) (count_fields fs vs) e
  where
    by : (o : Option Row) (p : Option Rows) → ((ss : Rows) → p ≡ Some ss → row_count ss ≡ length (value_list vs))
        → row_before o p ≡ Some rs → row_count rs ≡ suc (length (value_list vs))
    by None p rest e = absurd (never_some rs e)
    by (Some r) None rest e = absurd (never_some rs e)
    by (Some r) (Some ss) rest e = subst (λ z. row_count z ≡ suc (length (value_list vs))) (some_same _ _ e) (ap suc (rest ss refl))
count_fields no_fields (value v vs) rs e = absurd (never_some rs e)
count_fields (field x t fs) no_values rs e = absurd (never_some rs e)

-- there are values inside exactly where there are rows inside, and as many
abbrev pub SameCount : Option (List ValueTerm) → Option Rows → Type 0
SameCount None None = Unit {0}
SameCount (Some vs) (Some rs) = row_count rs ≡ length vs
SameCount _ _ = ⊥

abbrev counted : ValueTerm → Option Row → Type 0
counted v None = Unit {0}
counted v (Some r) = SameCount (values_within v) (rows_within r)

number_counted : (bs : List ℕ) (o : Option ℤ) → counted (bytes_value bs) (option_map whole_row o)
number_counted bs None = tt
number_counted bs (Some z) = tt

list_counted : (vs : ValueTerms) (o : Option Rows) → ((rs : Rows) → o ≡ Some rs → row_count rs ≡ length (value_list vs))
    → counted (list_value vs) (option_map list_row o)
list_counted vs None h = tt
list_counted vs (Some rs) h = h rs refl

counts : (t : Term) (v : ValueTerm) → counted v (row_of t v)
counts null null_value = tt
counts (boolean n) null_value = tt
counts (boolean n) (truth_value b) = tt
counts (primitive k n) null_value = tt
counts (primitive k n) (whole_value l z) = tt
counts (decimal p s n) null_value = tt
counts (decimal p s n) (decimal_value w z) = tt
counts (decimal p s n) (bytes_value bs) = number_counted bs (number_of_bytes bs)
counts (utf8 n) null_value = tt
counts (utf8 n) (bytes_value bs) = tt
counts (utf8 n) (text_value bs) = tt
counts (binary n) null_value = tt
counts (binary n) (bytes_value bs) = tt
counts (binary n) (text_value bs) = tt
counts (structure fs n) null_value = tt
counts (structure fs n) (list_value vs) = list_counted vs (field_rows fs vs) (count_fields fs vs)
counts (list t n) null_value = tt
counts (list t n) (list_value vs) = list_counted vs (rows_by (row_of t) vs) (count_list (row_of t) vs)
counts (extension id t m) v = counts t v
counts (fixed_size_list t k n) null_value = tt
counts (fixed_size_list t k n) (list_value vs) = list_counted vs (rows_by (row_of t) vs) (count_list (row_of t) vs)
counts _ _ = tt

pub same_count : (t : Term) (v : ValueTerm) (s : ScalarTerm) → IsSome (fitting_row t v) → scalar_of t v ≡ s → SameCount (values_within v) (rows_within s.row)
same_count t v s h e = subst (λ (z : ScalarTerm). SameCount (values_within v) (rows_within z.row)) e (subst (counted v) (fitted t v h).0 (counts t v))

pub same_length : (o : Option (List ValueTerm)) (r : Row) → SameCount o (rows_within r) → option_map_or length o 0 ≡ count_within r
same_length None null_row h = refl
same_length None (truth_row b) h = refl
same_length None (whole_row z) h = refl
same_length None (bytes_row bs) h = refl
same_length (Some vs) (list_row rs) h = sym h
same_length _ _ h = absurd h

-- ---- one part

past : {A : Type 0} (rs : Rows) (xs : List A) (i : ℕ) → row_count rs ≡ length xs → slice_get xs i ≡ None → row_at rs i ≡ None
past no_rows xs i e g = refl
past (row r rs) [] i e g = absurd (omega (arith, e))
past (row r rs) (x ∷ xs) zero e g = absurd (never_some x (sym g))
past (row r rs) (x ∷ xs) (suc i) e g = past rs xs i (omega (arith, e)) g

-- where no value stands, no part stands
pub no_value : (t : Term) (v : ValueTerm) (s : ScalarTerm) (i : ℕ) → IsSome (fitting_row t v) → scalar_of t v ≡ s
    → None ≡ value_within v i → None ≡ part_scalar s i
no_value t v s i h e none = by (values_within v) s.row (same_count t v s h e) (sym none)
  where
    typeless : (rs : Rows) (o : Option Term) → row_at rs i ≡ None → None ≡ option_and_then (λ u. option_and_then (λ q. Some (typed u q)) (row_at rs i)) o
    typeless rs None g = refl
    typeless rs (Some u) g = ap (option_and_then (λ q. Some (typed u q))) (sym g)

    by : (o : Option (List ValueTerm)) (r : Row) → SameCount o (rows_within r) → option_and_then (λ vs. slice_get vs i) o ≡ None
        → None ≡ part_scalar (typed s.dtype r) i
    by (Some vs) (list_row rs) same none = typeless rs (part_type s.dtype i) (past rs vs i same none)
    by None (list_row rs) same none = absurd same
    by _ null_row same none = refl
    by _ (truth_row b) same none = refl
    by _ (whole_row z) same none = refl
    by _ (bytes_row bs) same none = refl

-- where no type stands, no part stands
pub no_type : (t : Term) (v : ValueTerm) (s : ScalarTerm) (i : ℕ) → scalar_of t v ≡ s → None ≡ part_type t i → None ≡ part_scalar s i
no_type t v s i e none = subst (λ (z : ScalarTerm). None ≡ part_scalar z i) e (by (unwrap_or (fitting_row t v) null_row))
  where
    by : (r : Row) → None ≡ part_scalar (typed t r) i
    by (list_row rs) = ap (option_and_then (λ u. option_and_then (λ q. Some (typed u q)) (row_at rs i))) none
    by null_row = refl
    by (truth_row b) = refl
    by (whole_row z) = refl
    by (bytes_row bs) = refl

-- the value has a row, which stands there
pub record HasRow (f : ValueTerm → Option Row) (w : ValueTerm) (o : Option Row) : Type 0 where
  pub the_row : Row
  pub of_value : f w ≡ Some the_row
  pub stands : o ≡ Some the_row

at_list : (f : ValueTerm → Option Row) (vs : ValueTerms) (rs : Rows) (i : ℕ) (w : ValueTerm)
    → rows_by f vs ≡ Some rs → slice_get (value_list vs) i ≡ Some w → HasRow f w (row_at rs i)
at_list f no_values rs i w e g = absurd (never_some w g)
at_list f (value v vs) rs i w e g = by (f v) (rows_by f vs) refl (λ ss j. at_list f vs ss j w) i e g
  where
    by : (o : Option Row) (p : Option Rows) → f v ≡ o
        → ((ss : Rows) (j : ℕ) → p ≡ Some ss → slice_get (value_list vs) j ≡ Some w → HasRow f w (row_at ss j))
        → (i : ℕ) → row_before o p ≡ Some rs → slice_get (v ∷ value_list vs) i ≡ Some w → HasRow f w (row_at rs i)
    by None p first rest i e g = absurd (never_some rs e)
    by (Some r) None first rest i e g = absurd (never_some rs e)
    by (Some r) (Some ss) first rest zero e g =
        subst (λ z. HasRow f w (row_at z zero)) (some_same _ _ e)
        (record { the_row = r; of_value = ap f (sym (some_same _ _ g)) ∙ first; stands = refl })
    by (Some r) (Some ss) first rest (suc j) e g = subst (λ z. HasRow f w (row_at z (suc j))) (some_same _ _ e) (rest ss j refl g)

pub at_field : (fs : Fields) (vs : ValueTerms) (rs : Rows) (i : ℕ) (w : ValueTerm) (u : Term)
    → field_rows fs vs ≡ Some rs → slice_get (value_list vs) i ≡ Some w → field_at fs i ≡ Some u → HasRow (row_of u) w (row_at rs i)
at_field no_fields vs rs i w u e g h = absurd (never_some u h)
at_field (field x t fs) no_values rs i w u e g h = absurd (never_some w g)
at_field (field x t fs) (value v vs) rs i w u e g h = by (row_of t v) (field_rows fs vs) refl (λ ss j. at_field fs vs ss j w u) i e g h
  where
    by : (o : Option Row) (p : Option Rows) → row_of t v ≡ o
        → ((ss : Rows) (j : ℕ) → p ≡ Some ss → slice_get (value_list vs) j ≡ Some w → field_at fs j ≡ Some u → HasRow (row_of u) w (row_at ss j))
        → (i : ℕ) → row_before o p ≡ Some rs → slice_get (v ∷ value_list vs) i ≡ Some w → field_at (field x t fs) i ≡ Some u
        → HasRow (row_of u) w (row_at rs i)
    by None p first rest i e g h = absurd (never_some rs e)
    by (Some r) None first rest i e g h = absurd (never_some rs e)
    by (Some r) (Some ss) first rest zero e g h =
        let same_value : w ≡ v = sym (some_same _ _ g) in
        let same_type : u ≡ t = sym (some_same _ _ h) in
        subst (λ z. HasRow (row_of u) w (row_at z zero)) (some_same _ _ e)
        (record { the_row = r; of_value = (λ i. row_of (same_type i) (same_value i)) ∙ first; stands = refl })
    by (Some r) (Some ss) first rest (suc j) e g h = subst (λ z. HasRow (row_of u) w (row_at z (suc j))) (some_same _ _ e) (rest ss j refl g h)

all_at : (P : Row → Type 0) (rs : Rows) (i : ℕ) (q : Row) → AllRows P rs → row_at rs i ≡ Some q → P q
all_at P no_rows i q a e = absurd (never_some q e)
all_at P (row r rs) zero q a e = subst P (some_same r q e) a.0
all_at P (row r rs) (suc i) q a e = all_at P rs i q a.1 e

-- the value at a place under its type
pub record IsPart (s : ScalarTerm) (i : ℕ) (u : Term) (w : ValueTerm) : Type 0 where
  pub part_row : Row
  pub of_part : row_of u w ≡ Some part_row
  pub fits_part : Fits u part_row
  pub is_part : part_scalar s i ≡ Some (typed u part_row)

stands_in : (t u : Term) (rs : Rows) (i : ℕ) (w : ValueTerm) → part_type t i ≡ Some u → (has : HasRow (row_of u) w (row_at rs i)) → Fits u has.the_row
    → IsPart (typed t (list_row rs)) i u w
stands_in t u rs i w kind has fits = record {
  part_row = has.the_row;
  of_part = has.of_value;
  fits_part = fits;
  is_part = λ k. option_and_then (λ z. option_and_then (λ q. Some (typed z q)) (has.stands k)) (kind k);
}

abbrev parted : Term → ValueTerm → ℕ → ValueTerm → Term → Option Row → Type 0
parted t v i w u None = Unit {0}
parted t v i w u (Some r) = Fits t r → value_within v i ≡ Some w → part_type t i ≡ Some u → IsPart (typed t r) i u w

typeless : (t : Term) (v : ValueTerm) (i : ℕ) (w : ValueTerm) (u : Term) (o : Option Row) → part_type t i ≡ None → parted t v i w u o
typeless t v i w u None e = tt
typeless t v i w u (Some r) e = λ fits here kind. absurd (never_some u (sym e ∙ kind))

valueless : (t : Term) (v : ValueTerm) (i : ℕ) (w : ValueTerm) (u : Term) (o : Option Row) → value_within v i ≡ None → parted t v i w u o
valueless t v i w u None e = tt
valueless t v i w u (Some r) e = λ fits here kind. absurd (never_some w (sym e ∙ here))

field_parted : (fs : Fields) (n : Bool) (vs : ValueTerms) (i : ℕ) (w : ValueTerm) (u : Term) (o : Option Rows) → field_rows fs vs ≡ o
    → parted (structure fs n) (list_value vs) i w u (option_map list_row o)
field_parted fs n vs i w u None e = tt
field_parted fs n vs i w u (Some rs) e = λ fits here kind.
    let has = at_field fs vs rs i w u e here kind in
    stands_in (structure fs n) u rs i w kind has (FitsFields-places fs rs i u has.the_row fits kind has.stands)

list_parted : (t : Term) (n : Bool) (vs : ValueTerms) (i : ℕ) (w : ValueTerm) (u : Term) (o : Option Rows) → rows_by (row_of t) vs ≡ o
    → parted (list t n) (list_value vs) i w u (option_map list_row o)
list_parted t n vs i w u None e = tt
list_parted t n vs i w u (Some rs) e = λ fits here kind.
    let has = at_list (row_of u) vs rs i w (ap (λ z. rows_by (row_of z) vs) (sym (some_same t u kind)) ∙ e) here in
    stands_in (list t n) u rs i w kind has (subst (λ z. Fits z has.the_row) (some_same t u kind) (all_at (Fits t) rs i has.the_row fits has.stands))

fixed_parted : (t : Term) (k : ℕ) (n : Bool) (vs : ValueTerms) (i : ℕ) (w : ValueTerm) (u : Term) (o : Option Rows) → rows_by (row_of t) vs ≡ o
    → parted (fixed_size_list t k n) (list_value vs) i w u (option_map list_row o)
fixed_parted t k n vs i w u None e = tt
fixed_parted t k n vs i w u (Some rs) e = λ fits here kind.
    let has = at_list (row_of u) vs rs i w (ap (λ z. rows_by (row_of z) vs) (sym (some_same t u kind)) ∙ e) here in
    stands_in (fixed_size_list t k n) u rs i w kind has (subst (λ z. Fits z has.the_row) (some_same t u kind) (all_at (Fits t) rs i has.the_row fits.1 has.stands))

parts_of : (t : Term) (v : ValueTerm) (i : ℕ) (w : ValueTerm) (u : Term) → parted t v i w u (row_of t v)
parts_of (structure fs n) (list_value vs) i w u = field_parted fs n vs i w u (field_rows fs vs) refl
parts_of (list t n) (list_value vs) i w u = list_parted t n vs i w u (rows_by (row_of t) vs) refl
parts_of (fixed_size_list t k n) (list_value vs) i w u = fixed_parted t k n vs i w u (rows_by (row_of t) vs) refl
parts_of (structure fs n) v i w u = valueless (structure fs n) v i w u (row_of (structure fs n) v) refl
parts_of (list t n) v i w u = valueless (list t n) v i w u (row_of (list t n) v) refl
parts_of (fixed_size_list t k n) v i w u = valueless (fixed_size_list t k n) v i w u (row_of (fixed_size_list t k n) v) refl
parts_of t v i w u = typeless t v i w u (row_of t v) refl

part_is : (t : Term) (v : ValueTerm) (i : ℕ) (w : ValueTerm) (u : Term) → IsSome (fitting_row t v) → Some w ≡ value_within v i → Some u ≡ part_type t i
    → IsPart (scalar_of t v) i u w
part_is t v i w u h here kind =
    let r = unwrap_or (fitting_row t v) null_row in
    let at : parted t v i w u (Some r) = subst (parted t v i w u) (fitted t v h).0 (parts_of t v i w u) in
    at (fitted t v h).1 (sym here) (sym kind)

-- what stands at a place fits its type
pub part_fits : (t : Term) (v : ValueTerm) (i : ℕ) (w x : ValueTerm) (u y : Term) → IsSome (fitting_row t v) → Some w ≡ value_within v i → Some u ≡ part_type t i
    → x ≡ w → y ≡ u → IsSome (fitting_row y x)
part_fits t v i w x u y h here kind same_value same_type =
    let p = part_is t v i w u h here kind in
    let fits : IsSome (fitting_row u w) = is_made u w p.part_row p.of_part p.fits_part in
    subst (λ z. IsSome (fitting_row z x)) (sym same_type) (subst (λ z. IsSome (fitting_row u z)) (sym same_value) fits)

pub part_stands : (t : Term) (v : ValueTerm) (s : ScalarTerm) (i : ℕ) (w x : ValueTerm) (u y : Term) → IsSome (fitting_row t v) → scalar_of t v ≡ s
    → Some w ≡ value_within v i → Some u ≡ part_type t i → x ≡ w → y ≡ u → Some (scalar_of y x) ≡ part_scalar s i
part_stands t v s i w x u y h e here kind same_value same_type =
    let p = part_is t v i w u h here kind in
    let known : Some (scalar_of u w) ≡ part_scalar (scalar_of t v) i = ap Some (makes u w p.part_row p.of_part p.fits_part) ∙ sym p.is_part in
    let moved : Some (scalar_of y x) ≡ Some (scalar_of u w) = λ k. Some (scalar_of (same_type k) (same_value k)) in
    moved ∙ known ∙ ap (λ z. part_scalar z i) e

-- ---- all parts

fields_at : (fs : Fields) (rs : Rows) (i : ℕ) → option_and_then (λ u. option_and_then (λ q. Some (typed u q)) (row_at rs i)) (field_at fs i) ≡ slice_get (field_scalars fs rs) i
fields_at no_fields rs i = refl
fields_at (field x t fs) no_rows zero = refl
fields_at (field x t fs) no_rows (suc i) = by (field_at fs i)
  where
    by : (o : Option Term) → option_and_then (λ u. option_and_then (λ q. Some (typed u q)) None) o ≡ None
    by None = refl
    by (Some u) = refl
fields_at (field x t fs) (row r rs) zero = refl
fields_at (field x t fs) (row r rs) (suc i) = fields_at fs rs i

elements_at : (t : Term) (rs : Rows) (i : ℕ) → option_and_then (λ q. Some (typed t q)) (row_at rs i) ≡ slice_get (map (typed t) (row_list rs)) i
elements_at t no_rows i = refl
elements_at t (row r rs) zero = refl
elements_at t (row r rs) (suc i) = elements_at t rs i

typed_at : (t : Term) (rs : Rows) (i : ℕ) → option_and_then (λ u. option_and_then (λ q. Some (typed u q)) (row_at rs i)) (part_type t i) ≡ slice_get (typed_rows t rs) i
typed_at (structure fs n) rs i = fields_at fs rs i
typed_at (list t n) rs i = elements_at t rs i
typed_at (fixed_size_list t k n) rs i = elements_at t rs i
typed_at _ rs i = refl

-- the parts, and none of null
abbrev pub all_parts : ScalarTerm → List ScalarTerm
all_parts s = unwrap_or (part_scalars s) []

parts_at : (s : ScalarTerm) (i : ℕ) → part_scalar s i ≡ slice_get (all_parts s) i
parts_at s i = by s.row
  where
    by : (r : Row) → part_scalar (typed s.dtype r) i ≡ slice_get (all_parts (typed s.dtype r)) i
    by (list_row rs) = typed_at s.dtype rs i
    by null_row = refl
    by (truth_row b) = refl
    by (whole_row z) = refl
    by (bytes_row bs) = refl

-- the first list begins the second
abbrev pub Begins : List ScalarTerm → List ScalarTerm → Type 0
Begins [] ys = Unit {0}
Begins (x ∷ xs) [] = ⊥
Begins (x ∷ xs) (y ∷ ys) = (x ≡ y) × Begins xs ys

begins_more : (xs ys : List ScalarTerm) (x : ScalarTerm) → Begins xs ys → slice_get ys (length xs) ≡ Some x → Begins (xs ++ x ∷ []) ys
begins_more [] [] x b e = absurd (never_some x e)
begins_more [] (y ∷ ys) x b e = (sym (some_same _ _ e), tt)
begins_more (z ∷ xs) [] x b e = absurd b
begins_more (z ∷ xs) (y ∷ ys) x b e = (b.0, begins_more xs ys x b.1 e)

begins_all : (xs ys : List ScalarTerm) → Begins xs ys → slice_get ys (length xs) ≡ None → xs ≡ ys
begins_all [] [] b e = refl
begins_all [] (y ∷ ys) b e = absurd (never_some y (sym e))
begins_all (z ∷ xs) [] b e = absurd b
begins_all (z ∷ xs) (y ∷ ys) b e = λ k. b.0 k ∷ begins_all xs ys b.1 e k

begins_fewer : (xs ys : List ScalarTerm) (x : ScalarTerm) → Begins xs ys → slice_get ys (length xs) ≡ Some x → length xs < length ys
begins_fewer [] [] x b e = absurd (never_some x e)
begins_fewer [] (y ∷ ys) x b e = omega arith
begins_fewer (z ∷ xs) [] x b e = absurd b
begins_fewer (z ∷ xs) (y ∷ ys) x b e = let rest = begins_fewer xs ys x b.1 e in omega (arith, rest)

-- a part more, and that there are more to come
pub part_more : (s : ScalarTerm) (xs : List ScalarTerm) (x : ScalarTerm) (n : ℕ) → n ≡ length xs → Begins xs (all_parts s) → Some x ≡ part_scalar s n
    → Begins (xs ++ x ∷ []) (all_parts s)
part_more s xs x n same b e =
    let next : slice_get (all_parts s) (length xs) ≡ Some x = ap (slice_get (all_parts s)) (sym same) ∙ sym (parts_at s n) ∙ sym e in
    begins_more xs (all_parts s) x b next

pub part_smaller : (s : ScalarTerm) (xs : List ScalarTerm) (x : ScalarTerm) (n : ℕ) → n ≡ length xs → Begins xs (all_parts s) → Some x ≡ part_scalar s n
    → length (all_parts s) - length (xs ++ x ∷ []) < length (all_parts s) - length xs
part_smaller s xs x n same b e =
    let next : slice_get (all_parts s) (length xs) ≡ Some x = ap (slice_get (all_parts s)) (sym same) ∙ sym (parts_at s n) ∙ sym e in
    let fewer = begins_fewer xs (all_parts s) x b next in
    omega (arith, fewer, length-append xs (x ∷ []))

some_parts : (o : Option (List ValueTerm)) (vs : List ValueTerm) (s : ScalarTerm) → SameCount o (rows_within s.row) → Some vs ≡ o → Some (all_parts s) ≡ part_scalars s
some_parts None vs s same e = absurd (never_some vs (sym e))
some_parts (Some ws) vs s same e = by s.row same
  where
    by : (r : Row) → SameCount (Some ws) (rows_within r) → Some (all_parts (typed s.dtype r)) ≡ part_scalars (typed s.dtype r)
    by (list_row rs) same = refl
    by null_row same = absurd same
    by (truth_row b) same = absurd same
    by (whole_row z) same = absurd same
    by (bytes_row bs) same = absurd same

-- all of them, where there are values inside
pub part_all : (t : Term) (v : ValueTerm) (s : ScalarTerm) (vs : List ValueTerm) (xs : List ScalarTerm) (n : ℕ) → IsSome (fitting_row t v) → scalar_of t v ≡ s
    → Some vs ≡ values_within v → n ≡ length xs → Begins xs (all_parts s) → None ≡ part_scalar s n → Some xs ≡ part_scalars s
part_all t v s vs xs n h e inside same b none =
    let end : slice_get (all_parts s) (length xs) ≡ None = ap (slice_get (all_parts s)) (sym same) ∙ sym (parts_at s n) ∙ sym none in
    ap Some (begins_all xs (all_parts s) b end) ∙ some_parts (values_within v) vs s (same_count t v s h e) inside

no_parts : (o : Option (List ValueTerm)) (s : ScalarTerm) → SameCount o (rows_within s.row) → None ≡ o → None ≡ part_scalars s
no_parts (Some ws) s same e = absurd (never_some ws e)
no_parts None s same e = by s.row same
  where
    by : (r : Row) → SameCount None (rows_within r) → None ≡ part_scalars (typed s.dtype r)
    by (list_row rs) same = absurd same
    by null_row same = refl
    by (truth_row b) same = refl
    by (whole_row z) same = refl
    by (bytes_row bs) same = refl

-- and none, where there are none
pub part_none : (t : Term) (v : ValueTerm) (s : ScalarTerm) → IsSome (fitting_row t v) → scalar_of t v ≡ s → None ≡ values_within v → None ≡ part_scalars s
part_none t v s h e none = no_parts (values_within v) s (same_count t v s h e) none

-- ---- a scalar, lent

pub lent_fits : (d : Term) (v : ValueTerm) (s : ScalarTerm) → d ≡ s.dtype → row_of s.dtype v ≡ Some s.row → Fits s.dtype s.row → IsSome (fitting_row d v)
lent_fits d v s e of_value fits = subst (λ z. IsSome (fitting_row z v)) (sym e) (is_made s.dtype v s.row of_value fits)

pub lent_same : (d : Term) (v : ValueTerm) (s : ScalarTerm) → d ≡ s.dtype → row_of s.dtype v ≡ Some s.row → Fits s.dtype s.row → scalar_of d v ≡ s
lent_same d v s e of_value fits = ap (λ z. scalar_of z v) e ∙ makes s.dtype v s.row of_value fits

-- ---- the storage of an extension

storage_row : (e : ExtTerm) (d : Term) (v w : ValueTerm) (s : ScalarTerm) → ext_type e ≡ s.dtype → d ≡ e.storage → w ≡ v → row_of s.dtype v ≡ Some s.row → row_of d w ≡ Some s.row
storage_row e d v w s ext same_type same_value of_value =
    let stored : row_of d w ≡ row_of (ext_type e) v = λ k. row_of (same_type k) (same_value k) in
    stored ∙ ap (λ t. row_of t v) ext ∙ of_value

storage_kept : (e : ExtTerm) (d : Term) (s : ScalarTerm) → ext_type e ≡ s.dtype → d ≡ e.storage → Fits s.dtype s.row → Fits d s.row
storage_kept e d s ext same_type fits =
    let stored : Fits (ext_type e) s.row = subst (λ z. Fits z s.row) (sym ext) fits in
    subst (λ z. Fits z s.row) (sym same_type) stored

pub storage_fits : (e : ExtTerm) (d : Term) (v w : ValueTerm) (s : ScalarTerm) → ext_type e ≡ s.dtype → d ≡ e.storage → w ≡ v → row_of s.dtype v ≡ Some s.row
    → Fits s.dtype s.row → IsSome (fitting_row d w)
storage_fits e d v w s ext same_type same_value of_value fits =
    is_made d w s.row (storage_row e d v w s ext same_type same_value of_value) (storage_kept e d s ext same_type fits)

pub storage_same : (e : ExtTerm) (d : Term) (v w : ValueTerm) (s : ScalarTerm) → ext_type e ≡ s.dtype → d ≡ e.storage → w ≡ v → row_of s.dtype v ≡ Some s.row
    → Fits s.dtype s.row → scalar_of d w ≡ storage_scalar s
storage_same e d v w s ext same_type same_value of_value fits =
    let of_ext : storage_of (ext_type e) ≡ storage_of s.dtype = ap storage_of ext in
    makes d w s.row (storage_row e d v w s ext same_type same_value of_value) (storage_kept e d s ext same_type fits)
    ∙ ap (λ z. typed z s.row) (same_type ∙ of_ext)

-- what is known of one scalar is known of an equal one
pub row_moved : (f s : ScalarTerm) (v : ValueTerm) → f ≡ s → row_of f.dtype v ≡ Some f.row → row_of s.dtype v ≡ Some s.row
row_moved f s v e h = subst (λ (z : ScalarTerm). row_of z.dtype v ≡ Some z.row) e h

pub fits_moved : (f s : ScalarTerm) → f ≡ s → Fits f.dtype f.row → Fits s.dtype s.row
fits_moved f s e h = subst (λ (z : ScalarTerm). Fits z.dtype z.row) e h

pub no_more : {A : Type 0} (o : Option A) → ((x : A) → o ≡ Some x → ⊥) → None ≡ o
no_more None h = refl
no_more (Some x) h = absurd (h x refl)
