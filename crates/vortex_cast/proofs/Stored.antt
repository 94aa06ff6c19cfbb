-- A cast by the form of the row and the kind of the type.
use Rattle.std.proofs.Common.{◌≡◌, ℕ, true, false, Option, Some, None, Result, Ok, Err, refl, sym, ap, subst, ◌∙◌, true≢false, inl, inr}
use Rattle.std.specs.Prelude.{if◌then◌else◌, ◌⊎◌}
use Rattle.std.specs.Option.{option_map, IsSome, unwrap_or}
use Rattle.vortex_terms.specs.Term.{Term, null, boolean, primitive, decimal, utf8, binary, structure, list, extension, fixed_size_list}
use Rattle.vortex_terms.specs.Types.{nullable, storage_of}
use Rattle.vortex_terms.specs.Row.{Row, null_row, whole_row, list_row, is_null}
use Rattle.vortex_scalar_value.specs.Value.{ValueTerm, null_value, truth_value, whole_value, decimal_value, bytes_value, text_value, list_value, is_null_value}
use Rattle.vortex_scalar_value.specs.declared.error.ScalarError.{ScalarError}
use Rattle.vortex_scalar_value.specs.declared.error.ScalarError.TheVariants as error
use Rattle.vortex_value_rows.specs.RowOf.{row_of, row_under, rows_by, field_rows, number_of_bytes}
use Rattle.vortex_names.specs.declared.nullable.Nullability.{Nullability}
use Rattle.vortex_types.specs.TypeRefs.{ref_term, shape_term}
use Rattle.vortex_types.specs.declared.type_ref.TypeRef.{TypeRef}
use Rattle.vortex_types.specs.declared.shape.Shape.{Shape}
use Rattle.vortex_types.specs.declared.shape.Shape.TheVariants as shapes
use Rattle.vortex_value_rows.specs.Inside.{every, in_of}
use Rattle.vortex_cast.specs.Cast.{unless_null, cast_of}
use Rattle.vortex_cast.specs.Answers.{IsCast}
use Rattle.vortex_cast.specs.inner.Steps.{stored_cast}
use Rattle.vortex_cast.proofs.Leaves.{null_row_of}

-- ---- answers

-- a value is one of the row under another way to see it
pub cast_as : (f g : ValueTerm → Option Row) (x : Result ValueTerm ScalarError) (wanted : Result Row ScalarError)
    → ((w : ValueTerm) (r : Row) → f w ≡ Some r → g w ≡ Some r) → IsCast f x wanted → IsCast g x wanted
cast_as f g (Ok w) (Ok r) h c = h w r c
cast_as f g (Ok w) (Err e) h c = absurd c
cast_as f g (Err e) wanted h c = c

pub cast_same : (f : ValueTerm → Option Row) (x : Result ValueTerm ScalarError) (a b : Result Row ScalarError) → a ≡ b → IsCast f x a → IsCast f x b
cast_same f x a b e c = subst (IsCast f x) e c

-- ---- null and not null

cast_unless : (t u : Term) (r : Row) → cast_of t r u ≡ unless_null r u (stored_cast t r)
cast_unless null u r = refl
cast_unless (boolean n) u r = refl
cast_unless (primitive k n) u r = refl
cast_unless (decimal p s n) u r = refl
cast_unless (utf8 n) u r = refl
cast_unless (binary n) u r = refl
cast_unless (structure fs n) u r = refl
cast_unless (list t n) u r = refl
cast_unless (extension id t m) u r = refl
cast_unless (fixed_size_list t k n) u r = refl

null_value_is : (v : ValueTerm) → is_null_value v ≡ true → v ≡ null_value
null_value_is null_value h = refl
null_value_is (truth_value b) h = absurd (true≢false (sym h))
null_value_is (whole_value k z) h = absurd (true≢false (sym h))
null_value_is (decimal_value w z) h = absurd (true≢false (sym h))
null_value_is (bytes_value bs) h = absurd (true≢false (sym h))
null_value_is (text_value bs) h = absurd (true≢false (sym h))
null_value_is (list_value vs) h = absurd (true≢false (sym h))

pub null_cast : (t u : Term) (v : ValueTerm) (x : Result ValueTerm ScalarError) → is_null_value v ≡ true
    → IsCast (row_of u) x (if nullable u then Ok null_row else Err error.CastNull) → IsCast (row_of u) x (cast_of t (row_under t v) u)
null_cast t u v x h c =
    let r : row_under t v ≡ null_row = ap (row_under t) (null_value_is v h) ∙ ap (λ o. unwrap_or o null_row) (null_row_of t) in
    cast_same (row_of u) x _ _ (sym (cast_unless t u (row_under t v) ∙ ap (λ s. unless_null s u (stored_cast t s)) r)) c

-- a value that is not null has another row
never_null : {A : Type 0} (f : A → Row) (o : Option A) → ((a : A) → is_null (f a) ≡ false) → IsSome (option_map f o) → is_null (unwrap_or (option_map f o) null_row) ≡ false
never_null f (Some a) h some = h a
never_null f None h some = absurd (cc)

pub not_null : (t : Term) (v : ValueTerm) → is_null_value v ≡ false → IsSome (row_of t v) → is_null (row_under t v) ≡ false
not_null t null_value h some = absurd (true≢false h)
not_null (boolean n) (truth_value b) h some = refl
not_null (primitive k n) (whole_value l z) h some = refl
not_null (decimal p s n) (decimal_value w z) h some = refl
not_null (decimal p s n) (bytes_value bs) h some = never_null whole_row (number_of_bytes bs) (λ z. refl) some
not_null (utf8 n) (bytes_value bs) h some = refl
not_null (utf8 n) (text_value bs) h some = refl
not_null (binary n) (bytes_value bs) h some = refl
not_null (binary n) (text_value bs) h some = refl
not_null (structure fs n) (list_value vs) h some = never_null list_row (field_rows fs vs) (λ z. refl) some
not_null (list t n) (list_value vs) h some = never_null list_row (rows_by (row_of t) vs) (λ z. refl) some
not_null (fixed_size_list t k n) (list_value vs) h some = never_null list_row (rows_by (row_of t) vs) (λ z. refl) some
not_null (extension id t m) v h some = not_null t v h some
not_null _ _ h some = absurd (cc)

row_of_storage : (u : Term) (w : ValueTerm) (r : Row) → row_of (storage_of u) w ≡ Some r → row_of u w ≡ Some r
row_of_storage (extension id t m) w r e = e
row_of_storage null w r e = e
row_of_storage (boolean n) w r e = e
row_of_storage (primitive k n) w r e = e
row_of_storage (decimal p s n) w r e = e
row_of_storage (utf8 n) w r e = e
row_of_storage (binary n) w r e = e
row_of_storage (structure fs n) w r e = e
row_of_storage (list t n) w r e = e
row_of_storage (fixed_size_list t k n) w r e = e

pub other_cast : (t u d : Term) (v : ValueTerm) (x : Result ValueTerm ScalarError) → is_null_value v ≡ false → IsSome (row_of t v) → d ≡ storage_of u
    → IsCast (row_of d) x (stored_cast t (row_under t v) d) → IsCast (row_of u) x (cast_of t (row_under t v) u)
other_cast t u d v x h some e c =
    let there = subst (λ s. IsCast (row_of s) x (stored_cast t (row_under t v) s)) e c in
    let under = cast_as (row_of (storage_of u)) (row_of u) x _ (row_of_storage u) there in
    let r : is_null (row_under t v) ≡ false = not_null t v h some in
    cast_same (row_of u) x _ _ (sym (cast_unless t u (row_under t v)
    ∙ ap (λ b. if b then (if nullable u then Ok null_row else Err error.CastNull) else stored_cast t (row_under t v) (storage_of u)) r)) under

-- ---- lists

pub list_shape : (s : Shape) (o : TypeRef) → ((n : Nullability) × (s ≡ shapes.List o n)) ⊎ ((k : ℕ) × (n : Nullability) × (s ≡ shapes.FixedSizeList o k n)) → in_of (shape_term s) ≡ Some (every (ref_term o))
list_shape s o (inl (n, e)) = ap (λ x. in_of (shape_term x)) e
list_shape s o (inr (k, n, e)) = ap (λ x. in_of (shape_term x)) e
