-- What a native type reads: a nullable form of a type is read as the type itself, and the row of a value as that row.
--     whole_either, truth_either, text_either, bytes_either, list_either, optional_either
--         whether the type is nullable is no matter for what is read
--     whole_taken, boolean_taken, text_taken, bytes_taken, list_taken      nor for whether it is taken
--     list_kept, optional_kept      the row of a list, and of a value that may be null
use Rattle.std.specs.Prelude.{◌≡◌, Bool, true, false, List, [], ◌∷◌, map, Option, Some, None, Result, Ok, Err, if◌then◌else◌, unwrap_or}
use Rattle.std.specs.Option.{option_map}
use Rattle.std.proofs.Common.{refl, ap, ◌∙◌}
use Rattle.vortex_terms.specs.Term.{WholeKind, Term, null, list}
use Rattle.vortex_terms.specs.Row.{Row, null_row, truth_row, whole_row, bytes_row, list_row, is_null}
use Rattle.vortex_terms.specs.RowLaws.{row_list-from}
use Rattle.vortex_terms.specs.Nullability.{with_nullability}
use Rattle.vortex_types.specs.Predicates.{is_boolean, is_utf8, is_binary}
use Rattle.vortex_scalar_value.specs.declared.error.ScalarError.{ScalarError}
use Rattle.vortex_scalar_value.specs.declared.error.ScalarError.TheVariants as error
use Rattle.vortex_scalar.specs.ScalarTerm.{ScalarTerm}
use Rattle.vortex_scalar.specs.Made.{typed}
use Rattle.vortex_scalar.specs.LargeViews.{is_any_list}
use Rattle.vortex_convert.specs.Conversions.{whole_in, truth_in, text_in, bytes_in, row_in, list_in, list_of, optional, is_whole, result_map, before, each, not_null}

abbrev pub Reads : Type 0
Reads = ScalarTerm → Result Row ScalarError

-- whether the type is nullable is no matter for what is read
abbrev pub IsEither : Reads → Type 0
IsEither reads = (t : Term) (n : Bool) (r : Row) → reads (typed (with_nullability t n) r) ≡ reads (typed t r)

-- nor for whether it is taken
abbrev pub IsEitherTaken : (Term → Bool) → Type 0
IsEitherTaken takes = (t : Term) (n : Bool) → takes (with_nullability t n) ≡ takes t

whole_by_types : (k : WholeKind) (t : Term) (n : Bool) (r : Row) → row_in whole_row (whole_in k) (typed (with_nullability t n) r) ≡ row_in whole_row (whole_in k) (typed t r)
whole_by_types k null n r = refl
whole_by_types k _ n r = refl

pub whole_either : (k : WholeKind) → IsEither (row_in whole_row (whole_in k))
whole_either k = whole_by_types k

truth_by_types : (t : Term) (n : Bool) (r : Row) → row_in truth_row truth_in (typed (with_nullability t n) r) ≡ row_in truth_row truth_in (typed t r)
truth_by_types null n r = refl
truth_by_types _ n r = refl

pub truth_either : IsEither (row_in truth_row truth_in)
truth_either = truth_by_types

text_by_types : (t : Term) (n : Bool) (r : Row) → row_in bytes_row text_in (typed (with_nullability t n) r) ≡ row_in bytes_row text_in (typed t r)
text_by_types null n r = refl
text_by_types _ n r = refl

pub text_either : IsEither (row_in bytes_row text_in)
text_either = text_by_types

bytes_by_types : (t : Term) (n : Bool) (r : Row) → row_in bytes_row bytes_in (typed (with_nullability t n) r) ≡ row_in bytes_row bytes_in (typed t r)
bytes_by_types null n r = refl
bytes_by_types _ n r = refl

pub bytes_either : IsEither (row_in bytes_row bytes_in)
bytes_either = bytes_by_types

whole_test : (k : WholeKind) (t : Term) (n : Bool) → is_whole k (with_nullability t n) ≡ is_whole k t
whole_test k null n = refl
whole_test k _ n = refl

pub whole_taken : (k : WholeKind) → IsEitherTaken (is_whole k)
whole_taken k = whole_test k

boolean_test : (t : Term) (n : Bool) → is_boolean (with_nullability t n) ≡ is_boolean t
boolean_test null n = refl
boolean_test _ n = refl

pub boolean_taken : IsEitherTaken is_boolean
boolean_taken = boolean_test

text_test : (t : Term) (n : Bool) → is_utf8 (with_nullability t n) ≡ is_utf8 t
text_test null n = refl
text_test _ n = refl

pub text_taken : IsEitherTaken is_utf8
text_taken = text_test

bytes_test : (t : Term) (n : Bool) → is_binary (with_nullability t n) ≡ is_binary t
bytes_test null n = refl
bytes_test _ n = refl

pub bytes_taken : IsEitherTaken is_binary
bytes_taken = bytes_test

list_test : (t : Term) (n : Bool) → is_any_list (with_nullability t n) ≡ is_any_list t
list_test null n = refl
list_test _ n = refl

pub list_taken : IsEitherTaken is_any_list
list_taken = list_test

list_by_types : (read : Reads) (t : Term) (n : Bool) (r : Row) → row_in list_of (list_in read) (typed (with_nullability t n) r) ≡ row_in list_of (list_in read) (typed t r)
list_by_types read null n r = refl
list_by_types read _ n r = refl

pub list_either : (read : Reads) → IsEither (row_in list_of (list_in read))
list_either read = list_by_types read

both : (a b : Bool) (r : Row) (x y : Result Row ScalarError) → a ≡ b → x ≡ y
    → (if a then (if is_null r then Ok null_row else x) else Err error.WrongType) ≡ (if b then (if is_null r then Ok null_row else y) else Err error.WrongType)
both a b r x y e f = λ i. if e i then (if is_null r then Ok null_row else f i) else Err error.WrongType

pub optional_either : (takes : Term → Bool) (read : Reads) → IsEitherTaken takes → IsEither read → IsEither (optional takes read)
optional_either takes read taken either t n r = both (takes (with_nullability t n)) (takes t) r _ _ (taken t n) (either t n r)

pub optional_taken : (takes : Term → Bool) (t : Term) → IsEitherTaken takes → takes t ≡ true → takes (with_nullability t true) ≡ true
optional_taken takes t taken own = taken t true ∙ own

-- the row of each value
each_kept : {X : Type 0} (read : Reads) (t : Term) (row_of : X → Row) → ((x : X) → read (typed t (row_of x)) ≡ Ok (row_of x)) → (xs : List X)
    → each read (map (typed t) (map row_of xs)) ≡ Ok (map row_of xs)
each_kept read t row_of kept [] = refl
each_kept read t row_of kept (x ∷ xs) = λ i. before (kept x i) (each_kept read t row_of kept xs i)

-- the row of a list of values
pub list_kept : {X : Type 0} (read : Reads) (t : Term) (row_of : X → Row) → ((x : X) → read (typed t (row_of x)) ≡ Ok (row_of x)) → (xs : List X)
    → row_in list_of (list_in read) (typed (list t false) (list_of (map row_of xs))) ≡ Ok (list_of (map row_of xs))
list_kept read t row_of kept xs =
    ap (λ found. result_map list_of (not_null (result_map Some found)))
    (ap (λ rs. each read (map (typed t) rs)) (row_list-from (map row_of xs)) ∙ each_kept read t row_of kept xs)

-- a row is null, or it is read
null_or_read : (b : Bool) (r : Row) (found : Result Row ScalarError) → b ≡ true → found ≡ Ok r
    → (if b then (if is_null r then Ok null_row else found) else Err error.WrongType) ≡ Ok r
null_or_read b null_row found e f = λ i. if e i then Ok null_row else Err error.WrongType
null_or_read b (truth_row a) found e f = λ i. if e i then f i else Err error.WrongType
null_or_read b (whole_row z) found e f = λ i. if e i then f i else Err error.WrongType
null_or_read b (bytes_row bs) found e f = λ i. if e i then f i else Err error.WrongType
null_or_read b (list_row rs) found e f = λ i. if e i then f i else Err error.WrongType

-- the row of a value that may be null
pub optional_kept : {X : Type 0} (takes : Term → Bool) (read : Reads) (t : Term) (row_of : X → Row) → IsEitherTaken takes → takes t ≡ true → IsEither read
    → ((x : X) → read (typed t (row_of x)) ≡ Ok (row_of x)) → (o : Option X)
    → optional takes read (typed (with_nullability t true) (unwrap_or (option_map row_of o) null_row)) ≡ Ok (unwrap_or (option_map row_of o) null_row)
optional_kept takes read t row_of taken own either kept None = λ i. if optional_taken takes t taken own i then Ok null_row else Err error.WrongType
optional_kept takes read t row_of taken own either kept (Some x) =
    null_or_read (takes (with_nullability t true)) (row_of x) (read (typed (with_nullability t true) (row_of x))) (optional_taken takes t taken own) (either t true (row_of x) ∙ kept x)
