-- What conversions from scalars answer. Each finds WrongType exactly where the type is not the call's, and else what the
-- row holds, none for null.
--     whole_in, any_whole_in      a number of a kind, and of any kind
--     is_whole                    whether a type is that of numbers of a kind
--     truth_in, text_in, bytes_in, decimal_in, elements_in      what else a scalar may hold
--     unit_in                     null
--     not_null                    the same, null being refused
--     as_length                   a number as a length, one below 0 being refused
--     each                        the answers for each of a list, or the first refusal
--     row_in                      the row of what a scalar holds
--     list_in                     the rows of the elements of a list, each read so
--     optional                    a row, or null
--     Tells                       an answer that took no memory
--     width_precision             the precision of a decimal of a width
use Rattle.std.specs.Prelude.{◌≡◌, ℕ, ℤ, pos, negsuc, Bool, false, List, [], ◌∷◌, map, Option, Some, None, Result, Ok, Err, if◌then◌else◌}
use Rattle.std.specs.Option.{option_map}
use Rattle.vortex_terms.specs.Term.{WholeKind, Term, boolean, primitive, decimal, utf8, binary, list, fixed_size_list}
use Rattle.vortex_terms.specs.Equality.{kind_eq}
use Rattle.vortex_terms.specs.Row.{Row, is_null, null_row, truth_row, bytes_row, list_row, row_list, rows_from}
use Rattle.vortex_value.specs.declared.decimal.DecimalValueType.{DecimalValueType}
use Rattle.vortex_value.specs.declared.decimal.DecimalValueType.TheVariants as width
use Rattle.vortex_scalar_value.specs.declared.error.ScalarError.{ScalarError}
use Rattle.vortex_scalar_value.specs.declared.error.ScalarError.TheVariants as error
use Rattle.vortex_scalar.specs.ScalarTerm.{ScalarTerm}
use Rattle.vortex_scalar.specs.ViewRows.{number_in}

-- what a row holds, none for null and for rows of other forms
abbrev pub truth_of_row : Row → Option Bool
truth_of_row (truth_row b) = Some b
truth_of_row _ = None

abbrev pub bytes_of_row : Row → Option (List ℕ)
bytes_of_row (bytes_row bs) = Some bs
bytes_of_row _ = None

abbrev pub rows_of_row : Row → Option (List Row)
rows_of_row (list_row rs) = Some (row_list rs)
rows_of_row _ = None

-- a number of this kind
abbrev pub whole_in : WholeKind → ScalarTerm → Result (Option ℤ) ScalarError
whole_in k s = from s.dtype
  where
    from : Term → Result (Option ℤ) ScalarError
    from (primitive l n) = if kind_eq k l then Ok (number_in s.row) else Err error.WrongType
    from _ = Err error.WrongType

-- whether it is the type of numbers of this kind
abbrev pub is_whole : WholeKind → Term → Bool
is_whole k (primitive l n) = kind_eq k l
is_whole k _ = false

-- a number of any kind
abbrev pub any_whole_in : ScalarTerm → Result (Option ℤ) ScalarError
any_whole_in s = from s.dtype
  where
    from : Term → Result (Option ℤ) ScalarError
    from (primitive l n) = Ok (number_in s.row)
    from _ = Err error.WrongType

-- a truth value
abbrev pub truth_in : ScalarTerm → Result (Option Bool) ScalarError
truth_in s = from s.dtype
  where
    from : Term → Result (Option Bool) ScalarError
    from (boolean n) = Ok (truth_of_row s.row)
    from _ = Err error.WrongType

-- a text
abbrev pub text_in : ScalarTerm → Result (Option (List ℕ)) ScalarError
text_in s = from s.dtype
  where
    from : Term → Result (Option (List ℕ)) ScalarError
    from (utf8 n) = Ok (bytes_of_row s.row)
    from _ = Err error.WrongType

-- bytes
abbrev pub bytes_in : ScalarTerm → Result (Option (List ℕ)) ScalarError
bytes_in s = from s.dtype
  where
    from : Term → Result (Option (List ℕ)) ScalarError
    from (binary n) = Ok (bytes_of_row s.row)
    from _ = Err error.WrongType

-- the number of a decimal
abbrev pub decimal_in : ScalarTerm → Result (Option ℤ) ScalarError
decimal_in s = from s.dtype
  where
    from : Term → Result (Option ℤ) ScalarError
    from (decimal p z n) = Ok (number_in s.row)
    from _ = Err error.WrongType

-- the elements of a list, each with its type
abbrev pub elements_in : ScalarTerm → Result (Option (List ScalarTerm)) ScalarError
elements_in s = from s.dtype
  where
    of_type : Term → Result (Option (List ScalarTerm)) ScalarError
    of_type t = Ok (option_map (map (λ r. record { dtype = t; row = r })) (rows_of_row s.row))

    from : Term → Result (Option (List ScalarTerm)) ScalarError
    from (list t n) = of_type t
    from (fixed_size_list t k n) = of_type t
    from _ = Err error.WrongType

-- what is there, null being refused
abbrev pub not_null : {A : Type 0} → Result (Option A) ScalarError → Result A ScalarError
not_null (Ok (Some x)) = Ok x
not_null (Ok None) = Err error.IsNull
not_null (Err e) = Err e

-- a number as a length: one below 0 is refused
abbrev pub as_length : Result (Option ℤ) ScalarError → Result (Option ℕ) ScalarError
as_length (Ok (Some (pos n))) = Ok (Some n)
as_length (Ok (Some (negsuc n))) = Err error.OutOfRange
as_length (Ok None) = Ok None
as_length (Err e) = Err e

-- null, of whatever type
abbrev pub unit_in : ScalarTerm → Result (Unit {0}) ScalarError
unit_in s = if is_null s.row then Ok tt else Err error.WrongType

-- the answer, seen by view, is the wanted one
abbrev pub Tells : {X Y : Type 0} → (X → Y) → Result X ScalarError → Result Y ScalarError → Type 0
Tells view (Ok x) wanted = wanted ≡ Ok (view x)
Tells view (Err e) wanted = wanted ≡ Err e

-- what is found, seen by view
abbrev pub result_map : {A B : Type 0} → (A → B) → Result A ScalarError → Result B ScalarError
result_map view (Ok x) = Ok (view x)
result_map view (Err e) = Err e

-- the row of what is there, null being refused
abbrev pub row_in : {A : Type 0} → (A → Row) → (ScalarTerm → Result (Option A) ScalarError) → ScalarTerm → Result Row ScalarError
row_in row find s = result_map row (not_null (find s))

-- an answer before the others, or its refusal
abbrev pub before : {A : Type 0} → Result A ScalarError → Result (List A) ScalarError → Result (List A) ScalarError
before (Ok x) found = result_map (λ xs. x ∷ xs) found
before (Err e) found = Err e

-- the answers for each, in order, or the first refusal
abbrev pub each : {A B : Type 0} → (A → Result B ScalarError) → List A → Result (List B) ScalarError
each read [] = Ok []
each read (x ∷ xs) = before (read x) (each read xs)

-- the elements of a list, read so
abbrev pub list_in : (ScalarTerm → Result Row ScalarError) → ScalarTerm → Result (Option (List Row)) ScalarError
list_in read s = all (elements_in s)
  where
    all : Result (Option (List ScalarTerm)) ScalarError → Result (Option (List Row)) ScalarError
    all (Ok (Some ss)) = result_map Some (each read ss)
    all (Ok None) = Ok None
    all (Err e) = Err e

-- a row, null being taken, where the type is one that is taken
abbrev pub optional : (Term → Bool) → (ScalarTerm → Result Row ScalarError) → ScalarTerm → Result Row ScalarError
optional takes read s =
    if takes s.dtype then (if is_null s.row then Ok null_row else read s) else Err error.WrongType

-- the row of a list of these rows
abbrev pub list_of : List Row → Row
list_of rs = list_row (rows_from rs)

-- the precision under which a decimal of this width is made
abbrev pub width_precision : DecimalValueType → ℕ
width_precision width.I8 = 3
width_precision width.I16 = 5
width_precision width.I32 = 10
width_precision width.I64 = 19
width_precision width.I128 = 38
