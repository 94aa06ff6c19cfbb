-- A type that is not the call's is a WrongType.
use Rattle.std.specs.Prelude.{◌≡◌, Bool, true, false, Result, Ok, Err, if◌then◌else◌}
use Rattle.std.proofs.Common.{refl}
use Rattle.vortex_terms.specs.Term.{WholeKind, Term, boolean, primitive, utf8, binary, list, fixed_size_list}
use Rattle.vortex_terms.specs.Row.{Row, truth_row, whole_row, bytes_row}
use Rattle.vortex_types.specs.Predicates.{is_boolean, is_utf8, is_binary}
use Rattle.vortex_scalar_value.specs.declared.error.ScalarError.{ScalarError}
use Rattle.vortex_scalar_value.specs.declared.error.ScalarError.TheVariants as error
use Rattle.vortex_scalar.specs.ScalarTerm.{ScalarTerm}
use Rattle.vortex_scalar.specs.Made.{typed}
use Rattle.vortex_scalar.specs.LargeViews.{is_any_list}
use Rattle.vortex_scalar.specs.ViewRows.{number_in}
use Rattle.vortex_convert.specs.Conversions.{whole_in, truth_in, text_in, bytes_in, row_in, list_in, list_of, optional, is_whole, result_map, not_null}

-- the answer is that the type is wrong
abbrev pub IsRefused : Result Row ScalarError → Type 0
IsRefused found = found ≡ Err error.WrongType

apart : true ≡ false → ⊥
apart e = absurd cc

whole : (k : WholeKind) (t : Term) (r : Row) → is_whole k t ≡ false → IsRefused (row_in whole_row (whole_in k) (typed t r))
whole k (primitive l n) r e = λ i. result_map whole_row (not_null (if e i then Ok (number_in r) else Err error.WrongType))
whole k _ r e = refl

pub whole_refused : (k : WholeKind) (s : ScalarTerm) → is_whole k s.dtype ≡ false → IsRefused (row_in whole_row (whole_in k) s)
whole_refused k s e = whole k s.dtype s.row e

truth : (t : Term) (r : Row) → is_boolean t ≡ false → IsRefused (row_in truth_row truth_in (typed t r))
truth (boolean n) r e = absurd (apart e)
truth _ r e = refl

pub truth_refused : (s : ScalarTerm) → is_boolean s.dtype ≡ false → IsRefused (row_in truth_row truth_in s)
truth_refused s e = truth s.dtype s.row e

text : (t : Term) (r : Row) → is_utf8 t ≡ false → IsRefused (row_in bytes_row text_in (typed t r))
text (utf8 n) r e = absurd (apart e)
text _ r e = refl

pub text_refused : (s : ScalarTerm) → is_utf8 s.dtype ≡ false → IsRefused (row_in bytes_row text_in s)
text_refused s e = text s.dtype s.row e

bytes : (t : Term) (r : Row) → is_binary t ≡ false → IsRefused (row_in bytes_row bytes_in (typed t r))
bytes (binary n) r e = absurd (apart e)
bytes _ r e = refl

pub bytes_refused : (s : ScalarTerm) → is_binary s.dtype ≡ false → IsRefused (row_in bytes_row bytes_in s)
bytes_refused s e = bytes s.dtype s.row e

elements : (read : ScalarTerm → Result Row ScalarError) (t : Term) (r : Row) → is_any_list t ≡ false → IsRefused (row_in list_of (list_in read) (typed t r))
elements read (list t n) r e = absurd (apart e)
elements read (fixed_size_list t k n) r e = absurd (apart e)
elements read _ r e = refl

pub elements_refused : (read : ScalarTerm → Result Row ScalarError) (s : ScalarTerm) → is_any_list s.dtype ≡ false → IsRefused (row_in list_of (list_in read) s)
elements_refused read s e = elements read s.dtype s.row e

taken : (b c : Bool) (x : Result Row ScalarError) → b ≡ false → IsRefused (if b then x else Err error.WrongType)
taken false c x e = refl
taken true c x e = absurd (apart e)

pub optional_refused : (takes : Term → Bool) (read : ScalarTerm → Result Row ScalarError) (s : ScalarTerm) → takes s.dtype ≡ false → IsRefused (optional takes read s)
optional_refused takes read s e = taken (takes s.dtype) false _ e
