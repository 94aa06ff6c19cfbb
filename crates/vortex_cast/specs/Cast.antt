-- What a row of one type is under another type, and the first reason why it is none (this project's own rules).
--     cast_of t r u       the row r of type t under the type u, or the refusal
-- Refusals come in the order of the clauses: null, then the kind of the pair, then the number, the length or how many
-- fields there are, then what the first part of a list or a struct is refused for.
use Rattle.std.specs.Prelude.{ℕ, ℤ, ◌==◌, if◌then◌else◌, Option, Result, Ok, Err, ok_or}
use Rattle.std.specs.Option.{option_map}
use Rattle.vortex_number.specs.WholeKind.{ptype_of}
use Rattle.vortex_terms.specs.Term.{Term, null, boolean, primitive, decimal, utf8, binary, structure, list, extension, fixed_size_list, Fields, no_fields, field}
use Rattle.vortex_terms.specs.Types.{nullable, storage_of, field_count}
use Rattle.vortex_terms.specs.Equality.{is_same}
use Rattle.vortex_terms.specs.Row.{Row, null_row, whole_row, list_row, Rows, no_rows, row, row_count, is_null}
use Rattle.vortex_terms.specs.Tests.{is_in_range}
use Rattle.vortex_arithmetic.specs.Scaled.{rescaled, whole_of}
use Rattle.vortex_scalar_value.specs.declared.error.ScalarError.{ScalarError}
use Rattle.vortex_scalar_value.specs.declared.error.ScalarError.TheVariants as error

-- the number, or CastRange where there is none
abbrev pub in_range_or : Option ℤ → Result Row ScalarError
in_range_or found = ok_or (option_map whole_row found) error.CastRange

-- the list of the rows, or the refusal
abbrev pub listed : Result Rows ScalarError → Result Row ScalarError
listed (Ok rs) = Ok (list_row rs)
listed (Err e) = Err e

-- a row before others; of two refusals the first
abbrev pub row_first : Result Row ScalarError → Result Rows ScalarError → Result Rows ScalarError
row_first (Err e) _ = Err e
row_first (Ok r) (Err e) = Err e
row_first (Ok r) (Ok rs) = Ok (row r rs)

-- each row inside a list, or the first refusal
abbrev pub rows_cast : (Row → Result Row ScalarError) → Rows → Result Rows ScalarError
rows_cast f no_rows = Ok no_rows
rows_cast f (row r rs) = row_first (f r) (rows_cast f rs)

-- null is null under a nullable type, and another row is what is found under the type in which it is stored
abbrev pub unless_null : Row → Term → (Term → Result Row ScalarError) → Result Row ScalarError
unless_null r u found =
    if is_null r then (if nullable u then Ok null_row else Err error.CastNull) else found (storage_of u)

-- a truth value, a text or bytes, where the target is of the same kind
abbrev pub truth_cast : Row → Term → Result Row ScalarError
truth_cast r (boolean m) = Ok r
truth_cast r _ = Err error.CastKind

abbrev pub text_cast : Row → Term → Result Row ScalarError
text_cast r (utf8 m) = Ok r
text_cast r _ = Err error.CastKind

abbrev pub bytes_cast : Row → Term → Result Row ScalarError
bytes_cast r (binary m) = Ok r
bytes_cast r _ = Err error.CastKind

-- a whole number, where it is in range
abbrev pub whole_cast : Row → Term → Result Row ScalarError
whole_cast (whole_row z) (primitive l m) = if is_in_range l z then Ok (whole_row z) else Err error.CastRange
whole_cast _ _ = Err error.CastKind

-- A decimal of the scale s. At another scale it is ten times as much for each step, where that is whole and has a place
-- in 128 bits; as a whole number it is rounded toward zero, where the fraction lies between the kind's least number and
-- its greatest.
abbrev pub decimal_cast : ℤ → Row → Term → Result Row ScalarError
decimal_cast s (whole_row z) (decimal q o m) = in_range_or (rescaled z s o)
decimal_cast s (whole_row z) (primitive l m) = in_range_or (whole_of z s (ptype_of l))
decimal_cast s _ _ = Err error.CastKind

-- a list, whose elements are cast one by one
abbrev pub list_cast : (Row → Term → Result Row ScalarError) → Row → Term → Result Row ScalarError
list_cast f (list_row rs) (list u m) = listed (rows_cast (λ r. f r u) rs)
list_cast f (list_row rs) (fixed_size_list u k m) =
    if row_count rs == k then listed (rows_cast (λ r. f r u) rs) else Err error.CastLength
list_cast f _ _ = Err error.CastKind

-- a struct of n fields, which are cast by position: names are not looked at
abbrev pub struct_cast : ℕ → (Rows → Fields → Result Rows ScalarError) → Row → Term → Result Row ScalarError
struct_cast n f (list_row rs) (structure gs m) = if n == field_count gs then listed (f rs gs) else Err error.CastFields
struct_cast n f _ _ = Err error.CastKind

abbrev mutual
  pub cast_of : Term → Row → Term → Result Row ScalarError
  cast_of null r u = unless_null r u (λ _. Err error.CastKind)
  cast_of (boolean n) r u = unless_null r u (truth_cast r)
  cast_of (primitive k n) r u = unless_null r u (whole_cast r)
  cast_of (decimal p s n) r u = unless_null r u (decimal_cast s r)
  cast_of (utf8 n) r u = unless_null r u (text_cast r)
  cast_of (binary n) r u = unless_null r u (bytes_cast r)
  cast_of (structure fs n) r u = unless_null r u (struct_cast (field_count fs) (fields_cast fs) r)
  cast_of (list t n) r u = unless_null r u (list_cast (cast_of t) r)
  -- an extension is what its storage is, under the type of the storage alone
  cast_of (extension id t x) r u =
      unless_null r u (λ v. if is_same t v then cast_of t r v else Err error.CastKind)
  cast_of (fixed_size_list t k n) r u = unless_null r u (list_cast (cast_of t) r)

  -- each field of a struct, or the first refusal
  pub fields_cast : Fields → Rows → Fields → Result Rows ScalarError
  fields_cast no_fields rs gs = Ok no_rows
  fields_cast (field x t fs) (row r rs) (field y u gs) = row_first (cast_of t r u) (fields_cast fs rs gs)
  fields_cast (field x t fs) _ _ = Ok no_rows
