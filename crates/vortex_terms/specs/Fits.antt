-- Which rows a type has.
--     InRange k z     the number lies in the range of the kind
--     Fits t r        r is a row of the type t
--     row_form t      the form that each row of the type has that is not null
use Rattle.std.specs.Prelude.{◌≡◌, ℤ, FitsSigned}
use Rattle.std.specs.Int.{FitsUnsigned, w8, w16, w32, w64, w128}
use Rattle.std.specs.Bool.{IsTrue}
use Rattle.std.specs.Str.{IsUtf8}
use Rattle.vortex_terms.specs.Term.{WholeKind, unsigned_8, unsigned_16, unsigned_32, unsigned_64, signed_8, signed_16, signed_32, signed_64, Term, null, boolean, primitive, decimal, utf8, binary, structure, list, extension, fixed_size_list, Fields, no_fields, field}
use Rattle.vortex_terms.specs.Types.{IsBytes}
use Rattle.vortex_terms.specs.Row.{Row, null_row, truth_row, whole_row, bytes_row, list_row, Rows, no_rows, row, row_count, AllRows, Form, null_form, truth_form, whole_form, bytes_form, list_form}

-- the number lies in the range of Rust's integer type
abbrev pub InRange : WholeKind → ℤ → Type 0
InRange unsigned_8 z = FitsUnsigned w8 z
InRange unsigned_16 z = FitsUnsigned w16 z
InRange unsigned_32 z = FitsUnsigned w32 z
InRange unsigned_64 z = FitsUnsigned w64 z
InRange signed_8 z = FitsSigned w8 z
InRange signed_16 z = FitsSigned w16 z
InRange signed_32 z = FitsSigned w32 z
InRange signed_64 z = FitsSigned w64 z

-- null fits a nullable type, and each other row the type that it has the form of
abbrev mutual
  pub Fits : Term → Row → Type 0
  Fits null null_row = Unit {0}
  Fits (boolean n) null_row = IsTrue n
  Fits (boolean n) (truth_row b) = Unit {0}
  Fits (primitive k n) null_row = IsTrue n
  Fits (primitive k n) (whole_row z) = InRange k z
  -- a decimal is stored in 128 bits; its digits are not counted
  Fits (decimal p s n) null_row = IsTrue n
  Fits (decimal p s n) (whole_row z) = FitsSigned w128 z
  Fits (utf8 n) null_row = IsTrue n
  Fits (utf8 n) (bytes_row bs) = IsUtf8 bs
  Fits (binary n) null_row = IsTrue n
  Fits (binary n) (bytes_row bs) = IsBytes bs
  Fits (structure fs n) null_row = IsTrue n
  Fits (structure fs n) (list_row rs) = FitsFields fs rs
  Fits (list t n) null_row = IsTrue n
  Fits (list t n) (list_row rs) = AllRows (Fits t) rs
  Fits (extension id t m) r = Fits t r
  Fits (fixed_size_list t k n) null_row = IsTrue n
  Fits (fixed_size_list t k n) (list_row rs) = (row_count rs ≡ k) × AllRows (Fits t) rs
  Fits _ _ = ⊥

  -- one row for each field, each of its field's type
  pub FitsFields : Fields → Rows → Type 0
  FitsFields no_fields no_rows = Unit {0}
  FitsFields (field x t fs) (row r rs) = Fits t r × FitsFields fs rs
  FitsFields _ _ = ⊥

-- the form that each row of the type has that is not null
abbrev pub row_form : Term → Form
row_form null = null_form
row_form (boolean n) = truth_form
row_form (primitive k n) = whole_form
row_form (decimal p s n) = whole_form
row_form (utf8 n) = bytes_form
row_form (binary n) = bytes_form
row_form (structure fs n) = list_form
row_form (list t n) = list_form
row_form (extension id t m) = row_form t
row_form (fixed_size_list t k n) = list_form
