-- The steps of a cast.
--     stored_cast       a row that is not null, under a type that is no extension
--     IsShared          a value is shared, or the types are of two kinds
--     IsNumber          the value is a decimal of this number
--     pvalue_term, decimal_term     a whole number, and a decimal of 128 bits, as values
--     in_row            the row of a list, or of a struct
--     ArePaired         both are of lists, or of structs of as many fields
--     in_cast           the rows inside, or the first refusal
use Rattle.std.specs.Prelude.{◌≡◌, ℤ, pos, Bool, true, false, Option, Some, None, Result, Ok, Err, if◌then◌else◌}
use Rattle.std.specs.Option.{option_map}
use Rattle.vortex_terms.specs.Term.{Term, null, boolean, primitive, decimal, utf8, binary, structure, list, extension, fixed_size_list}
use Rattle.vortex_terms.specs.Types.{field_count}
use Rattle.vortex_terms.specs.Equality.{is_same}
use Rattle.vortex_terms.specs.Row.{Row, whole_row, list_row, Rows, no_rows}
use Rattle.vortex_number.specs.WholeKind.{whole_kind}
use Rattle.vortex_value.specs.PValue.{kind_of, number_of}
use Rattle.vortex_value.specs.declared.pvalue.PValue.{PValue}
use Rattle.vortex_value.specs.declared.decimal.DecimalValueType.TheVariants as width
use Rattle.vortex_scalar_value.specs.Value.{ValueTerm, whole_value, decimal_value, list_value}
use Rattle.vortex_scalar_value.specs.declared.error.ScalarError.{ScalarError}
use Rattle.vortex_scalar_value.specs.declared.error.ScalarError.TheVariants as error
use Rattle.vortex_value_rows.specs.RowOf.{row_of}
use Rattle.vortex_value_rows.specs.Inside.{InTerm, every, each, in_rows}
use Rattle.vortex_cast.specs.Cast.{truth_cast, text_cast, bytes_cast, whole_cast, decimal_cast, list_cast, struct_cast, cast_of, fields_cast, rows_cast}

abbrev pub stored_cast : Term → Row → Term → Result Row ScalarError
stored_cast null r v = Err error.CastKind
stored_cast (boolean n) r v = truth_cast r v
stored_cast (primitive k n) r v = whole_cast r v
stored_cast (decimal p s n) r v = decimal_cast s r v
stored_cast (utf8 n) r v = text_cast r v
stored_cast (binary n) r v = bytes_cast r v
stored_cast (structure fs n) r v = struct_cast (field_count fs) (fields_cast fs) r v
stored_cast (list t n) r v = list_cast (cast_of t) r v
stored_cast (extension id t x) r v = if is_same t v then cast_of t r v else Err error.CastKind
stored_cast (fixed_size_list t k n) r v = list_cast (cast_of t) r v

abbrev pub IsShared : Bool → ValueTerm → Result ValueTerm ScalarError → Type 0
IsShared true v (Ok w) = w ≡ v
IsShared true v (Err e) = e ≡ error.OutOfMemory
IsShared false v (Ok w) = ⊥
IsShared false v (Err e) = e ≡ error.CastKind

abbrev pub IsNumber : ValueTerm → ℤ → Type 0
IsNumber v z = row_of (decimal 1 (pos 0) false) v ≡ Some (whole_row z)

abbrev pub pvalue_term : PValue → ValueTerm
pvalue_term v = whole_value (whole_kind (kind_of v)) (number_of v)

abbrev pub decimal_term : ℤ → ValueTerm
decimal_term z = decimal_value width.I128 z

abbrev pub in_row : InTerm → ValueTerm → Option Row
in_row d (list_value vs) = option_map list_row (in_rows d vs)
in_row d _ = None

abbrev pub ArePaired : InTerm → InTerm → Type 0
ArePaired (every t) (every u) = Unit {0}
ArePaired (each fs) (each gs) = field_count fs ≡ field_count gs
ArePaired _ _ = ⊥

abbrev pub in_cast : InTerm → InTerm → Rows → Result Rows ScalarError
in_cast (every t) (every u) rs = rows_cast (λ r. cast_of t r u) rs
in_cast (each fs) (each gs) rs = fields_cast fs rs gs
in_cast _ _ rs = Ok no_rows
