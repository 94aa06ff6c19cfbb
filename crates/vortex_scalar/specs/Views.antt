-- What a contract sees of a view: its type and its row, and of a decimal also the value that is kept.
use Rattle.std.specs.Prelude.{Option, Some, None}
use Rattle.vortex_terms.specs.Row.{truth_row, whole_row}
use Rattle.vortex_types.specs.DTypes.{term_of}
use Rattle.vortex_value.specs.PValue.{number_of}
use Rattle.vortex_value.specs.DecimalValue.{decimal_number, width_of}
use Rattle.vortex_value.specs.declared.decimal.DecimalValue.{DecimalValue}
use Rattle.vortex_scalar_value.specs.Value.{ValueTerm, null_value, decimal_value}
use Rattle.vortex_scalar.specs.declared.views.bool.BoolScalar.{BoolScalar}
use Rattle.vortex_scalar.specs.declared.views.primitive.PrimitiveScalar.{PrimitiveScalar}
use Rattle.vortex_scalar.specs.declared.views.decimal.DecimalScalar.{DecimalScalar}
use Rattle.vortex_scalar.specs.ScalarTerm.{ScalarTerm}
use Rattle.vortex_scalar.specs.Made.{typed}
use Rattle.vortex_scalar.specs.ViewRows.{or_null}

-- the type and the row of a view of truth values
abbrev pub bool_term : BoolScalar → ScalarTerm
bool_term s = typed (term_of s.dtype.now) (or_null truth_row s.value)

-- of a view of whole numbers
abbrev pub primitive_term : PrimitiveScalar → ScalarTerm
primitive_term s = typed (term_of s.dtype.now) (or_null (λ v. whole_row (number_of v)) s.pvalue)

-- of a view of decimals
abbrev pub decimal_term : DecimalScalar → ScalarTerm
decimal_term s = typed (term_of s.dtype.now) (or_null (λ v. whole_row (decimal_number v)) s.value)

-- the value of a decimal, or null
abbrev pub kept_value : Option DecimalValue → ValueTerm
kept_value None = null_value
kept_value (Some v) = decimal_value (width_of v) (decimal_number v)

-- the value that a view of a decimal keeps: it tells the width, which the row does not
abbrev pub decimal_kept : DecimalScalar → ValueTerm
decimal_kept s = kept_value s.value
