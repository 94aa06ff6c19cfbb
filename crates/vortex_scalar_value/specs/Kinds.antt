-- What a contract sees of a value, from how it is kept.
--     value_of      the value of what is kept
use Rattle.vortex_number.specs.WholeKind.{whole_kind}
use Rattle.vortex_value.specs.PValue.{kind_of, number_of}
use Rattle.vortex_value.specs.DecimalValue.{width_of, decimal_number}
use Rattle.vortex_scalar_value.specs.Value.{ValueTerm, null_value, truth_value, whole_value, decimal_value, bytes_value, text_value, list_value, values_from}
use Rattle.vortex_scalar_value.specs.declared.scalar_value.InnerScalarValue.{InnerScalarValue}
use Rattle.vortex_scalar_value.specs.declared.scalar_value.InnerScalarValue.TheVariants as inner
use Rattle.vortex_scalar_value.specs.declared.value_ref.ValueRef.{ValueRef}
use Rattle.vortex_scalar_value.specs.declared.value_ref.ValueRef.TheVariants as refs

-- the value of what is kept
abbrev pub value_of : InnerScalarValue → ValueTerm
value_of inner.Null = null_value
value_of (inner.Bool b) = truth_value b
value_of (inner.Primitive p) = whole_value (whole_kind (kind_of p)) (number_of p)
value_of (inner.Decimal d) = decimal_value (width_of d) (decimal_number d)
value_of (inner.Buffer b) = bytes_value b.bytes
value_of (inner.BufferString s) = text_value s.bytes
value_of (inner.List vs) = list_value (values_from vs.value.items)

-- the value of a value that is taken apart
abbrev pub ref_value : ValueRef → ValueTerm
ref_value refs.Null = null_value
ref_value (refs.Bool b) = truth_value b
ref_value (refs.Primitive p) = whole_value (whole_kind (kind_of p)) (number_of p)
ref_value (refs.Decimal d) = decimal_value (width_of d) (decimal_number d)
ref_value (refs.Buffer b) = bytes_value b.now.bytes
ref_value (refs.BufferString s) = text_value s.now.bytes
ref_value (refs.List vs) = list_value (values_from vs.now)
