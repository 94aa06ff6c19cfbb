-- What stands in a value is lighter than it.
use Rattle.std.specs.Prelude.{max, ◌≤◌}
use Rattle.std.proofs.Common.{arith}
use Rattle.vortex_scalar_value.specs.Kinds.{value_of}
use Rattle.vortex_scalar_value.specs.ValueWeight.{value_weight, most_le-values_weight}
use Rattle.vortex_scalar_value.specs.declared.scalar_value.InnerScalarValue.{InnerScalarValue}
use Rattle.vortex_scalar_value.specs.declared.scalar_value.InnerScalarValue.TheVariants as inner
use Rattle.vortex_scalar_value.specs.declared.scalar_value.ScalarValue.TheDeep.{deep-InnerScalarValue}

-- what a value holds
pub inner_falls : (v : InnerScalarValue) → max (deep-InnerScalarValue v) 0 ≤ value_weight (value_of v)
inner_falls inner.Null = omega arith
inner_falls (inner.Bool b) = omega arith
inner_falls (inner.Primitive p) = omega arith
inner_falls (inner.Decimal d) = omega arith
inner_falls (inner.Buffer b) = omega arith
inner_falls (inner.BufferString s) = omega arith
inner_falls (inner.List vs) = omega (arith, most_le-values_weight vs.value.items)
