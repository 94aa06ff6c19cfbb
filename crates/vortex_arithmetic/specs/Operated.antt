-- The exact results of the operators of arithmetic on whole numbers: `operated`, `operated_within`.
use Rattle.std.specs.Prelude.{ℤ, pos, ◌+ℤ◌, ◌-ℤ◌, ◌*ℤ◌, int_div, Option, Some, None, if◌then◌else◌}
use Rattle.std.specs.Ordering.{int_eq}
use Rattle.vortex_number.specs.Format.{Format, fits}
use Rattle.vortex_number.specs.PType.{format_of}
use Rattle.vortex_number.specs.declared.ptype.PType.{PType}
use Rattle.vortex_value.specs.declared.numeric_operator.NumericOperator.{NumericOperator}
use Rattle.vortex_value.specs.declared.numeric_operator.NumericOperator.TheVariants.{Add, Sub, RSub}
use Rattle.vortex_value.specs.declared.numeric_operator.NumericOperator.TheVariants.{Mul, Div, RDiv}

-- a result, where there is one that has a place in the format
abbrev pub within : Format → Option ℤ → Option ℤ
within f None = None
within f (Some z) = if fits f z then Some z else None

-- the quotient, rounded toward zero, where the divisor is not 0
abbrev pub quotient_of : ℤ → ℤ → Option ℤ
quotient_of a b = if int_eq b (pos 0) then None else Some (int_div a b)

-- the result of an operator
abbrev pub operated : NumericOperator → ℤ → ℤ → Option ℤ
operated Add a b = Some (a +ℤ b)
operated Sub a b = Some (a -ℤ b)
operated RSub a b = Some (b -ℤ a)
operated Mul a b = Some (a *ℤ b)
operated Div a b = quotient_of a b
operated RDiv a b = quotient_of b a

-- the result, where it is in the range of the kind
abbrev pub operated_within : PType → NumericOperator → ℤ → ℤ → Option ℤ
operated_within k op a b = within (format_of k) (operated op a b)
