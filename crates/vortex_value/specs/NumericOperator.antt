-- The operators of arithmetic with their operands changed over: `swapped`, `operator_text`.
use Rattle.std.specs.Prelude.{ℕ, List, codes}
use Rattle.vortex_value.specs.declared.numeric_operator.NumericOperator.{NumericOperator}
use Rattle.vortex_value.specs.declared.numeric_operator.NumericOperator.TheVariants.{Add, Sub, RSub}
use Rattle.vortex_value.specs.declared.numeric_operator.NumericOperator.TheVariants.{Mul, Div, RDiv}

-- the operator that means the same once its operands have changed places
abbrev pub swapped : NumericOperator → NumericOperator
swapped Add = Add
swapped Sub = RSub
swapped RSub = Sub
swapped Mul = Mul
swapped Div = RDiv
swapped RDiv = Div

-- the name of an operator
abbrev pub operator_text : NumericOperator → List ℕ
operator_text Add = codes "Add"
operator_text Sub = codes "Sub"
operator_text RSub = codes "RSub"
operator_text Mul = codes "Mul"
operator_text Div = codes "Div"
operator_text RDiv = codes "RDiv"
