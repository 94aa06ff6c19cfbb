-- Where a call has a result, the operator can be used.
use Rattle.std.proofs.Common.{◌≡◌, Option, Some, refl, subst}
use Rattle.std.specs.Option.{IsSome}
use Rattle.vortex_value.specs.declared.numeric_operator.NumericOperator.{NumericOperator}
use Rattle.vortex_scalar.specs.ScalarTerm.{ScalarTerm}
use Rattle.vortex_scalar.specs.Arithmetic.{AreOfOneKind, combined, CanCombine}

pub can_combine : (op : NumericOperator) (s t r : ScalarTerm) → AreOfOneKind s t → Some r ≡ combined op s t
    → CanCombine op s t
can_combine op s t r same e = (same, subst (λ (found : Option ScalarTerm). IsSome found) e refl)
