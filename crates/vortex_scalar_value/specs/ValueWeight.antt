-- A measure of values for recursion: a list is heavier than each value inside it.
--     value_weight, values_weight      the measure
--     inside-lighter                   what is inside is lighter
use Rattle.std.specs.Prelude.{ℕ, ◌+◌, ◌≤◌, List, [], ◌∷◌}
use Rattle.std.proofs.Common.{arith}
use denote.Param.Weighed.{most}
use Rattle.vortex_scalar_value.specs.Value.{ValueTerm, null_value, truth_value, whole_value, decimal_value, bytes_value, text_value, list_value, ValueTerms, no_values, value, values_from}

-- two for each value
abbrev mutual
  pub value_weight : ValueTerm → ℕ
  value_weight null_value = 1
  value_weight (truth_value b) = 1
  value_weight (whole_value k z) = 1
  value_weight (decimal_value w z) = 1
  value_weight (bytes_value bs) = 1
  value_weight (text_value bs) = 1
  value_weight (list_value vs) = 1 + values_weight vs

  pub values_weight : ValueTerms → ℕ
  values_weight no_values = 0
  values_weight (value v vs) = 1 + value_weight v + values_weight vs

-- no value is as heavy as the values together
pub most_le-values_weight : (vs : List ValueTerm) → most (λ v. value_weight v + 1) vs ≤ values_weight (values_from vs)
most_le-values_weight [] = omega arith
most_le-values_weight (v ∷ vs) = omega (arith, most_le-values_weight vs)
