use Rattle.std.specs.Prelude.{refl}
use Rattle.vortex_number.specs.Format.{number_of_le_bytes}
use Rattle.vortex_scalar_check.proofs.laws.values_are_worked.Goals as goal

pub returns-clause-negative : goal.returns-clause-negative
unfolding number_of_le_bytes
returns-clause-negative c = refl

pub returns-clause-lowest_first : goal.returns-clause-lowest_first
unfolding number_of_le_bytes
returns-clause-lowest_first c = refl
