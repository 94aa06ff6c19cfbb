use Rattle.std.specs.Prelude.{refl}
use Rattle.vortex_terms.specs.Row.{copies}
use Rattle.vortex_array_check.proofs.laws.columns_are_worked.Goals as goal

pub returns-clause-nulls : goal.returns-clause-nulls
unfolding copies
returns-clause-nulls c = refl
