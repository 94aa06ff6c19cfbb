use Rattle.std.specs.Prelude.{refl}
use Rattle.vortex_term_laws.proofs.TypeLemmas.{leaves-end}
use Rattle.vortex_term_laws.proofs.types.paths_end.Goals as goal

pub returns-clause-no_element : goal.returns-clause-no_element
returns-clause-no_element c = λ fs n path. refl

pub returns-clause-no_field : goal.returns-clause-no_field
returns-clause-no_field c = λ t n x path. refl

pub returns-clause-no_fixed_field : goal.returns-clause-no_fixed_field
returns-clause-no_fixed_field c = λ t k n x path. refl

pub returns-clause-leaves : goal.returns-clause-leaves
returns-clause-leaves c = leaves-end
