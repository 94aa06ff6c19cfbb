use Rattle.std.specs.Prelude.{refl}
use Rattle.vortex_term_laws.proofs.TypeLemmas.{parts-stay}
use Rattle.vortex_term_laws.proofs.types.flags_leave_the_inside.Goals as goal

pub returns-clause-parts : goal.returns-clause-parts
returns-clause-parts c = parts-stay

pub returns-clause-storage : goal.returns-clause-storage
returns-clause-storage c = λ id t metadata m. refl
