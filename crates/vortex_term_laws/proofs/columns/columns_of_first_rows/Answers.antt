use Rattle.std.specs.Prelude.{refl}
use Rattle.vortex_term_laws.proofs.KeptLemmas.{columns-take}
use Rattle.vortex_term_laws.proofs.columns.columns_of_first_rows.Goals as goal

pub returns-clause-structs : goal.returns-clause-structs
returns-clause-structs c = λ fs b n rs. columns-take fs 0 n rs

pub returns-clause-extensions : goal.returns-clause-extensions
returns-clause-extensions c = λ id t m n rs. refl
