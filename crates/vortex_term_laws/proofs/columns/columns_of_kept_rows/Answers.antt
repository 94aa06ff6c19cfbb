use Rattle.std.specs.Prelude.{refl}
use Rattle.vortex_terms.specs.Parts.{field_row}
use Rattle.vortex_term_laws.proofs.KeptLemmas.{filter-kept, map-kept, columns-kept}
use Rattle.vortex_term_laws.proofs.columns.columns_of_kept_rows.Goals as goal

pub returns-clause-test : goal.returns-clause-test
returns-clause-test c = λ p rs. filter-kept p rs

pub returns-clause-column : goal.returns-clause-column
returns-clause-column c = λ t i mask rs. map-kept (field_row t i) mask rs

pub returns-clause-structs : goal.returns-clause-structs
returns-clause-structs c = λ fs n mask rs. columns-kept fs 0 mask rs

pub returns-clause-extensions : goal.returns-clause-extensions
returns-clause-extensions c = λ id t m mask rs. refl
