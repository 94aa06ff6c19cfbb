use Rattle.std.specs.Prelude.{false}
use Rattle.std.proofs.Common.{ap}
use Rattle.vortex_terms.specs.Term.{list, fixed_size_list, extension}
use Rattle.vortex_term_laws.proofs.TypeLemmas.{Same-fields}
use Rattle.vortex_term_laws.proofs.types.the_same_inside_is_the_same.Goals as goal

pub returns-clause-lists : goal.returns-clause-lists
returns-clause-lists c = λ t u m n s. ap (λ v. list v false) s

pub returns-clause-fixed_size_lists : goal.returns-clause-fixed_size_lists
returns-clause-fixed_size_lists c = λ t u k m n s. ap (λ v. fixed_size_list v k false) s

pub returns-clause-extensions : goal.returns-clause-extensions
returns-clause-extensions c = λ id t u metadata s. ap (λ v. extension id v metadata) s

pub returns-clause-structs : goal.returns-clause-structs
returns-clause-structs c = Same-fields
