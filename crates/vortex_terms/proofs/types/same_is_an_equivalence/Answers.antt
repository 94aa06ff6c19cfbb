use Rattle.vortex_terms.specs.EqualityLaws.{Same-itself, Same-back, Same-along}
use Rattle.vortex_terms.proofs.types.same_is_an_equivalence.Goals as goal

pub returns-clause-reflexive : goal.returns-clause-reflexive
returns-clause-reflexive c = Same-itself

pub returns-clause-symmetric : goal.returns-clause-symmetric
returns-clause-symmetric c = Same-back

pub returns-clause-transitive : goal.returns-clause-transitive
returns-clause-transitive c = Same-along
