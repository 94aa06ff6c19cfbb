use Rattle.vortex_terms.specs.PathLaws.{resolved-field, resolved-append, resolved-bounded, target-resolved}
use Rattle.vortex_terms.proofs.paths.paths_resolve.Goals as goal

pub returns-clause-fields : goal.returns-clause-fields
returns-clause-fields c = resolved-field

pub returns-clause-on : goal.returns-clause-on
returns-clause-on c = resolved-append

pub returns-clause-bounded : goal.returns-clause-bounded
returns-clause-bounded c = resolved-bounded

pub returns-clause-names : goal.returns-clause-names
returns-clause-names c = target-resolved
