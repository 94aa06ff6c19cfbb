use Rattle.vortex_terms.specs.JoinLaws.{parts-append, column-take, joined-take, joined-filter}
use Rattle.vortex_terms.proofs.columns.parts_go_with_their_rows.Goals as goal

pub returns-clause-behind : goal.returns-clause-behind
returns-clause-behind c = parts-append

pub returns-clause-first : goal.returns-clause-first
returns-clause-first c = column-take

pub returns-clause-first_elements : goal.returns-clause-first_elements
returns-clause-first_elements c = joined-take

pub returns-clause-kept_elements : goal.returns-clause-kept_elements
returns-clause-kept_elements c = joined-filter
