use Rattle.vortex_terms.specs.DistinctLaws.{distinct-push, codes_of-push}
use Rattle.vortex_terms.proofs.dictionary.one_row_more.Goals as goal

pub returns-clause-distinct : goal.returns-clause-distinct
returns-clause-distinct c = distinct-push

pub returns-clause-codes : goal.returns-clause-codes
returns-clause-codes c = codes_of-push
