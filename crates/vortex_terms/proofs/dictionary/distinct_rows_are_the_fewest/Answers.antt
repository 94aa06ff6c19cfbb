use Rattle.std.proofs.Common.{◌<◌, length}
use Rattle.std.proofs.lemmas.List.Elements.{recursion_from_All}
use Rattle.vortex_terms.specs.DistinctLaws.{distinct-shortest}
use Rattle.vortex_terms.proofs.dictionary.distinct_rows_are_the_fewest.Goals as goal

pub returns : goal.returns
returns c = λ rs values codes d a e. distinct-shortest rs values codes d (recursion_from_All (λ n. n < length values) codes a) e
