use Rattle.vortex_terms.specs.TermLaws.{is_within-Decides}
use Rattle.vortex_terms.proofs.types.limits_are_exact.Goals as goal

pub returns : goal.returns
returns c = is_within-Decides
