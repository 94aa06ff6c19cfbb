use Rattle.vortex_dict.proofs.LawLemmas.{bytes_no_limits, numbers_no_limits}
use Rattle.vortex_dict.proofs.laws.nothing_is_over_no_limits.Goals as goal

pub returns-clause-bytes : goal.returns-clause-bytes
returns-clause-bytes c = bytes_no_limits

pub returns-clause-numbers : goal.returns-clause-numbers
returns-clause-numbers c = numbers_no_limits
