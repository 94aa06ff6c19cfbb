use Rattle.vortex_number.proofs.Ranges.{there, back, same_range}
use Rattle.vortex_number.proofs.ptype.kinds_are_whole_kinds.Goals as goal

pub returns-clause-there : goal.returns-clause-there
returns-clause-there c = there

pub returns-clause-back : goal.returns-clause-back
returns-clause-back c = back

pub returns-clause-range : goal.returns-clause-range
returns-clause-range c = same_range
