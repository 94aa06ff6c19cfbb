use Rattle.vortex_bounds.proofs.BoundLemmas.{lower_le, upper_ge, upper_short}
use Rattle.vortex_bounds.proofs.laws.bounds_of_bytes.Goals as goal

pub returns-clause-lower : goal.returns-clause-lower
returns-clause-lower c = lower_le

pub returns-clause-upper : goal.returns-clause-upper
returns-clause-upper c = upper_ge

pub returns-clause-upper_length : goal.returns-clause-upper_length
returns-clause-upper_length c = upper_short
