use Rattle.std.proofs.Common.{arith, length}
use Rattle.vortex_mask.proofs.Rests.{picked_places, length-places, places_within}
use Rattle.vortex_mask.proofs.laws.filters_keep_places.Goals as goal

pub returns-clause-places : goal.returns-clause-places
returns-clause-places c = picked_places

pub returns-clause-count : goal.returns-clause-count
returns-clause-count c = length-places 0

pub returns-clause-range : goal.returns-clause-range
returns-clause-range c = λ m. places_within 0 m (length m) (omega arith)
