use Rattle.vortex_mask.proofs.Unpacks.{truths_in-packed, length-packed}
use Rattle.vortex_mask.proofs.Rests.{rest-packed}
use Rattle.vortex_mask.proofs.laws.packed_masks_are_read.Goals as goal

pub returns-clause-same : goal.returns-clause-same
returns-clause-same c = truths_in-packed

pub returns-clause-few : goal.returns-clause-few
returns-clause-few c = length-packed

pub returns-clause-rest : goal.returns-clause-rest
returns-clause-rest c = rest-packed
