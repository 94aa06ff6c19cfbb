use Rattle.vortex_leaves.proofs.Values.{constants}
use Rattle.vortex_leaves.proofs.constants.constants_are_copies.Goals as goal

pub returns : goal.returns
returns c = constants
