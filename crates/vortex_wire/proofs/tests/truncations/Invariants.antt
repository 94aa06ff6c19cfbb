use Rattle.std.proofs.Common.{length}
use Rattle.vortex_wire.proofs.tests.truncations.Given as goal

abbrev pub decreases-loop-field : goal.decreases-loop-field
decreases-loop-field g l = length l.fields
