use Rattle.vortex_leaves.proofs.Rising.{held_exact, held_again}
use Rattle.vortex_leaves.proofs.offsets.Offsets.bytes.Goals as goal

pub returns-clause-exact : goal.returns-clause-exact
returns-clause-exact c = held_exact c.self.inside.len c.self.inside.bytes c.args.self.now c.self.view_is c.self.invariant.exact

pub returns-clause-offsets : goal.returns-clause-offsets
returns-clause-offsets c = held_again c.self.inside.len c.self.inside.bytes c.args.self.now c.self.view_is
