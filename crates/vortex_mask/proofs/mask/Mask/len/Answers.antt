use Rattle.std.proofs.Common.{sym, ◌∙◌, ap, length}
use Rattle.vortex_mask.proofs.Held.{length-shown}
use Rattle.vortex_mask.proofs.mask.Mask.len.Goals as goal

pub returns : goal.returns
returns c = sym (ap length (sym c.self.view_is) ∙ length-shown c.self.inside.content c.self.inside.len c.self.invariant)
