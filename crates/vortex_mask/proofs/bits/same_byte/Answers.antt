use Rattle.vortex_mask.proofs.Arms.{trues_byte, falses_byte}
use Rattle.vortex_mask.proofs.bits.same_byte.Goals as goal

pub returns-then-value : goal.returns-then-value
returns-then-value c = rw c.if-value.true (trues_byte c.args.width c.requires)

pub returns : goal.returns
returns c = rw c.if-value.false (falses_byte c.args.width)
