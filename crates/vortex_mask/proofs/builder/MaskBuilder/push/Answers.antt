use Rattle.std.proofs.Common.{arith}
use Rattle.vortex_mask.proofs.Pushes.{part_below, view_more, view_full}
use Rattle.vortex_mask.proofs.builder.MaskBuilder.push.Goals as goal

pub invariant_of-self : goal.invariant_of-self
invariant_of-self c = (omega arith, part_below c.self.inside.filled c.self.inside.part c.args.value c.self.invariant.0 c.self.invariant.1)

pub returns-then-self-lt7-clause-pushed : goal.returns-then-self-lt7-clause-pushed
returns-then-self-lt7-clause-pushed c = view_more c.self.inside.bytes.items c.self.inside.filled c.self.inside.part c.args.value c.args.self.now c.self.view_is c.self.invariant.0 c.self.invariant.1

pub returns-clause-pushed : goal.returns-clause-pushed
returns-clause-pushed c = view_full c.self.inside.bytes.items c.push.new.self.items c.self.inside.filled c.self.inside.part c.args.value c.args.self.now c.self.view_is (omega (arith, c.self.invariant.0)) c.self.invariant.1 c.in_ok-push.ensures.items
