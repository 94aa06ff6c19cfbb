use Rattle.std.proofs.Common.{arith, refl}
use Rattle.vortex_codes.proofs.OrderLemmas.{order_none, order_more, order_tree}
use Rattle.vortex_codes.proofs.ordered.order_of.Goals as goal

pub loop-code-init : goal.loop-code-init
loop-code-init c = order_none _ _ c.new-codes.ensures.empty

pub loop-code-preserved : goal.loop-code-preserved
loop-code-preserved c =
    order_more _ _ c.loop-code.codes c.insert.new.codes _ _ c.loop-code.invariant c.in_ok-insert.ensures.inserted refl c.key_of.ensures
    (λ k l e. let same = c.requires.apart k c.loop-code.code (omega (arith, l, c.loop-code-test.true)) c.loop-code-test.true e in omega (arith, l, same))

pub returns : goal.returns
returns c = order_tree _ _ _ _ c.loop-code.code c.requires.parted c.requires.apart c.loop-code.invariant (omega (arith, c.loop-code-test.false, c.loop-code.auto.code-end))
