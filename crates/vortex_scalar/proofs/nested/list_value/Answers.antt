use Rattle.vortex_scalar.proofs.Listed.{one_more}
use Rattle.vortex_scalar.proofs.nested.list_value.Goals as goal

pub loop-child-preserved : goal.loop-child-preserved
loop-child-preserved c =
    rw c.in_ok-push.ensures.items
    (one_more c.loop-child.yielded c.loop-child.values.items c.in-Some.child c.into_value.result c.loop-child.invariant c.into_value.ensures c.law.ensures.fits)
