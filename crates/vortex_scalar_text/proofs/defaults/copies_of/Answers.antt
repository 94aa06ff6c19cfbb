use Rattle.std.proofs.Common.{◌∙◌, arith}
use Rattle.vortex_scalar_text.proofs.DefaultRows.{copied, all_copies}
use Rattle.vortex_scalar_text.proofs.defaults.copies_of.Goals as goal

pub loop-preserved : goal.loop-preserved
loop-preserved c =
    c.in_ok-push.ensures.items ∙ copied c.loop.values.items _ _ c.loop.counter c.loop.invariant c.in_ok-try_clone.ensures.value

pub returns-clause-value : goal.returns-clause-value
returns-clause-value c =
    all_copies c.from_list.result _ _ c.loop.counter c.args.size c.from_list.ensures.value c.loop.invariant (omega (arith, c.loop-test.false, c.loop.auto.counter-end))
