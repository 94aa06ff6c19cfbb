use Rattle.std.proofs.Common.{sym, ◌∙◌}
use Rattle.vortex_scalar_value.proofs.Nesting.{no_levels, too_deep, one_more}
use Rattle.vortex_scalar_value.proofs.writing.+nesting.Goals as goal

pub all_nest_within-returns-then-not-nests_within :
    goal.all_nest_within-returns-then-not-nests_within
all_nest_within-returns-then-not-nests_within t c =
    too_deep c.args.values.now c.loop-value.value-index _ c.value-item.result c.args.levels c.loop-value-test.true c.value-item.is (sym c.nests_within.ensures ∙ c.if-not-nests_within.true)

pub all_nest_within-loop-value-preserved : goal.all_nest_within-loop-value-preserved
all_nest_within-loop-value-preserved t c =
    one_more c.args.values.now c.loop-value.value-index _ c.value-item.result c.args.levels c.loop-value-test.true c.value-item.is (sym c.nests_within.ensures ∙ c.if-not-nests_within.false) c.loop-value.invariant

pub nests_within-returns-then-levels-eq0 : goal.nests_within-returns-then-levels-eq0
nests_within-returns-then-levels-eq0 t c = no_levels c.args.value.now c.args.levels c.if-levels-eq0.true
