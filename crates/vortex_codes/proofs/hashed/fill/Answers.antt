use Rattle.std.proofs.Common.{◌∙◌}
use Rattle.vortex_codes.proofs.TableLemmas.{index_none, index_more, placed_at}
use Rattle.vortex_codes.proofs.hashed.fill.Goals as goal

pub loop-code-init : goal.loop-code-init
loop-code-init g c = index_none _ _ _ _ c.requires.free

pub loop-code-preserved : goal.loop-code-preserved
loop-code-preserved g c =
    index_more _ _ _ _ _ c.loop-code.invariant c.place-at.ensures.more c.place-at.ensures.free
    (placed_at (g.H.KeyHash.hash_of c.args.hash.now) _ _ _ _ _ _ _ c.place-at.ensures.placed c.start.ensures.value (c.place-at.ensures.more.same_length ∙ c.loop-code.auto.slots) c.hash.ensures c.key_of-key.ensures)
