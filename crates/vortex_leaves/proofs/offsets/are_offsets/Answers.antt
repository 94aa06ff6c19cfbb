use Rattle.vortex_leaves.proofs.Rising.{test_of_all}
use Rattle.vortex_leaves.proofs.offsets.are_offsets.Goals as goal

pub returns-then-is_length : goal.returns-then-is_length
returns-then-is_length c = test_of_all c.args.n c.args.end c.args.bytes.now _ c.is_length.result _ c.as_chunks.ensures.front c.is_length.ensures c.if-is_length.true c.rise_within.ensures
