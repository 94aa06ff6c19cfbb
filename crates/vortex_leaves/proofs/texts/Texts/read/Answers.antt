use Rattle.std.proofs.Common.{rules}
use Rattle.vortex_leaves.proofs.Rising.{texts_hold_again}
use Rattle.vortex_leaves.proofs.texts.Texts.read.Goals as goal

pub invariant_of-result : goal.invariant_of-result
invariant_of-result c =
    texts_hold_again c.args.n c.in_ok-offsets.offsets c.as_slice-slice.result.now c.in_ok-clone.field-0 (search rules) (search rules) (search rules)
