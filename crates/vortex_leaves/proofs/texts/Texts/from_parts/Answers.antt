use Rattle.vortex_leaves.proofs.Pieces.{texts_made}
use Rattle.vortex_leaves.proofs.texts.Texts.from_parts.Goals as goal

pub invariant_of-result : goal.invariant_of-result
invariant_of-result c =
    texts_made c.args.offsets c.args.bytes c.as_slice.result.now c.law.ensures.count c.law.ensures.rise c.requires
    c.as_slice.ensures c.are_bytes.ensures
