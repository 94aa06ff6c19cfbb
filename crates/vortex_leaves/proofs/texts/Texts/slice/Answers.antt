use Rattle.vortex_leaves.proofs.Pieces.{texts_range, texts_pieces}
use Rattle.std.proofs.Common.{◌≤◌, length, subst, sym}
use Rattle.vortex_terms.specs.FromColumns.{pieces}
use Rattle.vortex_leaves.specs.Texts.{TextBytes, text_pieces}
use Rattle.vortex_leaves.proofs.texts.Texts.slice.Goals as goal

pub invariant_of-result : goal.invariant_of-result
invariant_of-result c =
    let within : c.args.to ≤ length (pieces c.self.inside.offsets c.self.inside.bytes) =
    subst (λ (t : TextBytes). c.args.to ≤ length (text_pieces t)) (sym c.self.view_is) c.requires.in_bounds in
    texts_range c.args.from c.args.to c.self.inside.offsets c.self.inside.bytes c.in_ok-offsets.offsets
    c.in_ok-bytes.bytes c.as_slice.result.now c.self.invariant c.requires.start_le_end within
    c.in_ok-offsets.ensures c.in_ok-bytes.ensures.cases c.as_slice.ensures c.are_bytes.ensures

pub returns : goal.returns
returns c =
    texts_pieces c.args.from c.args.to c.self.inside.offsets c.self.inside.bytes c.in_ok-offsets.offsets
    c.in_ok-bytes.bytes c.args.self.now c.self.view_is c.requires.start_le_end c.in_ok-offsets.ensures
    c.in_ok-bytes.ensures.cases
