use Rattle.std.proofs.Common.{sym, ap, not, ◌∙◌}
use Rattle.vortex_types.specs.DTypes.{term_of}
use Rattle.vortex_scalar.proofs.Rows.{null_same}
use Rattle.vortex_scalar.proofs.scalar.Scalar.is_valid.Goals as goal

pub returns : goal.returns
returns c =
    ap not (c.is_null.ensures ∙ sym (null_same (term_of c.self.inside.dtype) c.self.inside.value c.args.self.now c.self.invariant c.self.view_is))
