use Rattle.std.proofs.Common.{sym, ◌∙◌}
use Rattle.vortex_types.specs.DTypes.{term_of}
use Rattle.vortex_scalar.proofs.Rows.{null_same}
use Rattle.vortex_scalar.proofs.views.fitting.Fitting.is_null.Goals as goal

pub returns : goal.returns
returns c =
    c.is_null.ensures ∙ sym (null_same (term_of c.self.inside.dtype.now) c.self.inside.value.now c.args.self.now c.self.invariant c.self.view_is)
