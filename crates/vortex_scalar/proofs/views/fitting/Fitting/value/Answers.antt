use Rattle.vortex_types.specs.DTypes.{term_of}
use Rattle.vortex_scalar.proofs.Rows.{row_is}
use Rattle.vortex_scalar.proofs.views.fitting.Fitting.value.Goals as goal

pub returns : goal.returns
returns c = row_is (term_of c.self.inside.dtype.now) c.self.inside.value.now c.args.self.now c.self.invariant c.self.view_is
