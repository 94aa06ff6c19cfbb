use Rattle.vortex_types.specs.DTypes.{term_of}
use Rattle.vortex_scalar.proofs.Rows.{row_fits}
use Rattle.vortex_scalar.proofs.views.fitting.Fitting.law.Goals as goal

pub returns-clause-fits : goal.returns-clause-fits
returns-clause-fits c = row_fits (term_of c.self.inside.dtype.now) c.self.inside.value.now c.args.self.now c.self.invariant c.self.view_is
