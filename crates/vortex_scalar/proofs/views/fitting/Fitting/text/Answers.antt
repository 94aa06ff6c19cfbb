use Rattle.vortex_types.specs.DTypes.{term_of}
use Rattle.vortex_scalar.proofs.TextLemmas.{text_held}
use Rattle.vortex_scalar.proofs.views.fitting.Fitting.text.Goals as goal

pub text_in-requires : goal.text_in-requires
text_in-requires c = text_held (term_of c.self.inside.dtype.now) c.self.inside.value.now c.args.self.now c.self.invariant c.self.view_is c.requires
