use Rattle.vortex_types.specs.DTypes.{term_of}
use Rattle.vortex_scalar.proofs.TextLemmas.{text_held}
use Rattle.vortex_scalar.proofs.views.fitting.Fitting.string.Goals as goal

pub string_in-requires : goal.string_in-requires
string_in-requires c = text_held (term_of c.self.inside.dtype.now) c.self.inside.value.now c.args.self.now c.self.invariant c.self.view_is c.requires
