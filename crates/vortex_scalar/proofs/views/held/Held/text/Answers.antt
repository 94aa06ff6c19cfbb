use Rattle.vortex_types.specs.DTypes.{term_of}
use Rattle.vortex_scalar.proofs.Bounded.{text_fits, text_is}
use Rattle.vortex_scalar.proofs.views.held.Held.text.Goals as goal

pub invariant_of-result : goal.invariant_of-result
invariant_of-result c = text_fits (term_of c.args.dtype.now) c.in_ok-value.value c.args.text.now c.requires c.in_ok-value.ensures.value c.utf8.text

pub returns-clause-scalar : goal.returns-clause-scalar
returns-clause-scalar c = text_is (term_of c.args.dtype.now) c.in_ok-value.value c.args.text.now c.requires c.in_ok-value.ensures.value c.utf8.text
