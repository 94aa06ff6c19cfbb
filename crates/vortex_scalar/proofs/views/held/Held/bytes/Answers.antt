use Rattle.vortex_types.specs.DTypes.{term_of}
use Rattle.vortex_scalar.proofs.Bounded.{bytes_fit, bytes_are}
use Rattle.vortex_scalar.proofs.views.held.Held.bytes.Goals as goal

pub invariant_of-result : goal.invariant_of-result
invariant_of-result c = bytes_fit (term_of c.args.dtype.now) c.in_ok-value.value c.args.bytes.now c.requires c.in_ok-value.ensures.value c.bytes_law.ensures

pub returns-clause-scalar : goal.returns-clause-scalar
returns-clause-scalar c = bytes_are (term_of c.args.dtype.now) c.in_ok-value.value c.args.bytes.now c.requires c.in_ok-value.ensures.value c.bytes_law.ensures
