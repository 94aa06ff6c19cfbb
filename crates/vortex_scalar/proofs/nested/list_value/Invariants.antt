use Rattle.vortex_scalar_value.specs.Value.{values_from}
use Rattle.vortex_scalar.specs.inner.Kept.{AreIn}
use Rattle.vortex_scalar.proofs.nested.list_value.Given as goal

abbrev pub invariant-loop-child : goal.invariant-loop-child
invariant-loop-child l = AreIn l.yielded (values_from l.values.items)
