use Rattle.std.proofs.Common.{◌≡◌, map, take}
use Rattle.vortex_scalar.specs.inner.Parts.{named_value}
use Rattle.vortex_scalar.proofs.views.struct_.named_values.Given as goal

abbrev pub invariant-loop-name : goal.invariant-loop-name
invariant-loop-name l = l.named.items ≡ map (named_value l.fields l.values) (take l.name-index l.projection)
