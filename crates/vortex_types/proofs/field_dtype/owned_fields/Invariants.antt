use Rattle.std.proofs.Common.{◌≡◌, map}
use Rattle.vortex_types.specs.DTypes.{term_of}
use Rattle.vortex_types.proofs.field_dtype.owned_fields.Given as goal

abbrev pub invariant-loop-dtype : goal.invariant-loop-dtype
invariant-loop-dtype l = l.fields.items ≡ map term_of l.yielded
