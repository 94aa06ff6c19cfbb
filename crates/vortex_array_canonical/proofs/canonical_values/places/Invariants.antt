use Rattle.std.proofs.Common.{◌≡◌}
use Rattle.vortex_array_canonical.specs.inner.SameRows.{place_of}
use Rattle.vortex_array_canonical.proofs.RepeatedRows.{first_rows}
use Rattle.vortex_array_canonical.proofs.canonical_values.places.Given as goal

abbrev pub invariant-loop-i : goal.invariant-loop-i
invariant-loop-i l = l.out.items ≡ first_rows place_of l.i l.validity
