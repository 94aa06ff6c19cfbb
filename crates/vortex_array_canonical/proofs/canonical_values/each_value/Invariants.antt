use Rattle.std.proofs.Common.{◌≡◌}
use Rattle.vortex_array_canonical.specs.inner.SameRows.{value_where}
use Rattle.vortex_array_canonical.proofs.RepeatedRows.{first_rows}
use Rattle.vortex_array_canonical.proofs.canonical_values.each_value.Given as goal

abbrev pub invariant-loop-i : goal.invariant-loop-i
invariant-loop-i l = l.out.items ≡ first_rows (value_where l.value) l.i l.validity
