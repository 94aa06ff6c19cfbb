use Rattle.std.proofs.Common.{◌*◌, ◌+◌, ◌≡◌}
use Rattle.vortex_conformance.proofs.scalars.+rows.Given as goal

abbrev pub decreases-row_text : goal.decreases-row_text
decreases-row_text l = 2 * l.levels

abbrev pub decreases-rows_text : goal.decreases-rows_text
decreases-rows_text l = 2 * l.levels + 1

abbrev pub invariant-rows_text-loop-i : goal.invariant-rows_text-loop-i
invariant-rows_text-loop-i l = l.levels ≡ l.fn.levels
