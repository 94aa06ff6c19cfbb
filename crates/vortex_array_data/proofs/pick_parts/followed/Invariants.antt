use Rattle.std.proofs.Common.{◌≡◌, ◌++◌, ◌-◌}
use Rattle.vortex_array_data.specs.inner.Picked.{from_on}
use Rattle.vortex_array_data.proofs.pick_parts.followed.Given as goal

abbrev pub invariant-loop-place : goal.invariant-loop-place
invariant-loop-place l = l.out.items ≡ l.fn.given.items ++ from_on (l.place - l.from) l.from
