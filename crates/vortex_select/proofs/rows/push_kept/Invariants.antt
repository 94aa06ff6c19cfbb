use Rattle.std.proofs.Common.{◌≡◌, ◌++◌, length, filter}
use Rattle.std.specs.List.{flat_map}
use Rattle.vortex_select.specs.inner.KeptRows.{keeps}
use Rattle.vortex_select.proofs.rows.push_kept.Given as goal

-- what was appended, and what is kept of the rest, are what is kept of all
abbrev pub invariant-loop-rest : goal.invariant-loop-rest
invariant-loop-rest l = record {
  kept : l.out.items ++ flat_map (λ row. row) (filter (keeps l.query) l.rest) ≡ l.initial.out.items ++ flat_map (λ row. row) (filter (keeps l.query) l.initial.rest);
  long : length l.block ≡ 256;
}

abbrev pub decreases-loop-rest : goal.decreases-loop-rest
decreases-loop-rest l = length l.rest
