use Rattle.std.proofs.Common.{◌≡◌, take}
use Rattle.std.specs.List.{flat_map}
use Rattle.vortex_mask.specs.Truths.{kept}
use Rattle.vortex_leaves.proofs.select_chunks.kept_rows.Given as goal

abbrev pub invariant-loop-i : goal.invariant-loop-i
invariant-loop-i g l = l.bytes.items ≡ flat_map (λ c. c) (kept (take l.i l.mask) (take l.i l.rows))
