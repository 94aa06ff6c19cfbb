use Rattle.std.proofs.Common.{◌≡◌, [], take, slice_index_or}
use Rattle.std.specs.List.{flat_map}
use Rattle.vortex_leaves.proofs.select_chunks.taken_rows.Given as goal

abbrev pub invariant-loop-place : goal.invariant-loop-place
invariant-loop-place g l =
    l.bytes.items ≡ flat_map (λ place. slice_index_or l.rows place []) (take l.place-index l.places)
