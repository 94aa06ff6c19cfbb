use Rattle.std.proofs.Common.{◌≡◌, ◌+◌, ◌*◌}
use Rattle.std.specs.Prelude.{fold}
use Rattle.vortex_terms.specs.Weight.{weight}
use Rattle.vortex_types.specs.TypeRefs.{ref_term}
use Rattle.vortex_scalar_value.specs.Value.{values_from}
use Rattle.vortex_value_rows.specs.HashInput.{rows_writes}
use Rattle.vortex_value_rows.specs.Inside.{inside_term, in_weight}
use Rattle.vortex_value_rows.specs.HeldRow.{rows_under}
use Rattle.vortex_value_rows.proofs.Walks.{rows_from, HasRows}
use Rattle.vortex_value_rows.proofs.hash.+hashing.Given as goal

abbrev pub decreases-hash_row : goal.decreases-hash_row
decreases-hash_row g l = 2 * weight (ref_term l.of) + 1

abbrev pub decreases-hash_inside : goal.decreases-hash_inside
decreases-hash_inside g l = 2 * in_weight (inside_term l.inside)

abbrev pub invariant-hash_inside-loop-i : goal.invariant-hash_inside-loop-i
invariant-hash_inside-loop-i g l =
    let write = g.H.Hasher.write in
    let c = inside_term l.inside in
    (fold write l.state (rows_writes (rows_from c l.values l.i)) ≡ fold write l.initial.state (rows_writes (rows_under c (values_from l.values))))
    × HasRows c l.values l.i
