use Rattle.std.proofs.Common.{◌≡◌, ◌+◌, ◌*◌}
use Rattle.std.specs.Prelude.{fold}
use Rattle.vortex_terms.specs.Weight.{weight, fields_weight}
use Rattle.vortex_types.specs.HashInput.{fields_writes}
use Rattle.vortex_types.specs.TypeRefs.{fields_term, ref_term}
use Rattle.vortex_types.proofs.Fields.{fields_drop}
use Rattle.vortex_types.proofs.hash.+hashing.Given as goal

abbrev pub decreases-hash_type : goal.decreases-hash_type
decreases-hash_type g l = 3 * weight (ref_term l.r)

abbrev pub decreases-hash_fields : goal.decreases-hash_fields
decreases-hash_fields g l = 3 * fields_weight (fields_term l.fields) + 2

abbrev pub decreases-hash_field : goal.decreases-hash_field
decreases-hash_field g l = 3 * fields_weight (fields_term l.fields) + 1

abbrev pub decreases-hash_part : goal.decreases-hash_part
decreases-hash_part g l = 3 * fields_weight (fields_term l.fields)

abbrev pub invariant-hash_fields-loop-i : goal.invariant-hash_fields-loop-i
invariant-hash_fields-loop-i g l =
    let write = g.H.Hasher.write in
    let fs = fields_term l.fields in
    fold write l.state (fields_writes (fields_drop l.i fs)) ≡ fold write l.initial.state (fields_writes fs)
