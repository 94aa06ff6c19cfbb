use Rattle.std.proofs.Common.{◌≡◌, ◌*◌, ◌+◌, take}
use Rattle.vortex_terms.specs.Types.{names_of, types_of}
use Rattle.vortex_terms.specs.Weight.{weight, fields_weight}
use Rattle.vortex_schema.specs.Views.{fields_of, term_at}
use Rattle.vortex_types.proofs.reading.+reading.Given as goal

abbrev pub decreases-read_type : goal.decreases-read_type
decreases-read_type l = 2 * weight (term_at l.at)

abbrev pub decreases-read_fields : goal.decreases-read_fields
decreases-read_fields l = 2 * fields_weight (fields_of l.fields.now) + 1

abbrev pub invariant-read_fields-loop-i : goal.invariant-read_fields-loop-i
invariant-read_fields-loop-i l =
    (l.names.items ≡ take l.i (names_of (fields_of l.fields)))
    × (l.dtypes.items ≡ take l.i (types_of (fields_of l.fields)))
