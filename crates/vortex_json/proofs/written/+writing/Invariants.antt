use Rattle.std.proofs.Common.{◌*◌, ◌+◌}
use Rattle.vortex_terms.specs.Weight.{weight, fields_weight}
use Rattle.vortex_types.specs.TypeRefs.{fields_term, ref_term}
use Rattle.vortex_json.specs.Written.{types_json}
use Rattle.vortex_json.proofs.Listed.{Lay}
use Rattle.vortex_json.proofs.written.+writing.Given as goal

abbrev pub decreases-type_value : goal.decreases-type_value
decreases-type_value l = 2 * weight (ref_term l.of)

abbrev pub decreases-type_values : goal.decreases-type_values
decreases-type_values l = 2 * fields_weight (fields_term l.fields) + 1

abbrev pub invariant-type_values-loop-i : goal.invariant-type_values-loop-i
invariant-type_values-loop-i l = Lay types_json (fields_term l.fields) l.i l.dtypes.items
