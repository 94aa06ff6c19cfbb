use Rattle.std.proofs.Common.{◌+◌, ◌*◌, take}
use Rattle.std.specs.Fmt.{HasWritten, IsPlainFormatter}
use Rattle.vortex_terms.specs.Weight.{weight, fields_weight}
use Rattle.vortex_types.specs.Text.{field_texts, listed}
use Rattle.vortex_types.specs.TypeRefs.{fields_term, ref_term}
use Rattle.vortex_types.proofs.display.+printing.Given as goal

abbrev pub decreases-write_type : goal.decreases-write_type
decreases-write_type g l = 3 * weight (ref_term l.r) + 1

abbrev pub decreases-write_bare : goal.decreases-write_bare
decreases-write_bare g l = 3 * weight (ref_term l.r)

abbrev pub decreases-write_fields : goal.decreases-write_fields
decreases-write_fields g l = 3 * fields_weight (fields_term l.fields) + 2

abbrev pub decreases-write_field : goal.decreases-write_field
decreases-write_field g l = 3 * fields_weight (fields_term l.fields) + 1

abbrev pub decreases-write_part : goal.decreases-write_part
decreases-write_part g l = 3 * fields_weight (fields_term l.fields)

abbrev pub invariant-write_fields-loop-i : goal.invariant-write_fields-loop-i
invariant-write_fields-loop-i g l =
    IsPlainFormatter l.initial.f → HasWritten g.W.Write.write_str_gives l.initial.f (listed (take l.i (field_texts (fields_term l.fields)))) l.f
