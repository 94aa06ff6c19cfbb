use Rattle.std.proofs.Common.{◌+◌, ◌*◌, map, take}
use Rattle.std.specs.Prelude.{codes}
use Rattle.std.specs.Fmt.{HasWritten, IsPlainFormatter}
use Rattle.vortex_terms.specs.Weight.{weight, fields_weight}
use Rattle.vortex_types.specs.TypeRefs.{fields_term, ref_term}
use Rattle.vortex_scalar_value.specs.Joined.{joined}
use Rattle.vortex_scalar_text.specs.ScalarText.{scalar_text, field_texts}
use Rattle.vortex_scalar_text.proofs.texts.+printing.Given as goal

abbrev pub decreases-write_scalar : goal.decreases-write_scalar
decreases-write_scalar g l = 3 * weight (ref_term l.of)

abbrev pub decreases-write_stored : goal.decreases-write_stored
decreases-write_stored g l = 3 * weight (ref_term l.storage) + 1

abbrev pub decreases-write_list : goal.decreases-write_list
decreases-write_list g l = 3 * weight (ref_term l.element) + 1

abbrev pub decreases-write_struct : goal.decreases-write_struct
decreases-write_struct g l = 3 * fields_weight (fields_term l.fields) + 2

abbrev pub decreases-write_field : goal.decreases-write_field
decreases-write_field g l = 3 * fields_weight (fields_term l.fields) + 1

abbrev pub decreases-write_part : goal.decreases-write_part
decreases-write_part g l = 3 * fields_weight (fields_term l.fields)

abbrev pub invariant-write_list-loop-i : goal.invariant-write_list-loop-i
invariant-write_list-loop-i g l =
    IsPlainFormatter l.initial.f → HasWritten g.W.Write.write_str_gives l.initial.f (joined (codes ", ") (take l.i (map (scalar_text (ref_term l.element)) l.values))) l.f

abbrev pub invariant-write_struct-loop-i : goal.invariant-write_struct-loop-i
invariant-write_struct-loop-i g l =
    IsPlainFormatter l.initial.f → HasWritten g.W.Write.write_str_gives l.initial.f (joined (codes ", ") (take l.i (field_texts (fields_term l.fields) l.values))) l.f
