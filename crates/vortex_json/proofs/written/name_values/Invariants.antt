use Rattle.vortex_types.specs.TypeRefs.{fields_term}
use Rattle.vortex_json.proofs.Listed.{Lay, names_json}
use Rattle.vortex_json.proofs.written.name_values.Given as goal

abbrev pub invariant-loop-i : goal.invariant-loop-i
invariant-loop-i l = Lay names_json (fields_term l.fields) l.i l.names.items
