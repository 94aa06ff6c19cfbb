use Rattle.vortex_schema.specs.TypeTree.{name_trees}
use Rattle.vortex_types.specs.TypeRefs.{fields_term}
use Rattle.vortex_types.proofs.Written.{Lay}
use Rattle.vortex_types.proofs.writing.name_items.Given as goal

abbrev pub invariant-loop-i : goal.invariant-loop-i
invariant-loop-i l = Lay name_trees (fields_term l.fields) l.i l.names.items
