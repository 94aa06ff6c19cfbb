use Rattle.vortex_types.specs.TypeRefs.{fields_term}
use Rattle.vortex_types.proofs.Messages.{Behind, names_bytes}
use Rattle.vortex_types.proofs.to_proto.with_names.Given as goal

abbrev pub invariant-loop-left : goal.invariant-loop-left
invariant-loop-left l = Behind (names_bytes 1) (fields_term l.fields) l.left l.fn.after l.names

abbrev pub decreases-loop-left : goal.decreases-loop-left
decreases-loop-left l = l.left
