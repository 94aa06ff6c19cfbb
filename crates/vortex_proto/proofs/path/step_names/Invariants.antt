use Rattle.std.proofs.Common.{◌≡◌, drop}
use Rattle.vortex_wire.specs.Finds.{all_bytes_of}
use Rattle.vortex_wire.proofs.BytesFound.{after}
use Rattle.vortex_proto.specs.PathMessage.{names_in}
use Rattle.vortex_proto.proofs.path.step_names.Given as goal

abbrev pub invariant-loop-i : goal.invariant-loop-i
invariant-loop-i l = after l.names.items (names_in (all_bytes_of (drop l.i l.steps))) ≡ names_in (all_bytes_of l.steps)
