use Rattle.std.proofs.Common.{◌≡◌, length}
use Rattle.std.specs.Prelude.{is_some}
use Rattle.vortex_wire.specs.Field.{fields_of}
use Rattle.vortex_wire.proofs.inside.is_message.Given as goal

abbrev pub invariant-loop-field : goal.invariant-loop-field
invariant-loop-field l = is_some (fields_of l.fields) ≡ is_some (fields_of l.b)

abbrev pub decreases-loop-field : goal.decreases-loop-field
decreases-loop-field l = length l.fields
