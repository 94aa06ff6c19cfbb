use Rattle.std.proofs.Common.{◌≡◌, length}
use Rattle.std.specs.Option.{option_copied}
use Rattle.vortex_wire.specs.Inside.{bytes_fields, message}
use Rattle.vortex_wire.proofs.BytesFound.{one_after}
use Rattle.vortex_wire.proofs.inside.message_field.Given as goal

abbrev pub invariant-loop-bytes : goal.invariant-loop-bytes
invariant-loop-bytes l = one_after (option_copied l.only) (bytes_fields l.number l.fields) ≡ message l.number l.b

abbrev pub decreases-loop-bytes : goal.decreases-loop-bytes
decreases-loop-bytes l = length l.fields
