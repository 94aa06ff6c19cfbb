use Rattle.std.proofs.Common.{◌≡◌, length}
use Rattle.std.specs.Option.{option_copied}
use Rattle.vortex_wire.specs.Inside.{bytes_fields, optional_bytes}
use Rattle.vortex_wire.proofs.BytesFound.{bytes_after}
use Rattle.vortex_wire.proofs.inside.optional_bytes.Given as goal

abbrev pub invariant-loop-bytes : goal.invariant-loop-bytes
invariant-loop-bytes l = bytes_after (option_copied l.last) (bytes_fields l.number l.fields) ≡ optional_bytes l.number l.b

abbrev pub decreases-loop-bytes : goal.decreases-loop-bytes
decreases-loop-bytes l = length l.fields
