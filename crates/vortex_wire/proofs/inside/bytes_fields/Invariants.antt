use Rattle.std.proofs.Common.{◌≡◌, length}
use Rattle.vortex_wire.specs.Inside.{bytes_fields}
use Rattle.vortex_wire.proofs.BytesFound.{after}
use Rattle.vortex_wire.proofs.inside.bytes_fields.Given as goal

abbrev pub invariant-loop-found : goal.invariant-loop-found
invariant-loop-found l = after l.found.items (bytes_fields l.number l.fields) ≡ bytes_fields l.number l.b

abbrev pub decreases-loop-found : goal.decreases-loop-found
decreases-loop-found l = length l.fields
