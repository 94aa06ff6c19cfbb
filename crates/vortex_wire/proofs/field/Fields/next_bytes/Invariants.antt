use Rattle.std.proofs.Common.{◌≡◌, ◌≤◌, length}
use Rattle.vortex_wire.specs.Inside.{bytes_fields}
use Rattle.vortex_wire.proofs.field.Fields.next_bytes.Given as goal

abbrev pub invariant-loop-field : goal.invariant-loop-field
invariant-loop-field l =
    (bytes_fields l.number l.initial.self ≡ bytes_fields l.number l.self) × (length l.self ≤ length l.initial.self)

abbrev pub decreases-loop-field : goal.decreases-loop-field
decreases-loop-field l = length l.self
