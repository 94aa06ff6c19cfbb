use Rattle.std.proofs.Common.{◌≡◌, length}
use Rattle.vortex_prelude.specs.Chain.{◌>>=◌}
use Rattle.vortex_wire.specs.Field.{fields_of}
use Rattle.vortex_wire.specs.Message.{last_varint, singular_varint}
use Rattle.vortex_wire.proofs.Singular.{since}
use Rattle.vortex_wire.proofs.message.singular_varint.Given as goal

abbrev pub invariant-loop-field : goal.invariant-loop-field
invariant-loop-field l = since l.last (fields_of l.fields >>= last_varint l.number) ≡ singular_varint l.number l.b

abbrev pub decreases-loop-field : goal.decreases-loop-field
decreases-loop-field l = length l.fields
