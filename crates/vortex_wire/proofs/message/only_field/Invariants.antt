use Rattle.std.proofs.Common.{◌≡◌, length, option_map}
use Rattle.vortex_wire.specs.Field.{field_of}
use Rattle.vortex_wire.specs.Message.{is_member, only_field}
use Rattle.vortex_wire.proofs.Only.{still}
use Rattle.vortex_wire.proofs.message.only_field.Given as goal

abbrev pub invariant-loop-field : goal.invariant-loop-field
invariant-loop-field l = still (is_member l.first l.last) (option_map field_of l.only) l.fields ≡ only_field l.first l.last l.b

abbrev pub decreases-loop-field : goal.decreases-loop-field
decreases-loop-field l = length l.fields
