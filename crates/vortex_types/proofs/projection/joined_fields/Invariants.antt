use Rattle.std.proofs.Common.{◌≡◌, ◌++◌, take}
use Rattle.vortex_types.proofs.projection.joined_fields.Given as goal

abbrev pub invariant-loop-field : goal.invariant-loop-field
invariant-loop-field l = l.joined.items ≡ take l.field-index l.fields

abbrev pub invariant-loop-field-2 : goal.invariant-loop-field-2
invariant-loop-field-2 l = l.joined.items ≡ l.fn.fields ++ take l.field-index l.others
