use Rattle.std.specs.List.{AllWithin}
use Rattle.vortex_array_data.specs.Column.{Holds}
use Rattle.vortex_array_make.proofs.nested_structs.fields_law.Given as goal

abbrev pub invariant-loop-field : goal.invariant-loop-field
invariant-loop-field l = AllWithin Holds l.fields 0 l.field-index
