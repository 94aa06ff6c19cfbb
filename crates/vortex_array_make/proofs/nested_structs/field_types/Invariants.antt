use Rattle.std.proofs.Common.{◌≡◌, map, take}
use Rattle.vortex_types.specs.DTypes.{term_of}
use Rattle.vortex_array_data.specs.Column.{Column}
use Rattle.vortex_array_make.proofs.nested_structs.field_types.Given as goal

abbrev pub invariant-loop-field : goal.invariant-loop-field
invariant-loop-field l =
    map term_of l.dtypes.items ≡ map (λ (f : Column). f.dtype) (take l.field-index l.fields)
