use Rattle.std.specs.List.{AllWithin}
use Rattle.vortex_terms.specs.Types.{Legal}
use Rattle.vortex_types.proofs.field_dtype.fields_law.Given as goal

abbrev pub invariant-loop-field : goal.invariant-loop-field
invariant-loop-field l = AllWithin Legal l.types 0 l.field-index
