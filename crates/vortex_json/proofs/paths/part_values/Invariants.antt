use Rattle.vortex_dtype.specs.Paths.{part_of}
use Rattle.vortex_names.specs.declared.selector.Field.{Field}
use Rattle.vortex_json.specs.Written.{part_json}
use Rattle.vortex_json.proofs.Listed.{Written}
use Rattle.vortex_json.proofs.paths.part_values.Given as goal

abbrev pub invariant-loop-field : goal.invariant-loop-field
invariant-loop-field l = Written (λ (field : Field). part_json (part_of field)) l.fields l.field-index l.values.items
