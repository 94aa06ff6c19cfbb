use Rattle.std.proofs.Common.{◌≡◌, drop, length}
use Rattle.std.specs.Option.{option_map}
use Rattle.vortex_terms.specs.Types.{fields_from, fields_append}
use Rattle.vortex_terms.specs.StructFields.{projected}
use Rattle.vortex_types.proofs.struct_fields.StructFields.project.Given as goal

abbrev pub invariant-loop-name : goal.invariant-loop-name
invariant-loop-name l =
    (length l.names.items ≡ length l.dtypes.items)
    × (option_map (fields_append (fields_from l.names.items l.dtypes.items)) (projected l.self (drop l.name-index l.projection))
    ≡ projected l.self l.projection)
