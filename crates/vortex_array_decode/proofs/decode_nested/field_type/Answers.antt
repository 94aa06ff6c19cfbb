use Rattle.std.proofs.Common.{rules, ◌≡◌, Option, None}
use Rattle.vortex_terms.specs.Term.{Term}
use Rattle.vortex_terms.specs.Types.{field_at}
use Rattle.vortex_array_data.proofs.FieldTypes.{field_there}
use Rattle.vortex_array_decode.proofs.decode_nested.field_type.Goals as goal

pub unreachable-requires : goal.unreachable-requires
unreachable-requires c =
    let none : ◌≡◌ {A = Option Term} None (field_at c.args.fields.now c.args.i) = search rules in
    field_there c.args.fields.now c.args.i c.requires none
