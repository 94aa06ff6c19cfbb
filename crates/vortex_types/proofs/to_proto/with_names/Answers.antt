use Rattle.std.proofs.Common.{◌++◌, List, ℕ, ap, ◌∙◌}
use Rattle.vortex_wire.specs.Field.{bytes_field}
use Rattle.vortex_types.specs.TypeRefs.{fields_term}
use Rattle.vortex_types.proofs.Messages.{names_start, name_before}
use Rattle.vortex_types.proofs.to_proto.with_names.Goals as goal

pub loop-left-init : goal.loop-left-init
loop-left-init c = names_start 1 (fields_term c.args.fields) c.len-left.result c.args.after c.len-left.ensures

pub loop-left-preserved : goal.loop-left-preserved
loop-left-preserved c =
    let made = c.in_ok-names.ensures.written ∙ ap (λ (x : List ℕ). bytes_field 1 x ++ c.loop-left.names) c.as_bytes.ensures.value in
    name_before 1 (fields_term c.args.fields) c.loop-left.left c.args.after c.loop-left.names c.in_ok-names.names c.field_name.result.now c.loop-left-test.true c.field_name.ensures made c.loop-left.invariant
