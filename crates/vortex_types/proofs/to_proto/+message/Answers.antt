use Rattle.std.proofs.Common.{ℕ, ap, ◌∙◌, arith}
use Rattle.vortex_terms.specs.Weight.{field-lighter}
use Rattle.vortex_wire.specs.Inside.{headed}
use Rattle.vortex_proto.specs.TypeBytes.{body_bytes, type_bytes}
use Rattle.vortex_types.specs.TypeRefs.{fields_term, ref_term}
use Rattle.vortex_types.proofs.Messages.{types_start, type_before, ok_same, headed_is}
use Rattle.vortex_types.proofs.to_proto.+message.Goals as goal

pub with_field_types-loop-left-init : goal.with_field_types-loop-left-init
with_field_types-loop-left-init t c = types_start (fields_term c.args.fields) c.len-left.result c.args.after c.len-left.ensures

pub with_field_types-with_part-requires : goal.with_field_types-with_part-requires
with_field_types-with_part-requires t c =
    let lighter = field-lighter (fields_term c.args.fields) _ (ref_term c.field_type.result) c.field_type.ensures in
    (omega (arith, lighter), (omega arith, omega arith))

pub with_field_types-loop-left-preserved : goal.with_field_types-loop-left-preserved
with_field_types-loop-left-preserved t c =
    type_before (fields_term c.args.fields) c.loop-left.left c.args.after c.loop-left.dtypes c.in_ok-dtypes.dtypes (ref_term c.field_type.result) c.loop-left-test.true c.field_type.ensures c.in_ok-dtypes.ensures.written c.loop-left.invariant

pub with_part-returns-clause-written : goal.with_part-returns-clause-written
with_part-returns-clause-written t c =
    ok_same c.with_header.result _ _ (headed_is c.args.number c.len-before.result c.in_ok-message.message (type_bytes (ref_term c.args.of)) c.args.after c.in_ok-message.ensures.written c.len-before.ensures) c.with_header.ensures.written

pub with_type-returns-clause-written : goal.with_type-returns-clause-written
with_type-returns-clause-written t c =
    let number = ap (λ (n : ℕ). headed n c.len-before.result c.in_ok-body.body) (c.from.ensures ∙ c.kind.ensures) in
    ok_same c.with_header.result _ _ (number ∙ headed_is _ c.len-before.result c.in_ok-body.body (body_bytes (ref_term c.args.of)) c.args.after c.in_ok-body.ensures.written c.len-before.ensures) c.with_header.ensures.written
