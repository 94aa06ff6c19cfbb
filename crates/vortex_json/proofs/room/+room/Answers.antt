use Rattle.std.proofs.Common.{sym, subst, arith}
use Rattle.vortex_types.specs.TypeRefs.{fields_term, ref_term}
use Rattle.vortex_json.specs.inner.Room.{FieldsLeave}
use Rattle.vortex_json.proofs.Limits.{ends_at_name, ends_at_type, goes_on, goes_all}
use Rattle.vortex_json.proofs.room.+room.Goals as goal

pub room_after_fields-returns-in_err-after_name : goal.room_after_fields-returns-in_err-after_name
room_after_fields-returns-in_err-after_name t c =
    let fs = fields_term c.args.fields in
    subst (FieldsLeave c.args.depth fs c.args.room) (sym c.from_residual.ensures)
    (ends_at_name c.args.depth fs c.args.room c.loop-i.left c.field_name.result.now c.loop-i.i c.field_name.ensures c.loop-i.invariant c.in_err-after_name.ensures)

pub room_after_fields-returns-in_err-left : goal.room_after_fields-returns-in_err-left
room_after_fields-returns-in_err-left t c =
    let fs = fields_term c.args.fields in
    subst (FieldsLeave c.args.depth fs c.args.room) (sym c.from_residual-in_err-left.ensures)
    (ends_at_type c.args.depth fs c.args.room c.loop-i.left c.in_ok-after_name.after_name c.field_name.result.now (ref_term c.field_type.result) c.loop-i.i c.field_name.ensures c.field_type.ensures c.loop-i.invariant c.in_ok-after_name.ensures c.in_err-left.ensures)

pub room_after_fields-loop-i-preserved : goal.room_after_fields-loop-i-preserved
room_after_fields-loop-i-preserved t c =
    let fs = fields_term c.args.fields in
    goes_on c.args.depth fs c.args.room c.loop-i.left c.in_ok-after_name.after_name c.in_ok-left.left c.field_name.result.now (ref_term c.field_type.result) c.loop-i.i c.field_name.ensures c.field_type.ensures c.loop-i.invariant c.in_ok-after_name.ensures c.in_ok-left.ensures

pub room_after_fields-returns : goal.room_after_fields-returns
room_after_fields-returns t c =
    goes_all c.args.depth (fields_term c.args.fields) c.args.room c.loop-i.left c.loop-i.i (omega (arith, c.len-i-end.ensures)) c.loop-i.invariant
