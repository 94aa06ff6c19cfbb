use Rattle.std.proofs.Common.{◌≡◌, [], refl, ap, inr}
use Rattle.vortex_wire.specs.Field.{Varint, Bytes, content_of, field_of}
use Rattle.vortex_scalar_value.specs.Reading.{list_in, value_in}
use Rattle.vortex_scalar_value.proofs.Listed.{starts, refused, no_value, goes_on, ends, field_came, no_bytes, listed, list_refused}
use Rattle.vortex_scalar_value.proofs.Read.{by_member, no_member, other_member}
use Rattle.vortex_scalar_value.proofs.reading.+reading.Goals as goal

pub read_list-loop-field-init : goal.read_list-loop-field-init
read_list-loop-field-init t c = rw (c.new-values.ensures.items, c.new-fields.ensures) (starts (value_in c.args.levels) c.args.body.now)

pub read_list-returns-in_err-read_value-in-Bytes :
    goal.read_list-returns-in_err-read_value-in-Bytes
read_list-returns-in_err-read_value-in-Bytes t c =
    let came = field_came c.loop-field.fields c.next_field.new.self c.in-Some.field c.in-Ok.field c.in-Some.ensures.fields c.in-Ok.is in
    list_refused c.from_residual.result c.in_err-read_value-in-Bytes.field-0.0 (value_in c.args.levels c.in-Bytes.part.now) (list_in (value_in c.args.levels) c.args.body.now)
    c.from_residual.ensures.1 c.in_err-read_value-in-Bytes.ensures
    (λ none. no_value (value_in c.args.levels) c.loop-field.values.items (field_of c.in-Ok.field) c.loop-field.fields c.next_field.new.self c.in-Bytes.part.now _ c.if-field-eq-LIST_VALUES.true (ap content_of c.in-Bytes.is) came none c.loop-field.invariant)

pub read_list-loop-field-preserved-in_ok-push-in-Bytes :
    goal.read_list-loop-field-preserved-in_ok-push-in-Bytes
read_list-loop-field-preserved-in_ok-push-in-Bytes t c =
    let came = field_came c.loop-field.fields c.next_field.new.self c.in-Some.field c.in-Ok.field c.in-Some.ensures.fields c.in-Ok.is in
    goes_on (value_in c.args.levels) c.loop-field.values.items c.push.new.self.items (field_of c.in-Ok.field) c.loop-field.fields c.next_field.new.self c.in-Bytes.part.now c.in_ok-read_value-in-Bytes.field-0 _
    c.if-field-eq-LIST_VALUES.true (ap content_of c.in-Bytes.is) came c.in_ok-read_value-in-Bytes.ensures c.in_ok-push-in-Bytes.ensures.items c.loop-field.invariant

pub read_list-returns-in_default-value : goal.read_list-returns-in_default-value
read_list-returns-in_default-value t c =
    let came = field_came c.loop-field.fields c.next_field.new.self c.in-Some.field c.in-Ok.field c.in-Some.ensures.fields c.in-Ok.is in
    inr (refl, refused (value_in c.args.levels) c.loop-field.values.items (field_of c.in-Ok.field) c.loop-field.fields c.next_field.new.self _ c.if-field-eq-LIST_VALUES.true (no_bytes c.in-Ok.field.value c.in_default-value.not-Bytes) came c.loop-field.invariant)

pub read_list-returns : goal.read_list-returns
read_list-returns t c =
    let nothing : c.loop-field.fields ≡ [] = c.in_default.ensures.ends.0 refl in
    listed c.from_list.result c.loop-field.values.items _ (ends (value_in c.args.levels) c.loop-field.values.items c.loop-field.fields _ nothing c.loop-field.invariant) c.from_list.ensures.value c.from_list.ensures.memory

pub read_message-returns-in_err-member : goal.read_message-returns-in_err-member
read_message-returns-in_err-member t c =
    no_member c.from_residual.result c.in_err-member.field-0.0 (value_in c.args.levels) c.args.bytes.now c.from_residual.ensures.1 c.in_err-member.ensures

pub read_message-returns-in-Varint : goal.read_message-returns-in-Varint
read_message-returns-in-Varint t c =
    by_member c.read_varint.result (value_in c.args.levels) c.args.bytes.now c.in_ok-member.member (Varint c.in-Varint.n) c.in_ok-member.ensures (ap content_of c.in-Varint.is) c.read_varint.ensures

pub read_message-returns-in-Bytes : goal.read_message-returns-in-Bytes
read_message-returns-in-Bytes t c =
    by_member c.read_inside.result (value_in c.args.levels) c.args.bytes.now c.in_ok-member.member (Bytes c.in-Bytes.inside.now) c.in_ok-member.ensures (ap content_of c.in-Bytes.is) c.read_inside.ensures

pub read_message-returns-in-Eight : goal.read_message-returns-in-Eight
read_message-returns-in-Eight t c =
    inr (refl, other_member (value_in c.args.levels) c.args.bytes.now c.in_ok-member.member c.in_ok-member.ensures c.in-Eight.is)
