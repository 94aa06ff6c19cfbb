use Rattle.std.proofs.Common.{◌≡◌, [], refl, ap}
use Rattle.vortex_wire.specs.Field.{content_of, field_of}
use Rattle.vortex_wire.proofs.Singular.{starts, goes_past, goes_on, refused, ends, field_came, no_varint}
use Rattle.vortex_wire.proofs.message.singular_varint.Goals as goal

pub loop-field-init : goal.loop-field-init
loop-field-init c = rw c.new-fields.ensures (starts c.args.number c.args.b.now)

pub loop-field-preserved-in-Varint : goal.loop-field-preserved-in-Varint
loop-field-preserved-in-Varint c =
    let came = field_came c.loop-field.fields c.next_field.new.self c.in-Some.field c.in-Ok.field c.in-Some.ensures.fields c.in-Ok.is in
    goes_on c.args.number c.in-Varint.n (field_of c.in-Ok.field) c.loop-field.fields c.next_field.new.self c.loop-field.last _ c.if-field-number.true (ap content_of c.in-Varint.is) came c.loop-field.invariant

pub returns-in_default-value : goal.returns-in_default-value
returns-in_default-value c =
    let came = field_came c.loop-field.fields c.next_field.new.self c.in-Some.field c.in-Ok.field c.in-Some.ensures.fields c.in-Ok.is in
    refused c.args.number (field_of c.in-Ok.field) c.loop-field.fields c.next_field.new.self c.loop-field.last _ c.if-field-number.true (no_varint c.in-Ok.field.value c.in_default-value.not-Varint) came c.loop-field.invariant

pub loop-field-preserved : goal.loop-field-preserved
loop-field-preserved c =
    let came = field_came c.loop-field.fields c.next_field.new.self c.in-Some.field c.in-Ok.field c.in-Some.ensures.fields c.in-Ok.is in
    goes_past c.args.number (field_of c.in-Ok.field) c.loop-field.fields c.next_field.new.self c.loop-field.last _ c.if-field-number.false came c.loop-field.invariant

pub returns : goal.returns
returns c =
    let nothing : c.loop-field.fields ≡ [] = c.in_default.ensures.ends.0 refl in
    ends c.args.number c.loop-field.fields c.loop-field.last _ nothing c.loop-field.invariant
