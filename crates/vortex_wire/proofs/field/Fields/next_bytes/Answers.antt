use Rattle.std.proofs.Common.{◌≡◌, ◌∙◌, [], refl, ap, arith}
use Rattle.vortex_wire.specs.Field.{content_of, field_of}
use Rattle.vortex_wire.specs.Inside.{bytes_in}
use Rattle.vortex_wire.proofs.Singular.{field_came}
use Rattle.vortex_wire.proofs.BytesFound.{goes_past, goes_on, refused, cut_off, ends, field_failed, no_bytes}
use Rattle.vortex_wire.proofs.field.Fields.next_bytes.Goals as goal

pub returns-in-Err-clause-bytes : goal.returns-in-Err-clause-bytes
returns-in-Err-clause-bytes c =
    let failed = field_failed c.loop-field.self c.next_field.new.self c.in-Some.field c.in-Err.error c.in-Some.ensures.fields c.in-Err.is in
    c.loop-field.invariant.0 ∙ cut_off c.args.number c.loop-field.self failed

pub returns-in-Bytes-clause-bytes : goal.returns-in-Bytes-clause-bytes
returns-in-Bytes-clause-bytes c =
    let came = field_came c.loop-field.self c.next_field.new.self c.in-Some.field c.in-Ok.field c.in-Some.ensures.fields c.in-Ok.is in
    c.loop-field.invariant.0
    ∙ goes_on c.args.number c.in-Bytes.bytes.now (field_of c.in-Ok.field) c.loop-field.self c.next_field.new.self c.if-field-number.true (ap (λ v. bytes_in (content_of v)) c.in-Bytes.is) came

pub returns-in_default-value : goal.returns-in_default-value
returns-in_default-value c =
    let came = field_came c.loop-field.self c.next_field.new.self c.in-Some.field c.in-Ok.field c.in-Some.ensures.fields c.in-Ok.is in
    let none = refused c.args.number (field_of c.in-Ok.field) c.loop-field.self c.next_field.new.self c.if-field-number.true (no_bytes c.in-Ok.field.value c.in_default-value.not-Bytes) came in
    record { bytes = c.loop-field.invariant.0 ∙ none; shorter = tt; malformed = refl }

pub loop-field-preserved : goal.loop-field-preserved
loop-field-preserved c =
    let came = field_came c.loop-field.self c.next_field.new.self c.in-Some.field c.in-Ok.field c.in-Some.ensures.fields c.in-Ok.is in
    (c.loop-field.invariant.0 ∙ goes_past c.args.number (field_of c.in-Ok.field) c.loop-field.self c.next_field.new.self c.if-field-number.false came, omega (arith, c.loop-field.invariant.1, c.in-Some.ensures.shorter))

pub returns-clause-bytes : goal.returns-clause-bytes
returns-clause-bytes c =
    let nothing : c.loop-field.self ≡ [] = c.in_default.ensures.ends.0 refl in
    c.loop-field.invariant.0 ∙ ends c.args.number c.loop-field.self nothing
