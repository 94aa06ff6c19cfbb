use Rattle.std.proofs.Common.{◌∙◌, ap, Ok}
use Rattle.vortex_wire.specs.Finds.{then_bytes}
use Rattle.vortex_wire.specs.Inside.{bytes_fields}
use Rattle.vortex_wire.proofs.BytesFound.{found_more, found_none}
use Rattle.vortex_wire.proofs.field.Fields.next_text.Goals as goal

pub returns-in-Ok-clause-texts : goal.returns-in-Ok-clause-texts
returns-in-Ok-clause-texts c =
    found_more c.args.number c.in-Some.bytes.now c.in-Ok.text.now c.args.self.now c.next_bytes.new.self
    (c.in_ok-bytes.ensures.bytes ∙ ap (λ o. then_bytes (Ok o) (bytes_fields c.args.number c.next_bytes.new.self)) c.in-Some.is) c.in-Ok.ensures

pub returns-in-Err-clause-texts : goal.returns-in-Err-clause-texts
returns-in-Err-clause-texts c =
    found_none c.args.number c.in-Some.bytes.now c.args.self.now c.next_bytes.new.self
    (c.in_ok-bytes.ensures.bytes ∙ ap (λ o. then_bytes (Ok o) (bytes_fields c.args.number c.next_bytes.new.self)) c.in-Some.is) c.in-Err.ensures.1
