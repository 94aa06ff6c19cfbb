use Rattle.vortex_ipc.specs.inner.Begun.{begun_bytes, taken_bytes}
use Rattle.std.proofs.Common.{◌++◌, ◌∙◌, ap}
use Rattle.vortex_encodings.specs.Encodings.{names_of}
use Rattle.vortex_ipc.proofs.Steps.{late}
use Rattle.vortex_ipc.proofs.decoder.step.Goals as goal

pub returns-in-Ok-Header-clause-stopped : goal.returns-in-Ok-Header-clause-stopped
returns-in-Ok-Header-clause-stopped c =
    late (names_of c.args.registry) c.args.wanted c.take_body.result (begun_bytes c.args.begun) c.args.bytes.now (taken_bytes c.in-Ok-Header.taken) c.take_front.new.bytes c.take_body.new.bytes (c.in-Ok-Header.ensures.kept ∙ ap (λ b. begun_bytes b ++ c.take_front.new.bytes) c.in-Ok-Header.field-0-is) c.in-Ok-Header.ensures.lost c.take_body.ensures.stopped
