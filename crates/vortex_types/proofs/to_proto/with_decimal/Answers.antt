use Rattle.std.proofs.Common.{◌++◌, ap, ◌∙◌}
use Rattle.vortex_wire.specs.Message.{singular_field}
use Rattle.vortex_wire.specs.Inside.{flag_field, signed_field}
use Rattle.vortex_types.proofs.Messages.{ok_same, scale_8, scale_64, three_before}
use Rattle.vortex_types.proofs.to_proto.with_decimal.Goals as goal

pub returns-clause-written : goal.returns-clause-written
returns-clause-written c =
    let d = c.args.decimal in
    let legal = c.scale.ensures.legal in
    let flag = c.in_ok-flag.ensures.written ∙ ap (λ b. flag_field 3 b ++ c.args.after) c.from.ensures in
    let eight = c.from-2.ensures ∙ scale_8 d.precision d.scale c.scale.result legal c.scale.ensures.value in
    let scale = ap (signed_field 2) (scale_64 d.precision d.scale c.from-2.result legal eight) in
    let precision = ap (singular_field 1) (c.from-3.ensures ∙ c.precision.ensures.value) in
    ok_same c.with_singular_field.result _ _ (three_before _ _ _ _ _ _ _ _ precision scale flag c.in_ok-scale.ensures.written) c.with_singular_field.ensures.written
