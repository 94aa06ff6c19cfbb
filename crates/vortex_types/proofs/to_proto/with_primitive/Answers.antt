use Rattle.std.proofs.Common.{◌++◌, ap, ◌∙◌}
use Rattle.vortex_wire.specs.Message.{singular_field}
use Rattle.vortex_wire.specs.Inside.{flag_field}
use Rattle.vortex_types.proofs.Messages.{ok_same, two_before}
use Rattle.vortex_types.proofs.Written.{ptype_kind}
use Rattle.vortex_types.proofs.to_proto.with_primitive.Goals as goal

pub returns-clause-written : goal.returns-clause-written
returns-clause-written c =
    let flag = c.in_ok-flag.ensures.written ∙ ap (λ b. flag_field 2 b ++ c.args.after) c.from.ensures in
    let number = ap (singular_field 1) (c.from-2.ensures ∙ c.number.ensures ∙ ptype_kind c.args.ptype) in
    ok_same c.with_singular_field.result _ _ (two_before _ _ _ _ _ number flag) c.with_singular_field.ensures.written
