use Rattle.std.proofs.Common.{Some, None, ap, ◌∙◌}
use Rattle.vortex_types.proofs.Fields.{field_get, get_some, get_none}
use Rattle.vortex_types.proofs.struct_fields.StructFields.field_by_index.Goals as goal

pub returns-in_ok-value-in-Some-clause-field : goal.returns-in_ok-value-in-Some-clause-field
returns-in_ok-value-in-Some-clause-field c =
    let here = c.in-Some.ensures.lookup in
    ap Some c.in_ok-value-in-Some.ensures.term
    ∙ field_get c.args.self.now c.kinds.result.now c.args.index (Some c.in-Some.field.now) c.kinds.ensures (get_some c.kinds.result.now c.args.index c.in-Some.field.now here.3.0 here.1)

pub returns-in-None-clause-field : goal.returns-in-None-clause-field
returns-in-None-clause-field c =
    field_get c.args.self.now c.kinds.result.now c.args.index None c.kinds.ensures (get_none c.kinds.result.now c.args.index c.in-None.ensures.lookup.3)
