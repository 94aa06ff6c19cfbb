use Rattle.std.proofs.Common.{◌∙◌, Some, ap, sym}
use Rattle.std.specs.Prelude.{is_some}
use Rattle.vortex_types.proofs.Fields.{get_some, get_none}
use Rattle.vortex_array_data.proofs.HeldParts.{fields_in, field_there, field_is}
use Rattle.vortex_array_data.proofs.held.Array.struct_field_opt.Goals as goal

pub returns-in-Some-clause-there : goal.returns-in-Some-clause-there
returns-in-Some-clause-there c =
    let here = c.in-Some.ensures.lookup in
    ap is_some (get_some c.deref.result.now c.args.i c.in-Some.field.now here.3.0 here.1)
    ∙ field_there c.self.inside c.args.self.now c.deref.result.now c.args.i c.self.invariant c.self.view_is
    (ap fields_in c.in-Structs.is ∙ ap Some (sym c.deref.ensures.value))

pub returns-in-Some-clause-field : goal.returns-in-Some-clause-field
returns-in-Some-clause-field c =
    let here = c.in-Some.ensures.lookup in
    field_is c.self.inside c.args.self.now c.deref.result.now c.args.i c.in-Some.field.now c.self.invariant
    c.self.view_is (ap fields_in c.in-Structs.is ∙ ap Some (sym c.deref.ensures.value))
    (sym (get_some c.deref.result.now c.args.i c.in-Some.field.now here.3.0 here.1))

pub returns-in-None-clause-there : goal.returns-in-None-clause-there
returns-in-None-clause-there c =
    ap is_some (get_none c.deref.result.now c.args.i c.in-None.ensures.lookup.3)
    ∙ field_there c.self.inside c.args.self.now c.deref.result.now c.args.i c.self.invariant c.self.view_is
    (ap fields_in c.in-Structs.is ∙ ap Some (sym c.deref.ensures.value))
