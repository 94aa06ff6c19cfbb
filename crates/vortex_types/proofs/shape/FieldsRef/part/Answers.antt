use Rattle.std.proofs.Common.{◌≡◌, rules, Some, None, ap, ◌∙◌}
use Rattle.vortex_terms.specs.Types.{types_of}
use Rattle.vortex_types.specs.TypeRefs.{fields_term}
use Rattle.vortex_types.proofs.Fields.{field_get, get_some, get_none}
use Rattle.vortex_types.proofs.shape.FieldsRef.part.Goals as goal

pub returns-in-Some : goal.returns-in-Some
returns-in-Some c =
    let here = c.in-Some.ensures.lookup in
    let all : c.kinds.result.now ≡ types_of (fields_term c.args.self) = search rules in
    ap Some c.type_ref.ensures
    ∙ field_get (fields_term c.args.self) c.kinds.result.now c.args.i (Some c.in-Some.field.now) all (get_some c.kinds.result.now c.args.i c.in-Some.field.now here.3.0 here.1)

pub returns-in-None : goal.returns-in-None
returns-in-None c =
    let all : c.kinds.result.now ≡ types_of (fields_term c.args.self) = search rules in
    field_get (fields_term c.args.self) c.kinds.result.now c.args.i None all (get_none c.kinds.result.now c.args.i c.in-None.ensures.lookup.3)
