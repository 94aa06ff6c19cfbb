use Rattle.std.proofs.Common.{◌+◌, [], ◌∷◌, ◌++◌, sym, subst, ap, ◌∙◌}
use Rattle.vortex_terms.specs.Term.{Term}
use Rattle.vortex_schema.specs.Views.{fields_of}
use Rattle.vortex_types.specs.DTypes.{term_of}
use Rattle.vortex_dtype.proofs.Selected.{Types, types_on, types_all}
use Rattle.vortex_dtype.proofs.viewed_fields.named_types.Goals as goal

pub loop-name-preserved : goal.loop-name-preserved
loop-name-preserved c =
    let fs = fields_of c.args.fields.now in
    let ts = c.loop-name.dtypes.items in
    subst (Types fs c.args.names.now (c.loop-name.name-index + 1)) (sym (c.in_ok-push-in-Ok.ensures.items ∙ ap (λ (t : Term). ts ++ t ∷ []) c.from_dtype.ensures))
    (types_on fs c.args.names.now c.loop-name.name-index ts c.name-item.result (term_of c.in-Ok.dtype) c.loop-name-test.true c.name-item.is c.in-Ok.ensures c.loop-name.invariant)

pub returns-clause-fields : goal.returns-clause-fields
returns-clause-fields c =
    types_all (fields_of c.args.fields.now) c.args.names.now c.loop-name.name-index c.loop-name.dtypes.items c.loop-name-test.false c.loop-name.invariant
