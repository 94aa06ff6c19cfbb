use Rattle.std.proofs.Common.{Some, None, ap, ◌∙◌, inr}
use Rattle.std.specs.Prelude.{ok_or}
use Rattle.vortex_names.specs.declared.error.DTypeError.TheVariants as error
use Rattle.vortex_types.proofs.Projected.{made_answer, found_field, project_none, project_step}
use Rattle.vortex_types.proofs.Projected.{project_all}
use Rattle.vortex_types.proofs.struct_fields.StructFields.project.Goals as goal

pub returns-in-None : goal.returns-in-None
returns-in-None c =
    let none = found_field c.args.self.now c.as_slice.result.now c.kinds-kinds.result.now c.name-item.result _ None
    (c.as_slice.ensures ∙ c.names.ensures) c.kinds-kinds.ensures (c.in_ok-places.ensures.places c.name-item.result) c.in-None.ensures in
    inr (ap (λ o. ok_or o error.FieldNotFound) (project_none c.args.self.now _ c.args.projection.now c.loop-name.name-index c.name-item.result c.loop-name-test.true c.name-item.is none c.loop-name.invariant.1))

pub loop-name-preserved : goal.loop-name-preserved
loop-name-preserved c =
    let found = found_field c.args.self.now c.as_slice.result.now c.kinds-kinds.result.now c.name-item.result _ (Some c.in-Some.field.now)
    (c.as_slice.ensures ∙ c.names.ensures) c.kinds-kinds.ensures (c.in_ok-places.ensures.places c.name-item.result) c.in-Some.ensures in
    rw (c.in_ok-push-in-Some.ensures.items, c.in_ok-push-in-Some-2.ensures.items, c.in_ok-try_clone-in-Some.ensures.name, c.in_ok-try_clone-in-Some-2.ensures.term)
    (project_step c.args.self.now c.loop-name.names.items c.loop-name.dtypes.items c.args.projection.now c.loop-name.name-index c.name-item.result c.in-Some.field.now
    c.loop-name.invariant.0 c.loop-name-test.true c.name-item.is found c.loop-name.invariant.1)

pub returns : goal.returns
returns c =
    made_answer c.made.result _ _
    (ap (λ o. ok_or o error.FieldNotFound) (project_all c.args.self.now _ c.args.projection.now c.loop-name.name-index c.loop-name-test.false c.loop-name.invariant.1))
    c.made.ensures.fields c.made.ensures.memory
