use Rattle.std.proofs.Common.{rules, ◌≡◌, ◌∙◌, Some, None, length, sym, subst}
use Rattle.vortex_node_rows.specs.RowsOf.{Validity}
use Rattle.vortex_array_data.specs.Makes.{first_refusal}
use Rattle.vortex_array_data.specs.inner.Masks.{IsTaken, mask_tests}
use Rattle.vortex_array_data.specs.declared.error.ArrayError.TheVariants.{TypeMismatch}
use Rattle.vortex_array_data.proofs.MadeMasks.{dropped_taken, null_refused}
use Rattle.vortex_array_data.proofs.made.fitting_mask.Goals as goal

pub returns-then-all_true : goal.returns-then-all_true
returns-then-all_true c =
    let is : c.args.validity ≡ Some c.in-Some.mask = search rules in
    let long : length c.in-Some.mask ≡ c.args.len = search rules in
    subst (λ (v : Validity). IsTaken c.args.len c.args.nullable v None) (sym is)
    (dropped_taken c.args.len c.args.nullable c.in-Some.mask long c.if-nullable.false
    (sym c.all_true.ensures ∙ c.if-all_true.true))

pub returns : goal.returns
returns c =
    let is : c.args.validity ≡ Some c.in-Some.mask = search rules in
    let long : length c.in-Some.mask ≡ c.args.len = search rules in
    subst (λ (v : Validity). first_refusal (mask_tests c.args.len c.args.nullable v) ≡ Some TypeMismatch) (sym is)
    (null_refused c.args.len c.args.nullable c.in-Some.mask long c.if-nullable.false
    (sym c.all_true.ensures ∙ c.if-all_true.false))
