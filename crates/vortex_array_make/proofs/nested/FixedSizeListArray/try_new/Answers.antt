use Rattle.std.proofs.Common.{Bool, subst, ◌≡◌, ◌≤◌, ◌*◌, rules, length, arith}
use Rattle.std.proofs.lemmas.Grind.{common_steps}
use Rattle.vortex_names.specs.Nullable.{is_nullable}
use Rattle.vortex_node_rows.specs.RowsOf.{most_rows}
use Rattle.vortex_array_make.specs.MadeNested.{made_fixed_lists}
use Rattle.vortex_array_data.specs.inner.Masks.{IsTaken}
use Rattle.vortex_array_make.proofs.NestedMade.{fixed_are_made, is_as_long, not_many}
use Rattle.vortex_array_make.proofs.nested.FixedSizeListArray.try_new.Goals as goal

pub returns : goal.returns
returns c =
    let nl = is_nullable c.args.nullability in
    let few : c.args.len ≤ most_rows = first_of (search rules, grind (arith, common_steps)) in
    let long : length c.args.elements.rows ≡ c.args.len * c.args.size = first_of (search rules, grind (arith, common_steps)) in
    let null : c.into.result ≡ nl = first_of (search rules, grind (arith, common_steps)) in
    let taken : IsTaken c.args.len nl c.args.validity c.in_ok-validity.validity =
    subst (λ (b : Bool). IsTaken c.args.len b c.args.validity c.in_ok-validity.validity) null c.in_ok-validity.ensures in
    let made : c.in_ok-array.array ≡ made_fixed_lists c.args.elements c.args.size c.args.len nl c.in_ok-validity.validity = first_of (search rules, grind (arith, common_steps)) in
    fixed_are_made c.in_ok-array.array c.args.elements c.args.size c.args.len nl c.args.validity
    c.in_ok-validity.validity (not_many c.args.len few) (is_as_long (c.args.len * c.args.size) c.args.elements long) taken made
