use Rattle.std.proofs.Common.{Bool, subst, ◌≡◌, ◌≤◌, rules, length, false, true, arith}
use Rattle.std.proofs.lemmas.Grind.{common_steps}
use Rattle.std.specs.Prelude.{◌==◌}
use Rattle.std.specs.List.{list_any}
use Rattle.vortex_names.specs.Nullable.{is_nullable}
use Rattle.vortex_node_rows.specs.RowsOf.{most_rows}
use Rattle.vortex_array_make.specs.MadeNested.{is_not_long, made_structs}
use Rattle.vortex_array_data.specs.inner.Masks.{IsTaken}
use Rattle.vortex_array_make.proofs.NestedMade.{all_long, not_many, structs_are_made}
use Rattle.vortex_array_make.proofs.nested_structs.StructArray.try_new.Goals as goal

pub structs-requires-clause-long : goal.structs-requires-clause-long
structs-requires-clause-long c =
    let tested : list_any (is_not_long c.args.len) c.args.fields.items ≡ false = first_of (search rules, grind (arith, common_steps)) in
    all_long c.args.len c.args.fields.items tested

pub returns : goal.returns
returns c =
    let nl = is_nullable c.args.nullability in
    let cs = c.args.fields.items in
    let few : c.args.len ≤ most_rows = first_of (search rules, grind (arith, common_steps)) in
    let many : (length c.args.names == length cs) ≡ true = first_of (search rules, grind (arith, common_steps)) in
    let tested : list_any (is_not_long c.args.len) cs ≡ false = first_of (search rules, grind (arith, common_steps)) in
    let null : c.into.result ≡ nl = first_of (search rules, grind (arith, common_steps)) in
    let taken : IsTaken c.args.len nl c.args.validity c.in_ok-validity.validity =
    subst (λ (b : Bool). IsTaken c.args.len b c.args.validity c.in_ok-validity.validity) null c.in_ok-validity.ensures in
    let made : c.in_ok-array.array ≡ made_structs c.args.names cs c.args.len nl c.in_ok-validity.validity = first_of (search rules, grind (arith, common_steps)) in
    structs_are_made c.in_ok-array.array c.args.names cs c.args.len nl c.args.validity c.in_ok-validity.validity
    (not_many c.args.len few) many tested taken made
