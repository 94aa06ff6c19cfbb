use Rattle.std.proofs.Common.{◌≡◌, ◌≤◌, rules, length, true, subst, sym, List, ℕ, Bool, arith}
use Rattle.std.proofs.lemmas.Grind.{common_steps}
use Rattle.vortex_names.specs.Nullable.{is_nullable}
use Rattle.vortex_node_rows.specs.RowsOf.{most_rows}
use Rattle.vortex_leaves.specs.OffsetTest.{offsets_part}
use Rattle.vortex_leaves.specs.Texts.{AreOffsets}
use Rattle.vortex_array_make.specs.MadeNested.{list_count, made_lists}
use Rattle.vortex_array_data.specs.inner.Masks.{IsTaken}
use Rattle.vortex_array_make.proofs.NestedMade.{lists_are_made, not_many}
use Rattle.vortex_array_make.proofs.OffsetTests.{tested_are}
use Rattle.vortex_array_make.proofs.nested.ListArray.try_new.Goals as goal

pub lists-requires-clause-offsets : goal.lists-requires-clause-offsets
lists-requires-clause-offsets c =
    let os = c.args.offsets.items in
    let end = length c.args.elements.rows in
    let same : c.in_ok-offsets.offsets ≡ os = first_of (search rules, grind (arith, common_steps)) in
    let tested : offsets_part os end ≡ true = first_of (search rules, grind (arith, common_steps)) in
    let rows : c.saturating_sub-n.result ≡ list_count os = first_of (search rules, grind (arith, common_steps)) in
    subst (λ (n : ℕ). AreOffsets n end c.in_ok-offsets.offsets) (sym rows)
    (subst (λ (l : List ℕ). AreOffsets (list_count os) end l) (sym same) (tested_are end os tested))

pub returns : goal.returns
returns c =
    let os = c.args.offsets.items in
    let nl = is_nullable c.args.nullability in
    let same : c.in_ok-offsets.offsets ≡ os = first_of (search rules, grind (arith, common_steps)) in
    let few : list_count os ≤ most_rows = first_of (search rules, grind (arith, common_steps)) in
    let tested : offsets_part os (length c.args.elements.rows) ≡ true = first_of (search rules, grind (arith, common_steps)) in
    let rows : c.saturating_sub-n.result ≡ list_count os = first_of (search rules, grind (arith, common_steps)) in
    let null : c.into.result ≡ nl = first_of (search rules, grind (arith, common_steps)) in
    let taken : IsTaken (list_count os) nl c.args.validity c.in_ok-validity.validity =
    subst (λ (n : ℕ). IsTaken n nl c.args.validity c.in_ok-validity.validity) rows
    (subst (λ (b : Bool). IsTaken c.saturating_sub-n.result b c.args.validity c.in_ok-validity.validity) null c.in_ok-validity.ensures) in
    let made : c.in_ok-array.array ≡ made_lists c.args.elements c.in_ok-offsets.offsets nl c.in_ok-validity.validity = first_of (search rules, grind (arith, common_steps)) in
    lists_are_made c.in_ok-array.array c.args.elements os c.in_ok-offsets.offsets nl c.args.validity
    c.in_ok-validity.validity same (not_many (list_count os) few) tested taken made
