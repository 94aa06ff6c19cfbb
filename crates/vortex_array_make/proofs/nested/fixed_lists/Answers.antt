use Rattle.std.proofs.Common.{◌≡◌, rules, arith}
use Rattle.std.proofs.lemmas.Grind.{common_steps}
use Rattle.vortex_terms.specs.Term.{fixed_size_list}
use Rattle.vortex_names.specs.Nullable.{is_nullable}
use Rattle.vortex_types.specs.DTypes.{term_of}
use Rattle.vortex_array_make.proofs.NestedRows.{fixed_held}
use Rattle.vortex_array_make.proofs.nested.fixed_lists.Goals as goal

pub made-requires-clause-count : goal.made-requires-clause-count
made-requires-clause-count c =
    let nl = is_nullable c.args.nullability in
    let typed : term_of c.in_ok-dtype.dtype ≡ fixed_size_list c.args.elements.dtype c.args.size nl = first_of (search rules, grind (arith, common_steps)) in
    let same : c.in_ok-new.field-0.value ≡ c.args.elements = first_of (search rules, grind (arith, common_steps)) in
    (fixed_held (term_of c.in_ok-dtype.dtype) c.args.n c.args.size nl c.args.validity c.args.elements
    c.in_ok-new.field-0 typed same c.requires.elements c.requires.mask c.law.ensures).count

pub made-requires-clause-fit : goal.made-requires-clause-fit
made-requires-clause-fit c =
    let nl = is_nullable c.args.nullability in
    let typed : term_of c.in_ok-dtype.dtype ≡ fixed_size_list c.args.elements.dtype c.args.size nl = first_of (search rules, grind (arith, common_steps)) in
    let same : c.in_ok-new.field-0.value ≡ c.args.elements = first_of (search rules, grind (arith, common_steps)) in
    (fixed_held (term_of c.in_ok-dtype.dtype) c.args.n c.args.size nl c.args.validity c.args.elements
    c.in_ok-new.field-0 typed same c.requires.elements c.requires.mask c.law.ensures).fit
