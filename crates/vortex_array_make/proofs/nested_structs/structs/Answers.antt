use Rattle.std.proofs.Common.{◌≡◌, rules, arith}
use Rattle.std.proofs.lemmas.Grind.{common_steps}
use Rattle.std.specs.List.{AllByRecursion}
use Rattle.vortex_terms.specs.Term.{structure}
use Rattle.vortex_names.specs.Nullable.{is_nullable}
use Rattle.vortex_types.specs.DTypes.{term_of}
use Rattle.vortex_array_data.specs.Column.{Holds}
use Rattle.vortex_array_make.proofs.NestedRows.{named, structs_held}
use Rattle.vortex_array_make.proofs.nested_structs.structs.Goals as goal

pub made-requires-clause-shape : goal.made-requires-clause-shape
made-requires-clause-shape c =
    let nl = is_nullable c.args.nullability in
    let typed : term_of c.in_ok-dtype.dtype ≡ structure (named c.args.names c.args.fields.items) nl = first_of (search rules, grind (arith, common_steps)) in
    let fit : AllByRecursion Holds c.args.fields.items = rw c.deref.ensures.value at c.fields_law.ensures in
    (structs_held (term_of c.in_ok-dtype.dtype) c.args.n c.args.names nl c.args.validity c.args.fields typed
    c.requires.names c.requires.long c.requires.mask fit).shape

pub made-requires-clause-count : goal.made-requires-clause-count
made-requires-clause-count c =
    let nl = is_nullable c.args.nullability in
    let typed : term_of c.in_ok-dtype.dtype ≡ structure (named c.args.names c.args.fields.items) nl = first_of (search rules, grind (arith, common_steps)) in
    let fit : AllByRecursion Holds c.args.fields.items = rw c.deref.ensures.value at c.fields_law.ensures in
    (structs_held (term_of c.in_ok-dtype.dtype) c.args.n c.args.names nl c.args.validity c.args.fields typed
    c.requires.names c.requires.long c.requires.mask fit).count

pub made-requires-clause-fit : goal.made-requires-clause-fit
made-requires-clause-fit c =
    let nl = is_nullable c.args.nullability in
    let typed : term_of c.in_ok-dtype.dtype ≡ structure (named c.args.names c.args.fields.items) nl = first_of (search rules, grind (arith, common_steps)) in
    let fit : AllByRecursion Holds c.args.fields.items = rw c.deref.ensures.value at c.fields_law.ensures in
    (structs_held (term_of c.in_ok-dtype.dtype) c.args.n c.args.names nl c.args.validity c.args.fields typed
    c.requires.names c.requires.long c.requires.mask fit).fit
