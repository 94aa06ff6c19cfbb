use Rattle.std.proofs.Common.{◌≡◌, rules, length, suc, sym, subst, arith}
use Rattle.std.proofs.lemmas.Grind.{common_steps}
use Rattle.vortex_terms.specs.Term.{list}
use Rattle.vortex_names.specs.Nullable.{is_nullable}
use Rattle.vortex_types.specs.DTypes.{term_of}
use Rattle.vortex_node_rows.specs.Buffers.{numbers_32}
use Rattle.vortex_leaves.specs.Texts.{AreOffsets}
use Rattle.vortex_array_make.proofs.NestedRows.{lists_held}
use Rattle.vortex_array_make.proofs.nested.lists.Goals as goal

pub made-requires-clause-count : goal.made-requires-clause-count
made-requires-clause-count c =
    let nl = is_nullable c.args.nullability in
    let typed : term_of c.in_ok-dtype.dtype ≡ list c.args.elements.dtype nl = first_of (search rules, grind (arith, common_steps)) in
    let same : c.in_ok-new.field-0.value ≡ c.args.elements = first_of (search rules, grind (arith, common_steps)) in
    (lists_held (term_of c.in_ok-dtype.dtype) c.args.n (numbers_32 (suc c.offsets.inside.len) c.offsets.inside.bytes) nl
    c.args.validity c.args.elements c.in_ok-new.field-0 typed same
    (subst (AreOffsets c.args.n (length c.args.elements.rows)) (sym c.offsets.view_is) c.requires.offsets)
    c.requires.mask c.law.ensures).count

pub made-requires-clause-fit : goal.made-requires-clause-fit
made-requires-clause-fit c =
    let nl = is_nullable c.args.nullability in
    let typed : term_of c.in_ok-dtype.dtype ≡ list c.args.elements.dtype nl = first_of (search rules, grind (arith, common_steps)) in
    let same : c.in_ok-new.field-0.value ≡ c.args.elements = first_of (search rules, grind (arith, common_steps)) in
    (lists_held (term_of c.in_ok-dtype.dtype) c.args.n (numbers_32 (suc c.offsets.inside.len) c.offsets.inside.bytes) nl
    c.args.validity c.args.elements c.in_ok-new.field-0 typed same
    (subst (AreOffsets c.args.n (length c.args.elements.rows)) (sym c.offsets.view_is) c.requires.offsets)
    c.requires.mask c.law.ensures).fit
