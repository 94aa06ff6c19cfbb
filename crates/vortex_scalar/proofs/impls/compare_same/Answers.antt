use Rattle.std.proofs.Common.{◌∙◌}
use Rattle.vortex_terms.specs.Order.{row_cmp}
use Rattle.vortex_types.specs.DTypes.{term_of}
use Rattle.vortex_types.specs.TypeRefs.{ref_term}
use Rattle.vortex_scalar.proofs.Compared.{own_row, same_row, has_row, under}
use Rattle.vortex_scalar.proofs.impls.compare_same.Goals as goal

pub compare-requires-clause-left : goal.compare-requires-clause-left
compare-requires-clause-left c =
    let t = term_of c.args.t.now in
    has_row (ref_term c.type_ref.result) c.args.a.now _ (own_row t (ref_term c.type_ref.result) c.args.a.now c.type_ref.ensures c.requires.left)

pub compare-requires-clause-right : goal.compare-requires-clause-right
compare-requires-clause-right c =
    let t = term_of c.args.t.now in
    let u = term_of c.args.u.now in
    has_row (ref_term c.type_ref.result) c.args.b.now _ (same_row t u (ref_term c.type_ref.result) c.args.b.now c.type_ref.ensures c.requires.same c.requires.right)

pub returns : goal.returns
returns c =
    let t = term_of c.args.t.now in
    let u = term_of c.args.u.now in
    let r = ref_term c.type_ref.result in
    c.compare.ensures
    ∙ (λ i. row_cmp (under r c.args.a.now _ (own_row t r c.args.a.now c.type_ref.ensures c.requires.left) i)
    (under r c.args.b.now _ (same_row t u r c.args.b.now c.type_ref.ensures c.requires.same c.requires.right) i))
