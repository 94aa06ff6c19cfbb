use Rattle.std.proofs.Common.{◌≡◌, false, map, sym, ap, subst, ◌∙◌}
use Rattle.std.specs.List.{All}
use Rattle.std.proofs.lemmas.Result.{IfOk-weaker}
use Rattle.vortex_terms.specs.Term.{list}
use Rattle.vortex_terms.specs.Row.{list_row, rows_from}
use Rattle.vortex_types.specs.DTypes.{term_of}
use Rattle.vortex_scalar.specs.ScalarTerm.{ScalarTerm}
use Rattle.vortex_scalar.specs.Made.{typed, rows_inside}
use Rattle.vortex_convert.proofs.ListLemmas.{each_dtype, each_row}
use Rattle.vortex_convert.proofs.lists.from_vec.Goals as goal

pub list-requires-clause-types : goal.list-requires-clause-types
list-requires-clause-types g c =
    let u = term_of c.in_ok-element.element in
    subst (All (λ (s : ScalarTerm). s.dtype ≡ u)) (sym c.in_ok-scalars.ensures.scalars)
    (each_dtype g.T.ScalarType.term u g.T.NativeScalar.row_of c.args.values.items (sym c.in_ok-element.ensures.term))

pub returns-clause-scalar : goal.returns-clause-scalar
returns-clause-scalar g c =
    let type : term_of c.in_ok-element.element ≡ g.T.ScalarType.term = c.in_ok-element.ensures.term in
    let rows : rows_inside c.in_ok-scalars.scalars.items ≡ rows_from (map g.T.NativeScalar.row_of c.args.values.items) =
    ap rows_inside c.in_ok-scalars.ensures.scalars ∙ each_row g.T.ScalarType.term g.T.NativeScalar.row_of c.args.values.items in
    IfOk-weaker c.list.result _ _ (λ s h. h ∙ (λ i. typed (list (type i) false) (list_row (rows i)))) c.list.ensures.scalar
