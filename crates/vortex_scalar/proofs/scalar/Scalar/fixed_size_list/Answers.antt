use Rattle.std.proofs.Common.{length, ◌∙◌}
use Rattle.vortex_terms.specs.Term.{fixed_size_list}
use Rattle.vortex_terms.specs.Row.{list_row}
use Rattle.vortex_names.specs.Nullable.{is_nullable}
use Rattle.vortex_types.specs.DTypes.{term_of}
use Rattle.vortex_scalar.specs.Made.{rows_inside}
use Rattle.vortex_scalar.proofs.Rows.{fits_at, made_at}
use Rattle.vortex_scalar.proofs.Listed.{list_fits, sized_row_of, count_inside}
use Rattle.vortex_scalar.proofs.scalar.Scalar.fixed_size_list.Goals as goal

pub new-requires-2 : goal.new-requires-2
new-requires-2 c =
    let t = term_of c.args.element in
    let n = is_nullable c.args.nullability in
    let ss = c.args.children.items in
    fits_at (fixed_size_list c.in-Ok.element c.len-size.result n) (fixed_size_list t (length ss) n) c.in_ok-value.value (list_row (rows_inside ss))
    (λ i. fixed_size_list (c.in-Ok.ensures.term i) ((c.len-size.ensures ∙ c.args.children.ok.0) i) n)
    (sized_row_of t (length ss) n ss c.in_ok-value.value c.requires.types c.in_ok-value.ensures.kept)
    (count_inside ss, list_fits t ss c.in_ok-value.value c.requires.types c.in_ok-value.ensures.kept)

pub returns-clause-scalar : goal.returns-clause-scalar
returns-clause-scalar c =
    let t = term_of c.args.element in
    let n = is_nullable c.args.nullability in
    let ss = c.args.children.items in
    made_at (fixed_size_list c.in-Ok.element c.len-size.result n) (fixed_size_list t (length ss) n) c.in_ok-value.value (list_row (rows_inside ss)) c.new-2.result
    (λ i. fixed_size_list (c.in-Ok.ensures.term i) ((c.len-size.ensures ∙ c.args.children.ok.0) i) n)
    (sized_row_of t (length ss) n ss c.in_ok-value.value c.requires.types c.in_ok-value.ensures.kept)
    (count_inside ss, list_fits t ss c.in_ok-value.value c.requires.types c.in_ok-value.ensures.kept) c.new-2.ensures
