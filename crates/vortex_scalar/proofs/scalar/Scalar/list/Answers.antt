use Rattle.vortex_terms.specs.Term.{list}
use Rattle.vortex_terms.specs.Row.{list_row}
use Rattle.vortex_names.specs.Nullable.{is_nullable}
use Rattle.vortex_types.specs.DTypes.{term_of}
use Rattle.vortex_scalar.specs.Made.{rows_inside}
use Rattle.vortex_scalar.proofs.Rows.{fits_at, made_at}
use Rattle.vortex_scalar.proofs.Listed.{list_fits, list_row_of}
use Rattle.vortex_scalar.proofs.scalar.Scalar.list.Goals as goal

pub new-requires : goal.new-requires
new-requires c =
    let t = term_of c.args.element in
    let n = is_nullable c.args.nullability in
    let ss = c.args.children.items in
    fits_at (term_of c.in-Ok.dtype) (list t n) c.in_ok-value.value (list_row (rows_inside ss)) c.in-Ok.ensures.term
    (list_row_of t n ss c.in_ok-value.value c.requires.types c.in_ok-value.ensures.kept)
    (list_fits t ss c.in_ok-value.value c.requires.types c.in_ok-value.ensures.kept)

pub returns-clause-scalar : goal.returns-clause-scalar
returns-clause-scalar c =
    let t = term_of c.args.element in
    let n = is_nullable c.args.nullability in
    let ss = c.args.children.items in
    made_at (term_of c.in-Ok.dtype) (list t n) c.in_ok-value.value (list_row (rows_inside ss)) c.new.result c.in-Ok.ensures.term
    (list_row_of t n ss c.in_ok-value.value c.requires.types c.in_ok-value.ensures.kept)
    (list_fits t ss c.in_ok-value.value c.requires.types c.in_ok-value.ensures.kept) c.new.ensures
