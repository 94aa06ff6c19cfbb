use Rattle.std.proofs.Common.{refl}
use Rattle.vortex_terms.specs.Row.{list_row}
use Rattle.vortex_types.specs.DTypes.{term_of}
use Rattle.vortex_scalar.specs.Made.{rows_inside}
use Rattle.vortex_scalar.proofs.Rows.{fits_at, made_at}
use Rattle.vortex_scalar.proofs.Listed.{struct_fits, struct_row_of}
use Rattle.vortex_scalar.proofs.scalar.Scalar.struct_.Goals as goal

pub new-requires : goal.new-requires
new-requires c =
    let t = term_of c.args.dtype in
    let ss = c.args.children.items in
    fits_at t t c.in_ok-value.value (list_row (rows_inside ss)) refl (struct_row_of t ss c.in_ok-value.value c.requires.fields c.requires.types c.in_ok-value.ensures.kept)
    (struct_fits t ss c.in_ok-value.value c.requires.fields c.requires.types c.in_ok-value.ensures.kept)

pub returns-clause-scalar : goal.returns-clause-scalar
returns-clause-scalar c =
    let t = term_of c.args.dtype in
    let ss = c.args.children.items in
    made_at t t c.in_ok-value.value (list_row (rows_inside ss)) c.new.result refl (struct_row_of t ss c.in_ok-value.value c.requires.fields c.requires.types c.in_ok-value.ensures.kept)
    (struct_fits t ss c.in_ok-value.value c.requires.fields c.requires.types c.in_ok-value.ensures.kept) c.new.ensures
