use Rattle.std.proofs.Common.{rules, ◌≤◌}
use Rattle.vortex_types.specs.DTypes.{term_of}
use Rattle.vortex_value_rows.specs.RowOf.{row_under}
use Rattle.vortex_node_rows.specs.RowsOf.{most_rows}
use Rattle.vortex_array_make.proofs.MadeLeaves.{constant_made, constants_fit, constants_many, value_fits, value_under}
use Rattle.vortex_array_make.proofs.made_texts.ConstantArray.try_new.Goals as goal

pub made-requires-clause-shape : goal.made-requires-clause-shape
made-requires-clause-shape c =
    value_fits c.args.scalar.dtype (term_of c.into_parts-dtype.result.0) c.into_parts-dtype.result.1 c.args.scalar.row
    c.into_parts-dtype.ensures.dtype c.into_parts-dtype.ensures.value c.law.ensures.fits

pub made-requires-clause-count : goal.made-requires-clause-count
made-requires-clause-count c =
    constants_many c.args.len (row_under (term_of c.into_parts-dtype.result.0) c.into_parts-dtype.result.1)

pub made-requires-clause-fit : goal.made-requires-clause-fit
made-requires-clause-fit c =
    constants_fit c.args.scalar.dtype (term_of c.into_parts-dtype.result.0) c.args.len
    (row_under (term_of c.into_parts-dtype.result.0) c.into_parts-dtype.result.1) c.args.scalar.row
    c.into_parts-dtype.ensures.dtype
    (value_under c.args.scalar.dtype (term_of c.into_parts-dtype.result.0) c.into_parts-dtype.result.1 c.args.scalar.row
    c.into_parts-dtype.ensures.dtype c.into_parts-dtype.ensures.value) c.law.ensures.fits

pub returns : goal.returns
returns c =
    let few : c.args.len ≤ most_rows = search rules in
    constant_made c.made.result c.args.scalar (term_of c.into_parts-dtype.result.0) c.args.len
    (row_under (term_of c.into_parts-dtype.result.0) c.into_parts-dtype.result.1) few c.into_parts-dtype.ensures.dtype
    (value_under c.args.scalar.dtype (term_of c.into_parts-dtype.result.0) c.into_parts-dtype.result.1 c.args.scalar.row
    c.into_parts-dtype.ensures.dtype c.into_parts-dtype.ensures.value) c.made.ensures.dtype c.made.ensures.rows
    c.made.ensures.node
