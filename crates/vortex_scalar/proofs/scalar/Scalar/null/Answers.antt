use Rattle.vortex_terms.specs.Row.{null_row}
use Rattle.vortex_terms.specs.RowLaws.{Fits-null}
use Rattle.vortex_types.specs.DTypes.{term_of}
use Rattle.vortex_scalar_value.specs.Value.{null_value}
use Rattle.vortex_scalar.proofs.Rows.{fits_as, made_as, null_row_of}
use Rattle.vortex_scalar.proofs.scalar.Scalar.null.Goals as goal

pub new-requires : goal.new-requires
new-requires c =
    fits_as (term_of c.args.dtype) c.null.result null_value null_row c.null.ensures (null_row_of (term_of c.args.dtype)) ((Fits-null (term_of c.args.dtype)).1 c.requires)

pub returns : goal.returns
returns c =
    made_as (term_of c.args.dtype) c.null.result null_value null_row c.new.result c.null.ensures (null_row_of (term_of c.args.dtype)) ((Fits-null (term_of c.args.dtype)).1 c.requires) c.new.ensures
