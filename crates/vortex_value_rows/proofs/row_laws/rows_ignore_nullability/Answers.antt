use Rattle.vortex_value_rows.specs.RowLaws.{row_of-same}
use Rattle.vortex_value_rows.proofs.row_laws.rows_ignore_nullability.Goals as goal

pub returns : goal.returns
returns c = row_of-same
