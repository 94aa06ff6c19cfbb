use Rattle.vortex_node_rows.proofs.RowsFit.{rows_fitting}
use Rattle.vortex_node_rows.proofs.laws.rows_fit.Goals as goal

pub returns : goal.returns
returns c = rows_fitting
