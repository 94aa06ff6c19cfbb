use Rattle.vortex_node_rows.proofs.RowsCounted.{rows_count, rows_are_few}
use Rattle.vortex_node_rows.proofs.laws.rows_are_as_many.Goals as goal

pub returns-clause-count : goal.returns-clause-count
returns-clause-count c = rows_count

pub returns-clause-few : goal.returns-clause-few
returns-clause-few c = rows_are_few
