use Rattle.vortex_scalar.proofs.MessageRows.{row_stays, row_levels}
use Rattle.vortex_scalar.proofs.message_laws.written_rows_stay.Goals as goal

pub returns-clause-levels : goal.returns-clause-levels
returns-clause-levels c = row_levels

pub returns-clause-rows : goal.returns-clause-rows
returns-clause-rows c = row_stays
