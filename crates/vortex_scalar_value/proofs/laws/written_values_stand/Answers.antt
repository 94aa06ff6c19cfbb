use Rattle.vortex_scalar_value.proofs.Written.{value_written, levels_read, written_again}
use Rattle.vortex_scalar_value.proofs.laws.written_values_stand.Goals as goal

pub returns-clause-stands : goal.returns-clause-stands
returns-clause-stands c = value_written

pub returns-clause-levels : goal.returns-clause-levels
returns-clause-levels c = levels_read

pub returns-clause-again : goal.returns-clause-again
returns-clause-again c = written_again
