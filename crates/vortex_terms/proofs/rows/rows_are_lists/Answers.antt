use Rattle.vortex_terms.specs.Fits.{Fits}
use Rattle.vortex_terms.specs.RowLaws.{rows_from-list, row_list-from, length-row_list}
use Rattle.vortex_terms.specs.RowListLaws.{row_at-get, AllRows-All}
use Rattle.vortex_terms.proofs.rows.rows_are_lists.Goals as goal

pub returns-clause-back : goal.returns-clause-back
returns-clause-back c = rows_from-list

pub returns-clause-forth : goal.returns-clause-forth
returns-clause-forth c = row_list-from

pub returns-clause-places : goal.returns-clause-places
returns-clause-places c = row_at-get

pub returns-clause-count : goal.returns-clause-count
returns-clause-count c = length-row_list

pub returns-clause-each : goal.returns-clause-each
returns-clause-each c = λ t. AllRows-All (Fits t)
